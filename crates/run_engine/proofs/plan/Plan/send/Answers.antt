use Rattle.std.proofs.Common.{refl}
use Rattle.std.proofs.lemmas.Result.{on_ok_weaker}
use Rattle.run_course.specs.Courses.{sends}
use Rattle.run_engine.proofs.Plans.{link_here, changed_tracks, unchanged_tracks}
use Rattle.run_engine.proofs.plan.Plan.send.Goals as goal

pub returns-in_default-clause-tracks : goal.returns-in_default-clause-tracks
returns-in_default-clause-tracks g c = λ course t. unchanged_tracks g.T.Claims.IsOf c.args.self.now course (sends c.args.row) c.args.node t c.in_default.ensures

pub returns-clause-tracks : goal.returns-clause-tracks
returns-clause-tracks g c = λ course t.
    let here = link_here c.args.self.now.service c.args.self.now.links.items course.links c.in-Some.index c.index_mut.result.now t.links c.in-Some.ensures.within c.index_mut.ensures.value in
    on_ok_weaker c.send.result
    (λ tracks. changed_tracks g.T.Claims.IsOf c.args.self.now _ course (sends c.args.row) c.args.node c.in-Some.index c.send.new.self here.link t c.in-Some.ensures here.link_is tracks refl refl refl refl refl refl)
    (c.send.ensures c.args.self.now.service here.link here.tracks)
