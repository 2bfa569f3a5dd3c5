use Rattle.std.proofs.Common.{refl, subst}
use Rattle.std.proofs.lemmas.Result.{on_ok_weaker}
use Rattle.run_course.specs.Courses.{serves}
use Rattle.run_engine.specs.Tracks.{TracksLink}
use Rattle.run_engine.proofs.Plans.{link_here, changed_tracks, unchanged_tracks}
use Rattle.run_engine.proofs.plan.Plan.serve.Goals as goal

pub returns-in_default-clause-tracks : goal.returns-in_default-clause-tracks
returns-in_default-clause-tracks g c = λ course t.
    unchanged_tracks g.T.Claims.IsOf c.args.self.now course (serves c.args.self.now.service course.moment c.args.bytes) c.args.node t c.in_default.ensures

pub returns-clause-tracks : goal.returns-clause-tracks
returns-clause-tracks g c = λ course t.
    let here = link_here c.args.self.now.service c.args.self.now.links.items course.links c.in-Some.index c.index_mut.result.now t.links c.in-Some.ensures.within c.index_mut.ensures.value in
    on_ok_weaker c.serve.result
    (λ tracks. changed_tracks g.T.Claims.IsOf c.args.self.now _ course (serves c.args.self.now.service course.moment c.args.bytes) c.args.node c.in-Some.index c.serve.new.self here.link t
    c.in-Some.ensures here.link_is
    (subst (λ moment. TracksLink c.args.self.now.service c.serve.new.self (serves c.args.self.now.service moment c.args.bytes here.link)) t.moment_is tracks) refl refl refl refl refl refl)
    (c.serve.ensures here.link here.tracks)
