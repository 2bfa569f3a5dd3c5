use Rattle.std.proofs.Common.{refl, subst}
use Rattle.std.proofs.lemmas.Result.{on_ok_weaker}
use Rattle.run_course.specs.Courses.{worked}
use Rattle.run_engine.specs.Tracks.{TracksLink}
use Rattle.run_engine.proofs.Plans.{link_here, changed_tracks, unchanged_tracks}
use Rattle.run_engine.proofs.plan.Plan.work.Goals as goal

pub returns-in_default-clause-tracks : goal.returns-in_default-clause-tracks
returns-in_default-clause-tracks g c = λ course t.
    unchanged_tracks g.T.Claims.IsOf c.args.self.now course (worked c.args.self.now.service course.moment) c.args.node t c.in_default.ensures

pub work-requires : goal.work-requires
work-requires g c =
    let r = c.requires.tracks in
    let here = link_here c.args.self.now.service c.args.self.now.links.items r.0.links c.in-Some.index c.index_mut.result.now r.1.links c.in-Some.ensures.within c.index_mut.ensures.value in
    record { tracks = (here.link, here.tracks) }

pub returns-clause-tracks : goal.returns-clause-tracks
returns-clause-tracks g c = λ course t.
    let here = link_here c.args.self.now.service c.args.self.now.links.items course.links c.in-Some.index c.index_mut.result.now t.links c.in-Some.ensures.within c.index_mut.ensures.value in
    on_ok_weaker c.work.result
    (λ tracks. changed_tracks g.T.Claims.IsOf c.args.self.now _ course (worked c.args.self.now.service course.moment) c.args.node c.in-Some.index c.work.new.self here.link t
    c.in-Some.ensures here.link_is
    (subst (λ moment. TracksLink c.args.self.now.service c.work.new.self (worked c.args.self.now.service moment here.link)) t.moment_is tracks) refl refl refl refl refl refl)
    (c.work.ensures here.link here.tracks)
