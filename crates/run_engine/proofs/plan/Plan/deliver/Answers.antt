use Rattle.std.proofs.Common.{refl}
use Rattle.std.proofs.lemmas.Result.{on_ok_weaker}
use Rattle.run_engine.proofs.Plans.{link_here}
use Rattle.run_engine.proofs.Events.{delivered_plan, undelivered_tracks}
use Rattle.run_engine.proofs.plan.Plan.deliver.Goals as goal

pub returns-in_default-clause-tracks : goal.returns-in_default-clause-tracks
returns-in_default-clause-tracks g c = λ course t.
    undelivered_tracks g.T.Claims.IsOf c.args.self.now c.args.self.now.service course c.args.node c.args.bytes t c.in_default.ensures

pub returns-clause-tracks : goal.returns-clause-tracks
returns-clause-tracks g c = λ course t.
    let here = link_here c.args.self.now.service c.args.self.now.links.items course.links c.in-Some.index c.index_mut.result.now t.links c.in-Some.ensures.within c.index_mut.ensures.value in
    on_ok_weaker c.deliver.result
    (λ tracks. delivered_plan g.T.Claims.IsOf c.args.self.now _ c.args.self.now.service course c.args.node c.in-Some.index c.args.bytes c.deliver.new.self here.link t
    c.in-Some.ensures here.link_is tracks refl refl refl refl refl)
    (c.deliver.ensures course.calls here.link t.claims here.tracks)
