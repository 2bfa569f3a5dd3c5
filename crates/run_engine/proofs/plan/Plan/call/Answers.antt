use Rattle.std.proofs.Common.{sym, ◌∙◌, subst}
use Rattle.std.proofs.lemmas.Result.{on_ok_weaker}
use Rattle.run_course.specs.Courses.{Course}
use Rattle.run_engine.specs.Claims.{claims_of}
use Rattle.run_engine.specs.Tracks.{Tracks}
use Rattle.run_engine.proofs.Events.{called_full, called_closed, called_open}
use Rattle.run_engine.proofs.plan.Plan.call.Goals as goal

pub returns-then-is_full-clause-tracks : goal.returns-then-is_full-clause-tracks
returns-then-is_full-clause-tracks g c = λ course t.
    on_ok_weaker c.refuse.result
    (λ tracks. subst (λ (after : Course). Tracks g.T.Claims.IsOf c.refuse.new.self after)
    (sym (called_full c.args.self.now.service course c.args.spec.now (sym (c.is_full.ensures (claims_of course.calls) t.claims) ∙ c.if-is_full.true))) tracks)
    (c.refuse.ensures.tracks course t)

pub returns-then-self-clause-tracks : goal.returns-then-self-clause-tracks
returns-then-self-clause-tracks g c = λ course t.
    on_ok_weaker c.refuse-then-self.result
    (λ tracks. subst (λ (after : Course). Tracks g.T.Claims.IsOf c.refuse-then-self.new.self after)
    (sym (called_closed c.args.self.now.service course c.args.spec.now (sym (c.is_full.ensures (claims_of course.calls) t.claims) ∙ c.if-is_full.false) (sym t.closed_is ∙ c.if-self.true))) tracks)
    (c.refuse-then-self.ensures.tracks course t)

pub returns-clause-tracks : goal.returns-clause-tracks
returns-clause-tracks g c = λ course t.
    on_ok_weaker c.open_call.result
    (λ tracks. subst (λ (after : Course). Tracks g.T.Claims.IsOf c.open_call.new.self after)
    (sym (called_open c.args.self.now.service course c.args.spec.now (sym (c.is_full.ensures (claims_of course.calls) t.claims) ∙ c.if-is_full.false) (sym t.closed_is ∙ c.if-self.false))) tracks)
    (c.open_call.ensures.tracks course t)
