use Rattle.std.proofs.Common.{◌≡◌, ◌<◌, ◌+◌, ℕ, zero, suc, List, [], ◌∷◌, length, drop, sym, ap, ◌∙◌, subst, arith, add-one, drop-cons}
use Rattle.std.specs.Prelude.{fold, slice_index_or}
use Rattle.std.specs.List.{AllByRecursion}
use Rattle.std.proofs.lemmas.List.{drop_all}
use Rattle.script_session.specs.Judged.{IsEvent}
use Rattle.script_session.specs.declared.session.Event.{Event}
use Rattle.script_session.specs.declared.session.Session.{Session}
use Rattle.run_course.specs.Courses.{Course, step}
use Rattle.run_engine.specs.Tracks.{Tracks}
use Rattle.run_engine.proofs.plan.Plan.run.Goals as goal

event_at : (s : Session) (events : List Event) (k : ℕ) (event : Event) → AllByRecursion (IsEvent s) events → k < length events → event ≡ slice_index_or events k event → IsEvent s event
event_at s [] k event each within here = absurd (omega arith)
event_at s (x ∷ events) zero event each within here = subst (λ (e : Event). IsEvent s e) (sym here) each.0
event_at s (x ∷ events) (suc k) event each within here = event_at s events k event each.1 (omega arith) here

pub step-requires-clause-event : goal.step-requires-clause-event
step-requires-clause-event g c =
    subst (λ (s : Session). IsEvent s c.event-item.result) (sym c.loop-event.invariant.service)
    (event_at c.args.self.now.service c.args.events.now c.loop-event.event-index c.event-item.result c.requires.events c.loop-event-test.true c.event-item.is)

pub step-requires-clause-room : goal.step-requires-clause-room
step-requires-clause-room g c = omega (arith, c.requires.room, c.loop-event.invariant.room, c.loop-event-test.true)

pub step-requires-clause-tracks : goal.step-requires-clause-tracks
step-requires-clause-tracks g c =
    let left = c.loop-event.invariant.tracks c.requires.tracks.0 c.requires.tracks.1 in (left.0, left.1)

next_event : (s : Session) (c : Course) (events : List Event) (k : ℕ) (event : Event) → k < length events → event ≡ slice_index_or events k event
    → fold (step s) (step s c event) (drop (k + 1) events) ≡ fold (step s) c (drop k events)
next_event s c events k event within here =
    ap (λ n. fold (step s) (step s c event) (drop n events)) (add-one k)
    ∙ sym (ap (λ left. fold (step s) c left) (drop-cons events k event within ∙ ap (λ (e : Event). e ∷ drop (suc k) events) (sym here)))

pub loop-event-preserved : goal.loop-event-preserved
loop-event-preserved g c = record {
  tracks = λ course t.
      let left = c.loop-event.invariant.tracks course t in (
        step c.args.self.now.service left.0 c.event-item.result,
        subst (λ (s : Session). Tracks g.T.Claims.IsOf c.step.new.self (step s left.0 c.event-item.result)) c.loop-event.invariant.service (c.in_ok-step.ensures.tracks left.0 left.1),
        next_event c.args.self.now.service left.0 c.args.events.now c.loop-event.event-index c.event-item.result c.loop-event-test.true c.event-item.is ∙ left.2,
      );
  service = c.step.ensures.service ∙ c.loop-event.invariant.service;
  room = let more = c.in_ok-step.ensures.count in omega (arith, more, c.loop-event.invariant.room);
}

pub returns-clause-tracks : goal.returns-clause-tracks
returns-clause-tracks g c = λ course t.
    let left = c.loop-event.invariant.tracks course t in
    subst (λ (d : Course). Tracks g.T.Claims.IsOf c.loop-event.self d)
    (sym (ap (λ events. fold (step c.args.self.now.service) left.0 events) (drop_all c.loop-event.event-index c.args.events.now c.loop-event-test.false)) ∙ left.2) left.1
