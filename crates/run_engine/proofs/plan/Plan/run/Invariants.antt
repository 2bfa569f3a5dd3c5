use Rattle.std.proofs.Common.{◌≡◌, ◌+◌, ◌≤◌, length, drop}
use Rattle.std.specs.Prelude.{fold}
use Rattle.run_course.specs.Courses.{Course, step}
use Rattle.run_engine.specs.Tracks.{Tracks}
use Rattle.run_engine.proofs.plan.Plan.run.Given as goal

-- what is left leads where all leads
abbrev pub invariant-loop-event : goal.invariant-loop-event
invariant-loop-event g l = record {
  tracks : (c : Course) → Tracks g.T.Claims.IsOf l.initial.self c
      → (d : Course) × Tracks g.T.Claims.IsOf l.self d × (fold (step l.initial.self.service) d (drop l.event-index l.events) ≡ fold (step l.initial.self.service) c l.events);
  service : l.self.service ≡ l.initial.self.service;
  room : length l.self.notes.items ≤ length l.initial.self.notes.items + l.event-index;
}
