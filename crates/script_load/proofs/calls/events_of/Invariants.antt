use Rattle.std.proofs.Common.{◌≡◌, map, take}
use Rattle.std.specs.List.{All}
use Rattle.script_lines.specs.Views.{event_line}
use Rattle.script_load.specs.LineSteps.{FitsEvent}
use Rattle.script_load.specs.Sessions.{AreEvents}
use Rattle.script_load.proofs.Taken.{number_after}
use Rattle.script_load.proofs.calls.events_of.Given as goal

-- the events so far are those of the lines so far, and the number of the next call comes after theirs
abbrev pub invariant-loop-line : goal.invariant-loop-line
invariant-loop-line l = record {
  read : AreEvents l.schema l.funcs 1 (take l.line-index (map event_line l.lines)) l.events;
  fits : All (FitsEvent l.schema l.funcs) l.events;
  number : l.number ≡ number_after 1 (take l.line-index (map event_line l.lines));
}
