-- What is left at the level now ends where what was left at first ends.
use Rattle.std.proofs.Common.{ℕ, List, length}
use Rattle.tars_wire.specs.Left.{Remaining, LevelLeft, AtLevel}
use Rattle.tars_wire.proofs.cursor.levels.past_level.Given as goal

abbrev pub invariant-loop-rest : goal.invariant-loop-rest
invariant-loop-rest l = record {
  stands : AtLevel l.room l.here l.rest;
  same : (inner : Remaining) (after : List ℕ) → LevelLeft l.room l.fn.level inner l.fn.bytes after → (now : Remaining) × LevelLeft l.room l.here now l.rest after;
}

abbrev pub decreases-loop-rest : goal.decreases-loop-rest
decreases-loop-rest l = length l.rest
