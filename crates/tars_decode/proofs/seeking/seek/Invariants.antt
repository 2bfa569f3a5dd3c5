-- What is left to be sought gives what was sought.
use Rattle.std.proofs.Common.{◌≡◌, ◌+◌, ◌-◌}
use Rattle.tars_decode.specs.ReadingSteps.{past_at, seek_at}
use Rattle.tars_decode.proofs.seeking.seek.Given as goal

abbrev pub invariant-loop : goal.invariant-loop
invariant-loop l = seek_at (past_at l.room) l.tag (l.tag + 1 - l.counter) l.rest ≡ seek_at (past_at l.room) l.tag (l.tag + 1) l.bytes
