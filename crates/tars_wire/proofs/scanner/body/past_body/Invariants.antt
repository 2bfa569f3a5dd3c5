-- what is read so far and what is left are what was to be read
use Rattle.std.proofs.Common.{◌≡◌, length}
use Rattle.tars_wire.specs.ScanSteps.{body_at}
use Rattle.tars_wire.proofs.scanner.body.past_body.Given as goal

abbrev pub invariant-loop-rest : goal.invariant-loop-rest
invariant-loop-rest l = body_at l.from l.rest ≡ body_at 0 l.fn.bytes

abbrev pub decreases-loop-rest : goal.decreases-loop-rest
decreases-loop-rest l = length l.rest
