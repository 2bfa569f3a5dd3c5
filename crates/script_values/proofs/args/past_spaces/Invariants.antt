use Rattle.std.proofs.Common.{◌≡◌, ◌≤◌, length}
use Rattle.script_values.specs.Args.{past_spaces}
use Rattle.script_values.proofs.args.past_spaces.Given as goal

-- spaces alone were gone past
abbrev pub invariant-loop-rest : goal.invariant-loop-rest
invariant-loop-rest l = (past_spaces l.rest ≡ past_spaces l.text) × (length l.rest ≤ length l.text)

abbrev pub decreases-loop-rest : goal.decreases-loop-rest
decreases-loop-rest l = length l.rest
