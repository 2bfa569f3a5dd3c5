use Rattle.std.proofs.Common.{◌≡◌, ◌++◌, List, length}
use Rattle.script_session.specs.declared.report.Row.{Row}
use Rattle.run_report.specs.CallNumbers.{HasCalls}
use Rattle.run_report.proofs.call_index.CallIndex.of.Given as goal

-- the index has the rows after those that are left
abbrev pub invariant-loop-rest : goal.invariant-loop-rest
invariant-loop-rest l = (done : List Row) × (l.rows ≡ l.rest ++ done) × HasCalls done l.index

abbrev pub decreases-loop-rest : goal.decreases-loop-rest
decreases-loop-rest l = length l.rest
