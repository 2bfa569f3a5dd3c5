use Rattle.std.proofs.Common.{◌≡◌, ◌++◌, take, drop, map}
use Rattle.run_engine.specs.OneLines.{closed_call}
use Rattle.run_engine.proofs.one_line.close_all.Given as goal

-- the calls so far are closed
abbrev pub invariant-loop-call : goal.invariant-loop-call
invariant-loop-call l =
    l.call-items ≡ map closed_call (take l.call-index l.initial.call-items) ++ drop l.call-index l.initial.call-items
