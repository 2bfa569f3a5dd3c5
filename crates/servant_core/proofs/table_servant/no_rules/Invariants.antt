use Rattle.std.proofs.Common.{◌≡◌, None, replicate}
use Rattle.servant_core.proofs.table_servant.no_rules.Given as goal

abbrev pub invariant-loop : goal.invariant-loop
invariant-loop l = l.rules.items ≡ replicate l.counter None
