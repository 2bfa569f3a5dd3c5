use Rattle.packet_tables.specs.Servants.{IsTableOver}
use Rattle.packet_tables.proofs.rules.set_rules.Given as goal

abbrev pub invariant-loop-rule : goal.invariant-loop-rule
invariant-loop-rule l = IsTableOver l.schema l.interface l.table
