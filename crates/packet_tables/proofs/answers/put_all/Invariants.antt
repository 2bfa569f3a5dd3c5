use Rattle.packet_tables.specs.Servants.{SuitsAt}
use Rattle.packet_tables.proofs.answers.put_all.Given as goal

abbrev pub invariant-loop-request : goal.invariant-loop-request
invariant-loop-request g l = SuitsAt l.opened.schema l.opened.interface (g.S.Servant.meaning l.servant)
