use Rattle.packet_tables.specs.Servants.{SuitsAt}
use Rattle.packet_tables.proofs.timing.answer_often.Given as goal

abbrev pub invariant-loop : goal.invariant-loop
invariant-loop g l = SuitsAt l.opened.schema l.opened.interface (g.S.Servant.meaning l.servant)
