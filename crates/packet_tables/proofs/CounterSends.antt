-- A counter may go to another thread, as its schema may.
use denote.Param.Send.{IsSend, view_send}
use denote.Param.SendFields.{declared_send}
use Rattle.std.proofs.Crossing.{crosses}
use Rattle.servant_core.proofs.CallerLemmas.{schema_send}
use Rattle.packet_tables.specs.contracts.counter.Counter as counter
use Rattle.packet_tables.specs.contracts.counter.Counter.TheInside as counter_inside

pub counter_send : IsSend counter.the_row
counter_send = view_send _ _ _ _ _ (declared_send counter_inside.the_type (schema_send, (search crosses depth 20, (search crosses depth 20, tt))))
