use denote.Param.Send.{arg_send}
use denote.Param.Sent.{Sends}
use Rattle.servant_core.proofs.CallerLemmas.{table_send}
use Rattle.packet_tables.proofs.answers.put_of_boxed_table.OwnLists as own

pub sends-part-1-1 : Sends own.part-1-1
sends-part-1-1 i = search (arg_send, table_send)
