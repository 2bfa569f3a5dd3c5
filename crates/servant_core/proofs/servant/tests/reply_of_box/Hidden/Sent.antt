use denote.Param.Send.{arg_send}
use denote.Param.Sent.{Sends}
use Rattle.servant_core.proofs.Sends.{table_send}
use Rattle.servant_core.proofs.servant.tests.reply_of_box.OwnLists as own

pub sends-part-1-1 : Sends own.part-1-1
sends-part-1-1 i = search (arg_send, table_send)
