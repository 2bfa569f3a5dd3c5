use Rattle.std.proofs.Common.{rules}
use Rattle.packet_tables.proofs.FuncRules.{suits_over}
use Rattle.packet_tables.proofs.rules.table_of.Goals as goal

pub returns : goal.returns
returns c = suits_over c.args.schema.now c.args.interface c.set_rules.new.table _ (search rules) c.suits.ensures
