use Rattle.law_tables.proofs.Interfaces.{first_fits, second_fits, third_fits}
use Rattle.law_tables.proofs.descriptors.add_three.Goals as goal

pub add-requires : goal.add-requires
add-requires c = first_fits c.args.schema.now c.requires

pub add-requires-2 : goal.add-requires-2
add-requires-2 c = second_fits c.args.schema.now c.add.new.schema c.requires c.in_ok-first.ensures

pub add-requires-3 : goal.add-requires-3
add-requires-3 c = third_fits c.args.schema.now c.add.new.schema c.add-2.new.schema c.requires c.in_ok-first.ensures c.in_ok-second.ensures
