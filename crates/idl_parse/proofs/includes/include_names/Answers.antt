use Rattle.idl_parse.proofs.Trees.IncludeLaws.{spell_next}
use Rattle.idl_parse.proofs.includes.include_names.Goals as goal

pub loop-entry-preserved : goal.loop-entry-preserved
loop-entry-preserved c =
    let added = c.in_ok-add_name.ensures in
    spell_next c.args.text.now c.args.entries.now c.loop-entry.entry-index c.entry-item.result c.loop-entry.names _ added.0 c.loop-entry-test.true c.entry-item.is c.loop-entry.invariant added.1 added.2
