use Rattle.idl_parse.specs.declared.tree.decl.DeclTree.TheVariants as decls
use Rattle.idl_schema.proofs.Taking.{few_structs, few_enums, adds_interface}
use Rattle.idl_schema.proofs.adding.add_interface.Goals as goal

pub place-requires-clause-structs : goal.place-requires-clause-structs
place-requires-clause-structs c = few_structs c.args.building.now.schema c.args.text.now c.args.home.now (decls.Interface c.args.tree.now) c.requires.can

pub place-requires-clause-enums : goal.place-requires-clause-enums
place-requires-clause-enums c = few_enums c.args.building.now.schema c.args.text.now c.args.home.now (decls.Interface c.args.tree.now) c.requires.can

pub add_interface-requires : goal.add_interface-requires
add_interface-requires c = rw (c.in_ok-desc.ensures, c.place.ensures) (adds_interface c.args.building.now.schema c.args.text.now c.args.home.now c.args.tree.now c.requires.can)
