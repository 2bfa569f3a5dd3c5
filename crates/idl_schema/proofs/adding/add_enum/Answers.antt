use Rattle.idl_parse.specs.declared.tree.decl.DeclTree.TheVariants as decls
use Rattle.idl_schema.proofs.NameLaws.{enum_absent}
use Rattle.idl_schema.proofs.Readable.{enum_reads}
use Rattle.idl_schema.proofs.Taking.{few_structs, few_enums, adds_enum, new_enum}
use Rattle.idl_schema.proofs.adding.add_enum.Goals as goal

pub place-requires-clause-structs : goal.place-requires-clause-structs
place-requires-clause-structs c = few_structs c.args.building.now.schema c.args.text.now c.args.home.now (decls.Enum c.args.tree.now) c.requires.can

pub place-requires-clause-enums : goal.place-requires-clause-enums
place-requires-clause-enums c = few_enums c.args.building.now.schema c.args.text.now c.args.home.now (decls.Enum c.args.tree.now) c.requires.can

pub enum_desc-requires-clause-ints : goal.enum_desc-requires-clause-ints
enum_desc-requires-clause-ints c = rw c.place.ensures (enum_reads c.args.building.now.schema c.args.text.now c.args.home.now c.args.tree.now c.requires.can)

pub add_enum-requires : goal.add_enum-requires
add_enum-requires c = rw (c.in_ok-desc.ensures, c.place.ensures) (adds_enum c.args.building.now.schema c.args.text.now c.args.home.now c.args.tree.now c.requires.can)

pub add-requires : goal.add-requires
add-requires c =
    rw c.slice.ensures (enum_absent c.args.building.now c.requires.named c.args.home.now _ (new_enum c.args.building.now.schema c.args.text.now c.args.home.now c.args.tree.now c.requires.can))
