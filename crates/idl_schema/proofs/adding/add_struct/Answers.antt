use Rattle.std.proofs.Common.{arith}
use Rattle.idl_parse.specs.declared.tree.decl.DeclTree.TheVariants as decls
use Rattle.idl_schema.proofs.NameLaws.{struct_absent}
use Rattle.idl_schema.proofs.Readable.{struct_reads}
use Rattle.idl_schema.proofs.Taking.{few_structs, few_enums, adds_struct, new_struct}
use Rattle.idl_schema.proofs.adding.add_struct.Goals as goal

pub place-requires-clause-structs : goal.place-requires-clause-structs
place-requires-clause-structs c = few_structs c.args.building.now.schema c.args.text.now c.args.home.now (decls.Struct c.args.tree.now) c.requires.can

pub place-requires-clause-enums : goal.place-requires-clause-enums
place-requires-clause-enums c = few_enums c.args.building.now.schema c.args.text.now c.args.home.now (decls.Struct c.args.tree.now) c.requires.can

pub struct_desc-requires-clause-members : goal.struct_desc-requires-clause-members
struct_desc-requires-clause-members c = rw c.place.ensures (struct_reads c.args.building.now.schema c.args.text.now c.args.home.now c.args.tree.now c.requires.can)

pub add_struct-requires : goal.add_struct-requires
add_struct-requires c = rw (c.in_ok-desc.ensures, c.place.ensures) (adds_struct c.args.building.now.schema c.args.text.now c.args.home.now (λ i. omega (arith, c.type_inv.text i)) c.args.tree.now c.requires.can)

pub add-requires : goal.add-requires
add-requires c =
    rw c.slice.ensures (struct_absent c.args.building.now c.requires.named c.args.home.now _ (new_struct c.args.building.now.schema c.args.text.now c.args.home.now c.args.tree.now c.requires.can))
