use Rattle.std.proofs.Common.{ap, ◌∙◌, arith}
use Rattle.idl_parse.specs.declared.tree.decl.DeclTree.TheVariants as decls
use Rattle.idl_schema.proofs.Readable.{const_reads}
use Rattle.idl_schema.proofs.Taking.{few_structs, few_enums, adds_const}
use Rattle.tars_model.specs.Declarations.{with_const}
use Rattle.idl_schema.specs.SchemaOf.{const_of}
use Rattle.idl_schema.proofs.adding.add_const.Goals as goal

pub place-requires-clause-structs : goal.place-requires-clause-structs
place-requires-clause-structs c = few_structs c.args.building.now.schema c.args.text.now c.args.home.now (decls.Const c.args.tree.now) c.requires.can

pub place-requires-clause-enums : goal.place-requires-clause-enums
place-requires-clause-enums c = few_enums c.args.building.now.schema c.args.text.now c.args.home.now (decls.Const c.args.tree.now) c.requires.can

pub const_desc-requires-clause-long : goal.const_desc-requires-clause-long
const_desc-requires-clause-long c = rw c.place.ensures (const_reads c.args.building.now.schema c.args.text.now c.args.home.now c.args.tree.now c.requires.can)

pub add_const-requires : goal.add_const-requires
add_const-requires c = rw (c.in_ok-desc.ensures, c.place.ensures) (adds_const c.args.building.now.schema c.args.text.now c.args.home.now (λ i. omega (arith, c.type_inv.text i)) c.args.tree.now c.requires.can)

pub returns-clause-made : goal.returns-clause-made
returns-clause-made c = c.in_ok-add_const.ensures.added ∙ ap (with_const c.args.building.now.schema) (c.in_ok-desc.ensures ∙ ap (λ p. const_of p c.args.tree.now) c.place.ensures)
