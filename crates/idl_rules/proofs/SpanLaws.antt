-- Where the name of a declaration stands.
use Rattle.std.proofs.Common.{ℕ, List}
use Rattle.idl_parse.specs.TreeSpans.{DeclIn, IfThere, NameIn}
use Rattle.idl_parse.specs.declared.tree.decl.DeclTree.{DeclTree}
use Rattle.idl_parse.specs.declared.tree.decl.DeclTree.TheVariants as decls
use Rattle.idl_rules.specs.Rules.{name_of}

pub name_in : (text : List ℕ) (decl : DeclTree) → DeclIn text decl → IfThere (NameIn text) (name_of decl)
name_in text (decls.Struct d) inside = inside.0
name_in text (decls.Enum d) inside = inside.0
name_in text (decls.Const d) inside = inside.0.1
name_in text (decls.Key d) inside = tt
name_in text (decls.Interface d) inside = inside.0
