-- How many types stand one inside the other in a tree (docs/IDL.md, "Grammar").
use Rattle.std.specs.Prelude.{ℕ, suc, ◌≤◌}
use Rattle.std.specs.List.{All}
use Rattle.tars_model.specs.Types.{greater}
use Rattle.idl_parse.specs.TreeSpans.{IfThere}
use Rattle.idl_parse.specs.declared.tree.decl.DeclTree.{DeclTree}
use Rattle.idl_parse.specs.declared.tree.decl.DeclTree.TheVariants as decls
use Rattle.idl_parse.specs.declared.tree.func.FuncTree.{FuncTree}
use Rattle.idl_parse.specs.declared.tree.func.ParamTree.{ParamTree}
use Rattle.idl_parse.specs.declared.tree.member.MemberTree.{MemberTree}
use Rattle.idl_parse.specs.declared.tree.module.Entry.{Entry}
use Rattle.idl_parse.specs.declared.tree.module.Entry.TheVariants as entries
use Rattle.idl_parse.specs.declared.tree.type_tree.TypeTree.{TypeTree, fold-TypeTree}
use Rattle.idl_parse.specs.declared.tree.type_tree.TypeTree.TheOpen as layer

-- the innermost type is counted
abbrev pub nesting_layer : layer.TypeTree-F ℕ → ℕ
nesting_layer (layer.Vector at element) = suc element
nesting_layer (layer.Map at key value) = suc (greater key value)
nesting_layer _ = 1

abbrev pub tree_nesting : TypeTree → ℕ
tree_nesting t = fold-TypeTree ℕ nesting_layer t

-- a type in which at most so many stand one inside the other
abbrev pub IsNested : ℕ → TypeTree → Type 0
IsNested most t = tree_nesting t ≤ most

-- what is written in a declaration has no types but such

abbrev pub MemberNests : ℕ → MemberTree → Type 0
MemberNests most m = IsNested most m.typed.ty

abbrev pub ParamNests : ℕ → ParamTree → Type 0
ParamNests most p = IsNested most p.typed.ty

abbrev pub FuncNests : ℕ → FuncTree → Type 0
FuncNests most f = IfThere (IsNested most) f.ret × All (ParamNests most) f.params

abbrev pub DeclNests : ℕ → DeclTree → Type 0
DeclNests most (decls.Struct s) = All (MemberNests most) s.members
DeclNests most (decls.Enum e) = Unit {0}
DeclNests most (decls.Const c) = IsNested most c.typed.ty
DeclNests most (decls.Key k) = Unit {0}
DeclNests most (decls.Interface i) = All (FuncNests most) i.funcs

abbrev pub EntryNests : ℕ → Entry → Type 0
EntryNests most (entries.Include span) = Unit {0}
EntryNests most (entries.Module m) = All (DeclNests most) m.decls
