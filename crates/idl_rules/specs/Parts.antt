-- The parts of a declaration that rules judge, each in the order of the text (docs/IDL.md, "Rules").
use Rattle.std.specs.Prelude.{ℕ, Bool, true, false, Option, Some, None, List, [], ◌∷◌, ◌++◌, map}
use Rattle.std.specs.List.{flat_map}
use Rattle.idl_lex.specs.declared.span.Span.{Span}
use Rattle.idl_parse.specs.declared.tree.decl.ConstTree.{ConstTree}
use Rattle.idl_parse.specs.declared.tree.decl.DeclTree.{DeclTree}
use Rattle.idl_parse.specs.declared.tree.decl.DeclTree.TheVariants as decls
use Rattle.idl_parse.specs.declared.tree.decl.EnumItem.{EnumItem}
use Rattle.idl_parse.specs.declared.tree.decl.KeyTree.{KeyTree}
use Rattle.idl_parse.specs.declared.tree.func.FuncTree.{FuncTree}
use Rattle.idl_parse.specs.declared.tree.func.ParamTree.{ParamTree}
use Rattle.idl_parse.specs.declared.tree.member.MemberTree.{MemberTree}
use Rattle.idl_parse.specs.declared.tree.type_tree.TypeTree.{TypeTree}
use Rattle.idl_scene.specs.Items.{Included, What, included, block, declared}
use Rattle.idl_scene.specs.Types.{types_in}

abbrev pub includes_of : What → List Included
includes_of (included i) = i ∷ []
includes_of _ = []

-- the name of a module at a block of it
abbrev pub blocks_of : What → List Span
blocks_of (block name) = name ∷ []
blocks_of _ = []

abbrev pub declarations_of : What → List DeclTree
declarations_of (declared decl) = decl ∷ []
declarations_of _ = []

-- ---- types

abbrev pub returned_types : Option TypeTree → List TypeTree
returned_types None = []
returned_types (Some ty) = types_in ty

abbrev pub param_types : ParamTree → List TypeTree
param_types p = types_in p.typed.ty

abbrev pub func_types : FuncTree → List TypeTree
func_types f = returned_types f.ret ++ flat_map param_types f.params

abbrev pub member_types : MemberTree → List TypeTree
member_types m = types_in m.typed.ty

-- the types that are written in a declaration, and those inside them
abbrev pub declaration_types : DeclTree → List TypeTree
declaration_types (decls.Struct s) = flat_map member_types s.members
declaration_types (decls.Enum e) = []
declaration_types (decls.Const c) = types_in c.typed.ty
declaration_types (decls.Key k) = []
declaration_types (decls.Interface i) = flat_map func_types i.funcs

abbrev pub types_of : What → List TypeTree
types_of (declared decl) = declaration_types decl
types_of _ = []

-- ---- names

-- names that stand in one list: whether they are declared there, and how many there may be
pub record NameList : Type 0 where
  pub declares : Bool
  pub most : Option ℕ
  pub names : List Span

abbrev pub name_list : Bool → Option ℕ → List Span → NameList
name_list declares most names = record { declares = declares; most = most; names = names }

abbrev pub param_list : FuncTree → NameList
param_list f = name_list true (Some 64) (map (λ (p : ParamTree). p.typed.name) f.params)

-- members, those of a key, enumerators, functions, and the parameters of each function
abbrev pub declaration_lists : DeclTree → List NameList
declaration_lists (decls.Struct s) = name_list true None (map (λ (m : MemberTree). m.typed.name) s.members) ∷ []
declaration_lists (decls.Enum e) = name_list true (Some 1024) (map (λ (i : EnumItem). i.name) e.items) ∷ []
declaration_lists (decls.Const c) = []
declaration_lists (decls.Key k) = name_list false None k.members ∷ []
declaration_lists (decls.Interface i) = name_list true (Some 256) (map (λ (f : FuncTree). f.name) i.funcs) ∷ map param_list i.funcs

abbrev pub name_lists_of : What → List NameList
name_lists_of (declared decl) = declaration_lists decl
name_lists_of _ = []

-- ---- the others

abbrev pub members_of : What → List MemberTree
members_of (declared (decls.Struct s)) = s.members
members_of _ = []

abbrev pub enumerators_of : What → List EnumItem
enumerators_of (declared (decls.Enum e)) = e.items
enumerators_of _ = []

abbrev pub consts_of : What → List ConstTree
consts_of (declared (decls.Const c)) = c ∷ []
consts_of _ = []

abbrev pub keys_of : What → List KeyTree
keys_of (declared (decls.Key k)) = k ∷ []
keys_of _ = []

abbrev pub func_params : FuncTree → List ParamTree
func_params f = f.params

abbrev pub params_of : What → List ParamTree
params_of (declared (decls.Interface i)) = flat_map func_params i.funcs
params_of _ = []
