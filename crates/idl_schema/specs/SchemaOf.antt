-- The schema that interface files declare (docs/IDL.md, "Schemas"), where they have no fault: each declaration is made
-- over those before it.
use Rattle.std.specs.Prelude.{ℕ, nat_lt, Bool, true, false, ◌&&◌, if◌then◌else◌, ℤ, pos, negsuc, Option, Some, None, List, [], ◌∷◌, ◌++◌, map, fold}
use Rattle.std.specs.List.{position_from}
use Rattle.std.specs.Str.{bytes_eq}
use Rattle.tars_model.specs.Declarations.{Declared, nothing_declared, with_struct, with_enum, with_const, with_key, with_interface, items_at}
use Rattle.tars_model.specs.Values.{default_of}
use Rattle.tars_model.specs.declared.const_desc.ConstDesc.{ConstDesc}
use Rattle.tars_model.specs.declared.enum_desc.EnumDesc.{EnumDesc}
use Rattle.tars_model.specs.declared.enum_desc.Item.{Item as Enumerator}
use Rattle.tars_model.specs.declared.func_desc.FuncDesc.{FuncDesc}
use Rattle.tars_model.specs.declared.func_desc.Param.{Param}
use Rattle.tars_model.specs.declared.interface_desc.InterfaceDesc.{InterfaceDesc}
use Rattle.tars_model.specs.declared.key_desc.KeyDesc.{KeyDesc}
use Rattle.tars_model.specs.declared.member.Member.{Member}
use Rattle.tars_model.specs.declared.struct_desc.StructDesc.{StructDesc}
use Rattle.tars_model.specs.declared.ty.Ty.{Ty, out-Ty}
use Rattle.tars_model.specs.declared.ty.Ty.TheOpen as ty
use Rattle.tars_model.specs.declared.ty.Ty.TheVariants as tys
use Rattle.tars_model.specs.declared.value.Value.{Value}
use Rattle.tars_model.specs.declared.value.Value.TheVariants as values
use Rattle.idl_parse.specs.Files.{File}
use Rattle.idl_lex.specs.Meanings.{whole_number, plain_text}
use Rattle.idl_lex.specs.declared.span.Span.{Span}
use Rattle.idl_parse.specs.declared.tree.decl.ConstTree.{ConstTree}
use Rattle.idl_parse.specs.declared.tree.decl.DeclTree.{DeclTree}
use Rattle.idl_parse.specs.declared.tree.decl.DeclTree.TheVariants as decls
use Rattle.idl_parse.specs.declared.tree.decl.EnumItem.{EnumItem}
use Rattle.idl_parse.specs.declared.tree.decl.EnumTree.{EnumTree}
use Rattle.idl_parse.specs.declared.tree.decl.InterfaceTree.{InterfaceTree}
use Rattle.idl_parse.specs.declared.tree.decl.KeyTree.{KeyTree}
use Rattle.idl_parse.specs.declared.tree.decl.StructTree.{StructTree}
use Rattle.idl_parse.specs.declared.tree.func.FuncTree.{FuncTree}
use Rattle.idl_parse.specs.declared.tree.func.ParamTree.{ParamTree}
use Rattle.idl_parse.specs.declared.tree.literal.Literal.{Literal}
use Rattle.idl_parse.specs.declared.tree.literal.Literal.TheVariants as literals
use Rattle.idl_parse.specs.declared.tree.literal.LiteralWord.{LiteralWord}
use Rattle.idl_parse.specs.declared.tree.literal.LiteralWord.TheVariants as words
use Rattle.idl_parse.specs.declared.tree.member.MemberTree.{MemberTree}
use Rattle.idl_parse.specs.declared.tree.member.Requirement.{Requirement}
use Rattle.idl_parse.specs.declared.tree.member.Requirement.TheVariants.{Require, Optional}
use Rattle.idl_parse.specs.declared.tree.type_tree.BasicType.{BasicType}
use Rattle.idl_parse.specs.declared.tree.type_tree.BasicType.TheVariants as basics
use Rattle.idl_parse.specs.declared.tree.type_tree.ScopedName.{ScopedName}
use Rattle.idl_parse.specs.declared.tree.type_tree.TypeTree.{TypeTree, fold-TypeTree}
use Rattle.idl_parse.specs.declared.tree.type_tree.TypeTree.TheOpen as layer
use Rattle.idl_scene.specs.Items.{Item, What, declared, items_of, word}
use Rattle.idl_scene.specs.Literals.{number_of_item}

-- what is declared so far, the text of the file, and the name of the module
pub record Place : Type 0 where
  pub so_far : Declared
  pub text : List ℕ
  pub home : List ℕ

abbrev pub place_of : Declared → List ℕ → List ℕ → Place
place_of d text home = record { so_far = d; text = text; home = home }

-- ---- types

-- the number of the struct of that module and name
abbrev pub struct_number : Declared → List ℕ → List ℕ → Option ℕ
struct_number d home name = position_from (λ (s : StructDesc). bytes_eq home s.«module» && bytes_eq name s.name) 0 d.structs

abbrev pub enum_number : Declared → List ℕ → List ℕ → Option ℕ
enum_number d home name = position_from (λ (e : EnumDesc). bytes_eq home e.«module» && bytes_eq name e.name) 0 d.enums

abbrev pub struct_or_enum : Option ℕ → Option ℕ → Option Ty
struct_or_enum (Some number) _ = Some (tys.Struct number)
struct_or_enum None (Some number) = Some (tys.Enum number)
struct_or_enum None None = None

-- the struct or enum of that module and name
abbrev pub type_named : Declared → List ℕ → List ℕ → Option Ty
type_named d home name = struct_or_enum (struct_number d home name) (enum_number d home name)

-- a name that is neither is refused, so that it may stand for any type
abbrev pub or_any : Option Ty → Ty
or_any (Some t) = t
or_any None = tys.Struct 0

-- a scope is a module; a bare name is one of the same module
abbrev pub module_of : Place → Option Span → List ℕ
module_of p None = p.home
module_of p (Some scope) = word p.text scope

-- `float` and `double` are refused, so that they may stand for any type
abbrev pub basic_type : BasicType → Ty
basic_type basics.Bool = tys.Bool
basic_type basics.Byte = tys.Byte
basic_type basics.Short = tys.Short
basic_type basics.Int = tys.Int
basic_type basics.Long = tys.Long
basic_type basics.Float = tys.Int
basic_type basics.Double = tys.Int
basic_type basics.Text = tys.Text
basic_type basics.UnsignedByte = tys.UByte
basic_type basics.UnsignedShort = tys.UShort
basic_type basics.UnsignedInt = tys.UInt

abbrev pub named_type : Place → ScopedName → Ty
named_type p name = or_any (type_named p.so_far (module_of p name.scope) (word p.text name.name))

abbrev pub resolved_layer : Place → layer.TypeTree-F Ty → Ty
resolved_layer p (layer.Basic at basic) = basic_type basic
resolved_layer p (layer.Vector at element) = tys.Vector element
resolved_layer p (layer.Map at key value) = tys.Map key value
resolved_layer p (layer.Named name) = named_type p name

-- the type that is written
abbrev pub resolved : Place → TypeTree → Ty
resolved p t = fold-TypeTree Ty (resolved_layer p) t

-- ---- literals

-- the number of the enumerator of that name; 0 where there is none, which is refused
abbrev pub number_named : List ℕ → List Enumerator → ℤ
number_named name [] = pos 0
number_named name (i ∷ items) = if bytes_eq name i.name then i.number else number_named name items

abbrev pub items_of_type : Declared → ty.Ty-F Ty → List Enumerator
items_of_type d (ty.Enum number) = items_at d number
items_of_type d _ = []

-- a fraction is refused, so that it may stand for any value
abbrev pub word_value : LiteralWord → List ℕ → Value
word_value words.Number bytes = values.Num (whole_number bytes)
word_value words.Fraction bytes = values.Num (pos 0)
word_value words.Text bytes = values.Text (plain_text bytes)
word_value words.True bytes = values.Bool true
word_value words.False bytes = values.Bool false

-- the value that is written for a type: of an enumerator its number, whether its enum is named or not
abbrev pub literal_value : Place → Ty → Literal → Value
literal_value p t (literals.Word form span) = word_value form (word p.text span)
literal_value p t (literals.Named name) = values.Num (number_named (word p.text name.name) (items_of_type p.so_far (out-Ty t)))

-- ---- structs

abbrev pub default_value : Place → Ty → Option Literal → Value
default_value p t None = default_of p.so_far t
default_value p t (Some literal) = literal_value p t literal

abbrev pub is_required : Requirement → Bool
is_required Require = true
is_required Optional = false

-- a tag below 0 is refused
abbrev pub as_tag : ℤ → ℕ
as_tag (pos n) = n
as_tag (negsuc n) = 0

abbrev pub member_of : Place → MemberTree → Member
member_of p m = record {
  tag = as_tag (whole_number (word p.text m.tag));
  require = is_required m.requirement;
  ty = resolved p m.typed.ty;
  name = word p.text m.typed.name;
  default = default_value p (resolved p m.typed.ty) m.default;
}

-- a member among members in rising tag order: before the first of a greater tag
abbrev pub put_member : Member → List Member → List Member
put_member m [] = m ∷ []
put_member m (other ∷ members) = if nat_lt m.tag other.tag then m ∷ other ∷ members else other ∷ put_member m members

-- the same members in rising tag order
abbrev pub in_tag_order : List Member → List Member
in_tag_order members = fold (λ sorted m. put_member m sorted) [] members

abbrev pub struct_of : Place → StructTree → StructDesc
struct_of p s = record { «module» = p.home; name = word p.text s.name; members = in_tag_order (map (member_of p) s.members) }

-- ---- the others

-- enumerators that stand after others, each with the number that is written or is next
abbrev pub items_after : List ℕ → List EnumItem → List EnumItem → List Enumerator
items_after text before [] = []
items_after text before (i ∷ items) =
    record { name = word text i.name; number = number_of_item text before i } ∷ items_after text (before ++ i ∷ []) items

abbrev pub enum_of : Place → EnumTree → EnumDesc
enum_of p e = record { «module» = p.home; name = word p.text e.name; items = items_after p.text [] e.items }

abbrev pub const_of : Place → ConstTree → ConstDesc
const_of p c = record {
  «module» = p.home;
  name = word p.text c.typed.name;
  ty = resolved p c.typed.ty;
  value = literal_value p (resolved p c.typed.ty) c.value;
}

-- a name that is no struct's is refused
abbrev pub or_first : Option ℕ → ℕ
or_first (Some number) = number
or_first None = 0

abbrev pub key_of : Place → KeyTree → KeyDesc
key_of p k = record { of = or_first (struct_number p.so_far p.home (word p.text k.struct_name)); members = map (word p.text) k.members }

abbrev pub param_of : Place → ParamTree → Param
param_of p param = record { name = word p.text param.typed.name; ty = resolved p param.typed.ty; out = param.out }

abbrev pub returned_type : Place → Option TypeTree → Option Ty
returned_type p None = None
returned_type p (Some t) = Some (resolved p t)

abbrev pub func_of : Place → FuncTree → FuncDesc
func_of p f = record { name = word p.text f.name; ret = returned_type p f.ret; params = map (param_of p) f.params }

abbrev pub interface_of : Place → InterfaceTree → InterfaceDesc
interface_of p i = record { «module» = p.home; name = word p.text i.name; funcs = map (func_of p) i.funcs }

-- ---- files

-- one declaration more
abbrev pub with_decl : Place → DeclTree → Declared
with_decl p (decls.Struct s) = with_struct p.so_far (struct_of p s)
with_decl p (decls.Enum e) = with_enum p.so_far (enum_of p e)
with_decl p (decls.Const c) = with_const p.so_far (const_of p c)
with_decl p (decls.Key k) = with_key p.so_far (key_of p k)
with_decl p (decls.Interface i) = with_interface p.so_far (interface_of p i)

-- includes and blocks declare nothing themselves
abbrev pub with_what : Place → What → Declared
with_what p (declared decl) = with_decl p decl
with_what p _ = p.so_far

abbrev pub with_item : Declared → Item → Declared
with_item d i = with_what (place_of d i.text i.home) i.what

abbrev pub declared_after : List Item → Declared
declared_after items = fold with_item nothing_declared items

-- what the files declare, each declaration over those before it
abbrev pub schema_of : List File → Declared
schema_of files = declared_after (items_of files)
