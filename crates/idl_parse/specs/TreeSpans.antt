-- Where the parts of a tree stand in the text (docs/IDL.md, "Grammar"): each name, number and literal, and the text
-- of an include, is the span of a token of its kind.
use Rattle.std.specs.Prelude.{◌≡◌, ◌<◌, ◌≤◌, ℕ, Option, Some, None, List, length, slice_range}
use Rattle.std.specs.List.{All}
use Rattle.idl_lex.specs.Forms.{IsForm}
use Rattle.idl_lex.specs.declared.keyword.Keyword.TheVariants as words
use Rattle.idl_lex.specs.declared.kind.Kind.{Kind}
use Rattle.idl_lex.specs.declared.kind.Kind.TheVariants as kinds
use Rattle.idl_lex.specs.declared.span.Span.{Span}
use Rattle.idl_parse.specs.declared.tree.decl.DeclTree.{DeclTree}
use Rattle.idl_parse.specs.declared.tree.decl.DeclTree.TheVariants as decls
use Rattle.idl_parse.specs.declared.tree.decl.EnumItem.{EnumItem}
use Rattle.idl_parse.specs.declared.tree.func.FuncTree.{FuncTree}
use Rattle.idl_parse.specs.declared.tree.func.ParamTree.{ParamTree}
use Rattle.idl_parse.specs.declared.tree.literal.Literal.{Literal}
use Rattle.idl_parse.specs.declared.tree.literal.Literal.TheVariants as literals
use Rattle.idl_parse.specs.declared.tree.literal.LiteralWord.{LiteralWord}
use Rattle.idl_parse.specs.declared.tree.literal.LiteralWord.TheVariants as forms
use Rattle.idl_parse.specs.declared.tree.member.ArrayLen.{ArrayLen}
use Rattle.idl_parse.specs.declared.tree.member.MemberTree.{MemberTree}
use Rattle.idl_parse.specs.declared.tree.module.Entry.{Entry}
use Rattle.idl_parse.specs.declared.tree.module.Entry.TheVariants as entries
use Rattle.idl_parse.specs.declared.tree.type_tree.BasicType.{BasicType}
use Rattle.idl_parse.specs.declared.tree.type_tree.ScopedName.{ScopedName}
use Rattle.idl_parse.specs.declared.tree.type_tree.TypeTree.{TypeTree}
use Rattle.idl_parse.specs.declared.tree.type_tree.TypeTree.TheVariants as types
use Rattle.idl_parse.specs.declared.tree.type_tree.TypedName.{TypedName}

-- a token of the kind stands at the span
abbrev pub StandsAt : List ℕ → Kind → Span → Type 0
StandsAt text kind span = (span.start < span.end) × (span.end ≤ length text) × IsForm kind (slice_range text span.start span.end)

-- what is there is so
abbrev pub IfThere : {A : Type 0} → (A → Type 0) → Option A → Type 0
IfThere Is None = Unit {0}
IfThere Is (Some x) = Is x

abbrev pub NameIn : List ℕ → Span → Type 0
NameIn text span = StandsAt text kinds.Ident span

abbrev pub NumberIn : List ℕ → Span → Type 0
NumberIn text span = StandsAt text kinds.Number span

abbrev pub ScopedIn : List ℕ → ScopedName → Type 0
ScopedIn text name = IfThere (NameIn text) name.scope × NameIn text name.name

-- the kind of a literal's token
abbrev pub kind_of : LiteralWord → Kind
kind_of forms.Number = kinds.Number
kind_of forms.Fraction = kinds.Fraction
kind_of forms.Text = kinds.Text
kind_of forms.True = kinds.Keyword words.True
kind_of forms.False = kinds.Keyword words.False

abbrev pub LiteralIn : List ℕ → Literal → Type 0
LiteralIn text (literals.Word word span) = StandsAt text (kind_of word) span
LiteralIn text (literals.Named name) = ScopedIn text name

pub data TypeIn (text : List ℕ) : TypeTree → Type 0 where
  basic : {ty : TypeTree} {at : ℕ} {word : BasicType} → ty ≡ types.Basic at word → TypeIn text ty
  named : {ty : TypeTree} {name : ScopedName} → ty ≡ types.Named name → ScopedIn text name → TypeIn text ty
  vector : {ty element : TypeTree} {at : ℕ} → ty ≡ types.Vector at element → TypeIn text element → TypeIn text ty
  map : {ty key value : TypeTree} {at : ℕ} → ty ≡ types.Map at key value → TypeIn text key → TypeIn text value → TypeIn text ty

abbrev pub TypedIn : List ℕ → TypedName → Type 0
TypedIn text typed = TypeIn text typed.ty × NameIn text typed.name

abbrev pub ArrayIn : List ℕ → ArrayLen → Type 0
ArrayIn text array = NumberIn text array.length

pub record MemberIn (text : List ℕ) (member : MemberTree) : Type 0 where
  pub tag : NumberIn text member.tag
  pub typed : TypedIn text member.typed
  pub array : IfThere (ArrayIn text) member.array
  pub default : IfThere (LiteralIn text) member.default

abbrev pub ItemIn : List ℕ → EnumItem → Type 0
ItemIn text item = NameIn text item.name × IfThere (NumberIn text) item.number

abbrev pub ParamIn : List ℕ → ParamTree → Type 0
ParamIn text param = TypedIn text param.typed

pub record FuncIn (text : List ℕ) (func : FuncTree) : Type 0 where
  pub ret : IfThere (TypeIn text) func.ret
  pub name : NameIn text func.name
  pub params : All (ParamIn text) func.params

abbrev pub DeclIn : List ℕ → DeclTree → Type 0
DeclIn text (decls.Struct s) = NameIn text s.name × All (MemberIn text) s.members
DeclIn text (decls.Enum e) = NameIn text e.name × All (ItemIn text) e.items
DeclIn text (decls.Const c) = TypedIn text c.typed × LiteralIn text c.value
DeclIn text (decls.Key key) = NameIn text key.struct_name × All (NameIn text) key.members
DeclIn text (decls.Interface i) = NameIn text i.name × All (FuncIn text) i.funcs

abbrev pub EntryIn : List ℕ → Entry → Type 0
EntryIn text (entries.Include span) = StandsAt text kinds.Text span
EntryIn text (entries.Module m) = NameIn text m.name × All (DeclIn text) m.decls
