-- The tree of a text says what is declared: its words, wherever they stand, are those of the declarations, in order.
use Rattle.std.specs.Prelude.{◌≡◌, ◌≢◌, ℕ, Bool, true, false, pos, ℤ, Option, Some, None, List, [], ◌∷◌, ◌++◌, slice_get, slice_range}
use Rattle.tars_model.specs.Declarations.{Declared}
use Rattle.tars_model.specs.Names.{IsName}
use Rattle.tars_model.specs.Types.{TyLayer}
use Rattle.tars_model.specs.declared.const_desc.ConstDesc.{ConstDesc}
use Rattle.tars_model.specs.declared.decl.Decl.{Decl}
use Rattle.tars_model.specs.declared.decl.Decl.TheVariants as decl
use Rattle.tars_model.specs.declared.enum_desc.EnumDesc.{EnumDesc}
use Rattle.tars_model.specs.declared.enum_desc.Item.{Item}
use Rattle.tars_model.specs.declared.func_desc.FuncDesc.{FuncDesc}
use Rattle.tars_model.specs.declared.func_desc.Param.{Param}
use Rattle.tars_model.specs.declared.interface_desc.InterfaceDesc.{InterfaceDesc}
use Rattle.tars_model.specs.declared.key_desc.KeyDesc.{KeyDesc}
use Rattle.tars_model.specs.declared.member.Member.{Member}
use Rattle.tars_model.specs.declared.struct_desc.StructDesc.{StructDesc}
use Rattle.tars_model.specs.declared.ty.Ty.{Ty, out-Ty}
use Rattle.tars_model.specs.declared.ty.Ty.TheOpen as ty
use Rattle.tars_model.specs.declared.value.Value.{Value, out-Value}
use Rattle.tars_model.specs.declared.value.Value.TheOpen as value
use Rattle.canonical_text.specs.Canonical.{is_absent, decl_home}
use Rattle.idl_lex.specs.Meanings.{whole_number, plain_text}
use Rattle.idl_parse.specs.TreeSpans.{StandsAt, NameIn, NumberIn}
use Rattle.idl_lex.specs.declared.kind.Kind.TheVariants as kinds
use Rattle.idl_lex.specs.declared.keyword.Keyword.TheVariants as words
use Rattle.idl_lex.specs.declared.span.Span.{Span}
use Rattle.idl_parse.specs.declared.tree.decl.ConstTree.{ConstTree}
use Rattle.idl_parse.specs.declared.tree.decl.DeclTree.{DeclTree}
use Rattle.idl_parse.specs.declared.tree.decl.DeclTree.TheVariants as decls
use Rattle.idl_parse.specs.declared.tree.decl.EnumItem.{EnumItem}
use Rattle.idl_parse.specs.declared.tree.decl.EnumTree.{EnumTree}
use Rattle.idl_parse.specs.declared.tree.decl.InterfaceTree.{InterfaceTree}
use Rattle.idl_parse.specs.declared.tree.decl.KeyTree.{KeyTree}
use Rattle.idl_parse.specs.declared.tree.decl.StructTree.{StructTree}
use Rattle.idl_parse.specs.declared.tree.func.FuncTree.{FuncTree}
use Rattle.idl_parse.specs.declared.tree.func.ParamTree.{ParamTree}
use Rattle.idl_parse.specs.declared.tree.literal.Literal.{Literal}
use Rattle.idl_parse.specs.declared.tree.literal.Literal.TheVariants as literals
use Rattle.idl_parse.specs.declared.tree.literal.LiteralWord.TheVariants as forms
use Rattle.idl_parse.specs.declared.tree.member.MemberTree.{MemberTree}
use Rattle.idl_parse.specs.declared.tree.member.Requirement.{Requirement}
use Rattle.idl_parse.specs.declared.tree.member.Requirement.TheVariants.{Require, Optional}
use Rattle.idl_parse.specs.declared.tree.module.Entry.{Entry}
use Rattle.idl_parse.specs.declared.tree.module.Entry.TheVariants as entries
use Rattle.idl_parse.specs.declared.tree.module.ModuleTree.{ModuleTree}
use Rattle.idl_parse.specs.declared.tree.type_tree.BasicType.{BasicType}
use Rattle.idl_parse.specs.declared.tree.type_tree.BasicType.TheVariants as basics
use Rattle.idl_parse.specs.declared.tree.type_tree.ScopedName.{ScopedName}
use Rattle.idl_parse.specs.declared.tree.type_tree.TypeTree.{TypeTree}
use Rattle.idl_parse.specs.declared.tree.type_tree.TypeTree.TheVariants as types

-- two lists go together, item by item
abbrev pub Pairwise : {A B : Type 0} → (A → B → Type 0) → List A → List B → Type 0
Pairwise Goes [] [] = Unit {0}
Pairwise Goes (a ∷ as_) (b ∷ bs) = Goes a b × Pairwise Goes as_ bs
Pairwise Goes _ _ = ⊥

-- ---- words

-- the identifier at the span is this
pub record NameSays (text name : List ℕ) (span : Span) : Type 0 where
  pub stands : NameIn text span
  pub is : slice_range text span.start span.end ≡ name

-- the number at the span is this
pub record NumberSays (text : List ℕ) (n : ℤ) (span : Span) : Type 0 where
  pub stands : NumberIn text span
  pub is : whole_number (slice_range text span.start span.end) ≡ n

-- ---- types

-- the basic type that a word is; none of the others
abbrev pub basic_word : TyLayer → Option BasicType
basic_word ty.Bool = Some basics.Bool
basic_word ty.Byte = Some basics.Byte
basic_word ty.Short = Some basics.Short
basic_word ty.Int = Some basics.Int
basic_word ty.Long = Some basics.Long
basic_word ty.UByte = Some basics.UnsignedByte
basic_word ty.UShort = Some basics.UnsignedShort
basic_word ty.UInt = Some basics.UnsignedInt
basic_word ty.Text = Some basics.Text
basic_word _ = None

-- a name bare in its own module, and after its module elsewhere
pub data ScopedSays (text home own name : List ℕ) (scoped : ScopedName) : Type 0 where
  bare : own ≡ home → scoped.scope ≡ None → NameSays text name scoped.name → ScopedSays text home own name scoped
  after_module : {scope : Span} → own ≢ home → scoped.scope ≡ Some scope → NameSays text own scope → NameSays text name scoped.name → ScopedSays text home own name scoped

pub data TypeSays (text : List ℕ) (d : Declared) (home : List ℕ) : Ty → TypeTree → Type 0 where
  basic : {t : Ty} {tree : TypeTree} {at : ℕ} {word : BasicType} → tree ≡ types.Basic at word → basic_word (out-Ty t) ≡ Some word → TypeSays text d home t tree
  enum : {t : Ty} {tree : TypeTree} {k : ℕ} {e : EnumDesc} {name : ScopedName} → tree ≡ types.Named name → out-Ty t ≡ ty.Enum k → slice_get d.enums k ≡ Some e
      → ScopedSays text home e.«module» e.name name → TypeSays text d home t tree
  struct : {t : Ty} {tree : TypeTree} {k : ℕ} {s : StructDesc} {name : ScopedName} → tree ≡ types.Named name → out-Ty t ≡ ty.Struct k → slice_get d.structs k ≡ Some s
      → ScopedSays text home s.«module» s.name name → TypeSays text d home t tree
  vector : {t of : Ty} {tree element : TypeTree} {at : ℕ} → tree ≡ types.Vector at element → out-Ty t ≡ ty.Vector of → TypeSays text d home of element → TypeSays text d home t tree
  map : {t key to : Ty} {tree key_tree value_tree : TypeTree} {at : ℕ} → tree ≡ types.Map at key_tree value_tree → out-Ty t ≡ ty.Map key to
      → TypeSays text d home key key_tree → TypeSays text d home to value_tree → TypeSays text d home t tree

-- ---- literals

pub data LiteralSays (text : List ℕ) (v : Value) : Literal → Type 0 where
  yes : {l : Literal} {span : Span} → l ≡ literals.Word forms.True span → StandsAt text (kinds.Keyword words.True) span → out-Value v ≡ value.Bool true → LiteralSays text v l
  no : {l : Literal} {span : Span} → l ≡ literals.Word forms.False span → StandsAt text (kinds.Keyword words.False) span → out-Value v ≡ value.Bool false → LiteralSays text v l
  number : {l : Literal} {span : Span} {n : ℤ} → l ≡ literals.Word forms.Number span → NumberSays text n span → out-Value v ≡ value.Num n → LiteralSays text v l
  text_in_quotes : {l : Literal} {span : Span} {bytes : List ℕ} → l ≡ literals.Word forms.Text span → StandsAt text kinds.Text span
      → plain_text (slice_range text span.start span.end) ≡ bytes → out-Value v ≡ value.Text bytes → LiteralSays text v l

-- ---- parts of declarations

abbrev pub requirement_of : Bool → Requirement
requirement_of true = Require
requirement_of false = Optional

-- nothing is written for the absent default
abbrev pub DefaultSays : List ℕ → Value → Bool → Option Literal → Type 0
DefaultSays text v true written = written ≡ None
DefaultSays text v false written = (l : Literal) × (written ≡ Some l) × LiteralSays text v l

pub record MemberSays (text : List ℕ) (d : Declared) (home : List ℕ) (m : Member) (tree : MemberTree) : Type 0 where
  pub tag : NumberSays text (pos m.tag) tree.tag
  pub requirement : tree.requirement ≡ requirement_of m.require
  pub ty : TypeSays text d home m.ty tree.typed.ty
  pub name : NameSays text m.name tree.typed.name
  pub array : tree.array ≡ None
  pub default : DefaultSays text m.default (is_absent d (out-Ty m.ty) (out-Value m.default)) tree.default

pub record ItemSays (text : List ℕ) (i : Item) (tree : EnumItem) : Type 0 where
  pub name : NameSays text i.name tree.name
  pub span : Span
  pub written : tree.number ≡ Some span
  pub number : NumberSays text i.number span

pub record ParamSays (text : List ℕ) (d : Declared) (home : List ℕ) (p : Param) (tree : ParamTree) : Type 0 where
  pub routekey : tree.routekey ≡ None
  pub out : tree.out ≡ p.out
  pub ty : TypeSays text d home p.ty tree.typed.ty
  pub name : NameSays text p.name tree.typed.name

abbrev pub ReturnSays : List ℕ → Declared → List ℕ → Option Ty → Option TypeTree → Type 0
ReturnSays text d home None None = Unit {0}
ReturnSays text d home (Some t) (Some tree) = TypeSays text d home t tree
ReturnSays text d home _ _ = ⊥

pub record FuncSays (text : List ℕ) (d : Declared) (home : List ℕ) (f : FuncDesc) (tree : FuncTree) : Type 0 where
  pub ret : ReturnSays text d home f.ret tree.ret
  pub name : NameSays text f.name tree.name
  pub params : Pairwise (ParamSays text d home) f.params tree.params

-- ---- declarations

pub record StructSays (text : List ℕ) (d : Declared) (s : StructDesc) (tree : StructTree) : Type 0 where
  pub name : NameSays text s.name tree.name
  pub members : Pairwise (MemberSays text d s.«module») s.members tree.members

pub record EnumSays (text : List ℕ) (e : EnumDesc) (tree : EnumTree) : Type 0 where
  pub name : NameSays text e.name tree.name
  pub items : Pairwise (ItemSays text) e.items tree.items

pub record ConstSays (text : List ℕ) (d : Declared) (c : ConstDesc) (tree : ConstTree) : Type 0 where
  pub ty : TypeSays text d c.«module» c.ty tree.typed.ty
  pub name : NameSays text c.name tree.typed.name
  pub value : LiteralSays text c.value tree.value

pub record KeySays (text : List ℕ) (d : Declared) (k : KeyDesc) (tree : KeyTree) : Type 0 where
  pub struct : StructDesc
  pub declared : slice_get d.structs k.of ≡ Some struct
  pub name : NameSays text struct.name tree.struct_name
  pub members : Pairwise (NameSays text) k.members tree.members

pub record InterfaceSays (text : List ℕ) (d : Declared) (i : InterfaceDesc) (tree : InterfaceTree) : Type 0 where
  pub name : NameSays text i.name tree.name
  pub funcs : Pairwise (FuncSays text d i.«module») i.funcs tree.funcs

-- what the number of a declaration stands for is said
abbrev pub Said : {T : Type 0} → (T → Type 0) → Option T → Type 0
Said {T} Says (Some x) = Says x
Said {T} Says None = ⊥

abbrev pub DeclSays : List ℕ → Declared → Decl → DeclTree → Type 0
DeclSays text d (decl.Struct k) (decls.Struct tree) = Said (λ s. StructSays text d s tree) (slice_get d.structs k)
DeclSays text d (decl.Enum k) (decls.Enum tree) = Said (λ e. EnumSays text e tree) (slice_get d.enums k)
DeclSays text d (decl.Const k) (decls.Const tree) = Said (λ c. ConstSays text d c tree) (slice_get d.consts k)
DeclSays text d (decl.Key k) (decls.Key tree) = Said (λ k. KeySays text d k tree) (slice_get d.keys k)
DeclSays text d (decl.Interface k) (decls.Interface tree) = Said (λ i. InterfaceSays text d i tree) (slice_get d.interfaces k)
DeclSays text d _ _ = ⊥

-- a declaration of the block's module
abbrev pub HomeSays : List ℕ → Declared → List ℕ → Decl → DeclTree → Type 0
HomeSays text d home decl tree = (decl_home d decl ≡ home) × DeclSays text d decl tree

-- the blocks say the declarations, one after the other, each block in a module whose name may be declared
pub data EntriesSay (text : List ℕ) (d : Declared) : List Entry → List Decl → Type 0 where
  none : EntriesSay text d [] []
  block : {home : List ℕ} {m : ModuleTree} {later : List Entry} {order : List Decl} (these rest : List Decl) → IsName home → order ≡ these ++ rest
      → NameSays text home m.name → Pairwise (HomeSays text d home) these m.decls → EntriesSay text d later rest → EntriesSay text d (entries.Module m ∷ later) order
