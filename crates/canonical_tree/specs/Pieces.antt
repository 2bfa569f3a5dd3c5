-- The canonical text of a schema in pieces: tokens, and the white space between them (docs/IDL.md, "Canonical text").
use Rattle.std.specs.Prelude.{ℕ, ◌+◌, Bool, true, false, if◌then◌else◌, Option, Some, None, List, [], ◌∷◌, ◌++◌, length, codes, slice_get}
use Rattle.std.specs.Fmt.{decimal, signed_decimal}
use Rattle.std.specs.List.{flat_map}
use Rattle.std.specs.Str.{bytes_eq}
use Rattle.tars_model.specs.Declarations.{Declared}
use Rattle.tars_model.specs.declared.const_desc.ConstDesc.{ConstDesc}
use Rattle.tars_model.specs.declared.decl.Decl.{Decl}
use Rattle.tars_model.specs.declared.decl.Decl.TheVariants as decl
use Rattle.tars_model.specs.declared.enum_desc.EnumDesc.{EnumDesc}
use Rattle.tars_model.specs.declared.enum_desc.Item.{Item}
use Rattle.tars_model.specs.declared.func_desc.FuncDesc.{FuncDesc}
use Rattle.tars_model.specs.declared.func_desc.Param.{Param}
use Rattle.tars_model.specs.declared.interface_desc.InterfaceDesc.{InterfaceDesc}
use Rattle.tars_model.specs.declared.key_desc.KeyDesc.{KeyDesc}
use Rattle.tars_model.specs.declared.member.Member.{Member}
use Rattle.tars_model.specs.declared.struct_desc.StructDesc.{StructDesc}
use Rattle.tars_model.specs.declared.ty.Ty.{Ty, out-Ty, fold-Ty}
use Rattle.tars_model.specs.declared.ty.Ty.TheOpen as ty
use Rattle.tars_model.specs.declared.value.Pair.{Pair}
use Rattle.tars_model.specs.declared.value.Value.{Value, out-Value}
use Rattle.tars_model.specs.declared.value.Value.TheOpen as value
use Rattle.canonical_text.specs.Canonical.{quoted, is_absent, decl_home}
use Rattle.idl_lex.specs.Spellings.{keyword_text, sign_text}
use Rattle.idl_lex.specs.declared.keyword.Keyword.{Keyword}
use Rattle.idl_lex.specs.declared.keyword.Keyword.TheVariants as words
use Rattle.idl_lex.specs.declared.kind.Kind.{Kind}
use Rattle.idl_lex.specs.declared.kind.Kind.TheVariants as kinds
use Rattle.idl_lex.specs.declared.sign.Sign.{Sign}
use Rattle.idl_lex.specs.declared.sign.Sign.TheVariants as signs
use Rattle.idl_lex.specs.declared.token.Token.{Token}

pub data Piece : Type 0 where
  token : Kind → List ℕ → Piece
  blank : List ℕ → Piece

abbrev pub bytes_of : Piece → List ℕ
bytes_of (token kind word) = word
bytes_of (blank bytes) = bytes

-- the text of pieces
abbrev pub spell : List Piece → List ℕ
spell pieces = flat_map bytes_of pieces

-- the tokens of pieces whose text begins at an offset
abbrev pub tokens_at : ℕ → List Piece → List Token
tokens_at at [] = []
tokens_at at (token kind word ∷ pieces) = record { kind = kind; start = at; end = at + length word } ∷ tokens_at (at + length word) pieces
tokens_at at (blank bytes ∷ pieces) = tokens_at (at + length bytes) pieces

-- ---- single pieces

abbrev pub word : Keyword → Piece
word keyword = token (kinds.Keyword keyword) (keyword_text keyword)

abbrev pub mark : Sign → Piece
mark sign = token (kinds.Sign sign) (sign_text sign)

abbrev pub ident : List ℕ → Piece
ident name = token kinds.Ident name

abbrev pub number : List ℕ → Piece
number digits = token kinds.Number digits

abbrev pub space : Piece
space = blank (codes " ")

-- the ends of lines, before nothing and before one level of indent
abbrev pub line_end : Piece
line_end = blank (codes "\n")

abbrev pub indent : Piece
indent = blank (codes "    ")

abbrev pub deep_indent : Piece
deep_indent = blank (codes "        ")

-- ---- types

unfoldable pub name_pieces : List ℕ → List ℕ → List ℕ → List Piece
name_pieces home own name = if bytes_eq own home then ident name ∷ [] else ident own ∷ mark signs.PathSep ∷ ident name ∷ []

abbrev pub struct_pieces : List ℕ → Option StructDesc → List Piece
struct_pieces home None = []
struct_pieces home (Some s) = name_pieces home s.«module» s.name

abbrev pub enum_pieces : List ℕ → Option EnumDesc → List Piece
enum_pieces home None = []
enum_pieces home (Some e) = name_pieces home e.«module» e.name

abbrev pub type_words : {T : Type 0} → ty.Ty-F T → List Piece
type_words ty.Bool = word words.Bool ∷ []
type_words ty.Byte = word words.Byte ∷ []
type_words ty.Short = word words.Short ∷ []
type_words ty.Int = word words.Int ∷ []
type_words ty.Long = word words.Long ∷ []
type_words ty.UByte = word words.Unsigned ∷ space ∷ word words.Byte ∷ []
type_words ty.UShort = word words.Unsigned ∷ space ∷ word words.Short ∷ []
type_words ty.UInt = word words.Unsigned ∷ space ∷ word words.Int ∷ []
type_words ty.Text = word words.String ∷ []
type_words _ = []

abbrev pub type_piece_layer : Declared → List ℕ → ty.Ty-F (List Piece) → List Piece
type_piece_layer d home (ty.Enum number) = enum_pieces home (slice_get d.enums number)
type_piece_layer d home (ty.Struct number) = struct_pieces home (slice_get d.structs number)
type_piece_layer d home (ty.Vector of) = word words.Vector ∷ mark signs.Less ∷ of ++ mark signs.Greater ∷ []
type_piece_layer d home (ty.Map key to) = word words.Map ∷ mark signs.Less ∷ key ++ mark signs.Comma ∷ space ∷ to ++ mark signs.Greater ∷ []
type_piece_layer d home t = type_words t

unfoldable pub type_pieces : Declared → List ℕ → Ty → List Piece
type_pieces d home t = fold-Ty (List Piece) (type_piece_layer d home) t

-- ---- literals

abbrev pub truth_piece : Bool → Piece
truth_piece true = word words.True
truth_piece false = word words.False

abbrev pub literal_piece : value.Value-F Value Pair → List Piece
literal_piece (value.Bool b) = truth_piece b ∷ []
literal_piece (value.Num n) = number (signed_decimal n) ∷ []
literal_piece (value.Text bytes) = token kinds.Text (quoted bytes) ∷ []
literal_piece _ = []

unfoldable pub literal_pieces : Value → List Piece
literal_pieces v = literal_piece (out-Value v)

-- ---- lines

abbrev pub requirement_piece : Bool → Piece
requirement_piece true = word words.Require
requirement_piece false = word words.Optional

unfoldable pub default_pieces : Declared → Member → List Piece
default_pieces d m = if is_absent d (out-Ty m.ty) (out-Value m.default) then [] else space ∷ mark signs.Equals ∷ space ∷ literal_pieces m.default

unfoldable pub member_pieces : Declared → List ℕ → Member → List Piece
member_pieces d home m =
    deep_indent ∷ number (decimal m.tag) ∷ space ∷ requirement_piece m.require ∷ space ∷ type_pieces d home m.ty
    ++ space ∷ ident m.name ∷ default_pieces d m ++ mark signs.Semicolon ∷ line_end ∷ []

unfoldable pub item_pieces : Item → List Piece
item_pieces i =
    deep_indent ∷ ident i.name ∷ space ∷ mark signs.Equals ∷ space ∷ number (signed_decimal i.number) ∷ mark signs.Comma ∷ line_end ∷ []

abbrev pub direction_pieces : Bool → List Piece
direction_pieces true = word words.Out ∷ space ∷ []
direction_pieces false = []

unfoldable pub param_pieces : Declared → List ℕ → Param → List Piece
param_pieces d home p = direction_pieces p.out ++ type_pieces d home p.ty ++ space ∷ ident p.name ∷ []

abbrev pub params_pieces : Declared → List ℕ → List Param → List Piece
params_pieces d home [] = []
params_pieces d home (p ∷ ps) = param_pieces d home p ++ flat_map (λ p. mark signs.Comma ∷ space ∷ param_pieces d home p) ps

abbrev pub return_pieces : Declared → List ℕ → Option Ty → List Piece
return_pieces d home None = word words.Void ∷ []
return_pieces d home (Some t) = type_pieces d home t

unfoldable pub func_pieces : Declared → List ℕ → FuncDesc → List Piece
func_pieces d home f =
    deep_indent ∷ return_pieces d home f.ret ++ space ∷ ident f.name ∷ mark signs.OpenParen ∷ params_pieces d home f.params
    ++ mark signs.CloseParen ∷ mark signs.Semicolon ∷ line_end ∷ []

-- ---- declarations

-- `WORD NAME`, `{`
unfoldable pub opening_pieces : Keyword → List ℕ → List Piece
opening_pieces keyword name = indent ∷ word keyword ∷ space ∷ ident name ∷ line_end ∷ indent ∷ mark signs.OpenBrace ∷ line_end ∷ []

abbrev pub closing_pieces : List Piece
closing_pieces = indent ∷ mark signs.CloseBrace ∷ mark signs.Semicolon ∷ line_end ∷ []

unfoldable pub struct_lines : Declared → StructDesc → List Piece
struct_lines d s = opening_pieces words.Struct s.name ++ flat_map (member_pieces d s.«module») s.members ++ closing_pieces

unfoldable pub enum_lines : EnumDesc → List Piece
enum_lines e = opening_pieces words.Enum e.name ++ flat_map item_pieces e.items ++ closing_pieces

unfoldable pub const_line : Declared → ConstDesc → List Piece
const_line d c =
    indent ∷ word words.Const ∷ space ∷ type_pieces d c.«module» c.ty ++ space ∷ ident c.name ∷ space ∷ mark signs.Equals ∷ space
    ∷ literal_pieces c.value ++ mark signs.Semicolon ∷ line_end ∷ []

abbrev pub struct_ident : Option StructDesc → List Piece
struct_ident None = []
struct_ident (Some s) = ident s.name ∷ []

unfoldable pub key_line : Declared → KeyDesc → List Piece
key_line d k =
    indent ∷ word words.Key ∷ mark signs.OpenBracket ∷ struct_ident (slice_get d.structs k.of)
    ++ flat_map (λ name. mark signs.Comma ∷ space ∷ ident name ∷ []) k.members ++ mark signs.CloseBracket ∷ mark signs.Semicolon ∷ line_end ∷ []

unfoldable pub interface_lines : Declared → InterfaceDesc → List Piece
interface_lines d i = opening_pieces words.Interface i.name ++ flat_map (func_pieces d i.«module») i.funcs ++ closing_pieces

abbrev pub pieces_of : {T : Type 0} → (T → List Piece) → Option T → List Piece
pieces_of pieces None = []
pieces_of pieces (Some x) = pieces x

unfoldable pub decl_pieces : Declared → Decl → List Piece
decl_pieces d (decl.Struct k) = pieces_of (struct_lines d) (slice_get d.structs k)
decl_pieces d (decl.Enum k) = pieces_of enum_lines (slice_get d.enums k)
decl_pieces d (decl.Const k) = pieces_of (const_line d) (slice_get d.consts k)
decl_pieces d (decl.Key k) = pieces_of (key_line d) (slice_get d.keys k)
decl_pieces d (decl.Interface k) = pieces_of (interface_lines d) (slice_get d.interfaces k)

-- ---- blocks

unfoldable pub block_start_pieces : List ℕ → List Piece
block_start_pieces home = word words.Module ∷ space ∷ ident home ∷ line_end ∷ mark signs.OpenBrace ∷ line_end ∷ []

abbrev pub block_close : List Piece
block_close = mark signs.CloseBrace ∷ mark signs.Semicolon ∷ line_end ∷ []

abbrev pub block_end_pieces : Option (List ℕ) → List Piece
block_end_pieces None = []
block_end_pieces (Some home) = block_close

unfoldable pub turn_pieces : Option (List ℕ) → List ℕ → List Piece
turn_pieces None home = block_start_pieces home
turn_pieces (Some block) home = if bytes_eq block home then [] else block_close ++ block_start_pieces home

unfoldable pub block_pieces : Declared → Option (List ℕ) → List Decl → List Piece
block_pieces d block [] = block_end_pieces block
block_pieces d block (next ∷ decls) = turn_pieces block (decl_home d next) ++ decl_pieces d next ++ block_pieces d (Some (decl_home d next)) decls

-- the canonical text of what is declared
unfoldable pub pieces : Declared → List Piece
pieces d = block_pieces d None d.order
