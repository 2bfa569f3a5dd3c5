-- The canonical text of what is declared (docs/IDL.md, "Canonical text").
use Rattle.std.specs.Prelude.{ℕ, Bool, true, false, ◌&&◌, ◌||◌, not, ◌==◌, nat_le, if◌then◌else◌, pos, Option, Some, None, List, [], ◌∷◌, ◌++◌, length, codes, slice_get}
use Rattle.std.specs.Fmt.{decimal, signed_decimal}
use Rattle.std.specs.Ordering.{int_eq}
use Rattle.std.specs.List.{flat_map}
use Rattle.std.specs.Str.{bytes_eq}
use Rattle.hex.specs.Hex.{encode_upper}
use Rattle.tars_model.specs.Declarations.{Declared, items_at}
use Rattle.tars_model.specs.Types.{TyLayer}
use Rattle.tars_model.specs.Values.{first_number}
use Rattle.tars_model.specs.declared.const_desc.ConstDesc.{ConstDesc}
use Rattle.tars_model.specs.declared.decl.Decl.{Decl}
use Rattle.tars_model.specs.declared.decl.Decl.TheVariants as decl
use Rattle.tars_model.specs.declared.enum_desc.EnumDesc.{EnumDesc}
use Rattle.tars_model.specs.declared.enum_desc.Item.{Item}
use Rattle.tars_model.specs.declared.func_desc.FuncDesc.{FuncDesc}
use Rattle.tars_model.specs.declared.func_desc.Param.{Param}
use Rattle.tars_model.specs.declared.interface_desc.InterfaceDesc.{InterfaceDesc}
use Rattle.tars_model.specs.declared.key_desc.KeyDesc.{KeyDesc}
use Rattle.tars_model.specs.declared.member.Member.{Member}
use Rattle.tars_model.specs.declared.struct_desc.StructDesc.{StructDesc}
use Rattle.tars_model.specs.declared.ty.Ty.{Ty, out-Ty, fold-Ty}
use Rattle.tars_model.specs.declared.ty.Ty.TheOpen as ty
use Rattle.tars_model.specs.declared.value.Pair.{Pair}
use Rattle.tars_model.specs.declared.value.Value.{Value, out-Value}
use Rattle.tars_model.specs.declared.value.Value.TheOpen as value

-- ---- types

-- a name bare in its own module, and with its module elsewhere
unfoldable pub name_text : List ℕ → List ℕ → List ℕ → List ℕ
name_text home own name = if bytes_eq own home then name else own ++ codes "::" ++ name

unfoldable pub struct_name : List ℕ → Option StructDesc → List ℕ
struct_name home None = []
struct_name home (Some s) = name_text home s.«module» s.name

unfoldable pub enum_name : List ℕ → Option EnumDesc → List ℕ
enum_name home None = []
enum_name home (Some e) = name_text home e.«module» e.name

-- the types that are words
abbrev pub type_word : {T : Type 0} → ty.Ty-F T → List ℕ
type_word ty.Bool = codes "bool"
type_word ty.Byte = codes "byte"
type_word ty.Short = codes "short"
type_word ty.Int = codes "int"
type_word ty.Long = codes "long"
type_word ty.UByte = codes "unsigned byte"
type_word ty.UShort = codes "unsigned short"
type_word ty.UInt = codes "unsigned int"
type_word ty.Text = codes "string"
type_word _ = []

abbrev pub type_layer : Declared → List ℕ → ty.Ty-F (List ℕ) → List ℕ
type_layer d home (ty.Enum number) = enum_name home (slice_get d.enums number)
type_layer d home (ty.Struct number) = struct_name home (slice_get d.structs number)
type_layer d home (ty.Vector of) = codes "vector<" ++ of ++ codes ">"
type_layer d home (ty.Map key to) = codes "map<" ++ key ++ codes ", " ++ to ++ codes ">"
type_layer d home t = type_word t

-- a type as it is written in a module
unfoldable pub type_text : Declared → List ℕ → Ty → List ℕ
type_text d home t = fold-Ty (List ℕ) (type_layer d home) t

-- ---- literals

-- a byte of a text: `"` and `\` after a backslash, and all but 20 to 7E hexadecimal as `\xHH`
unfoldable pub byte_text : ℕ → List ℕ
byte_text b =
    if b == 34 || b == 92 then codes "\\" ++ b ∷ []
    else (if nat_le 32 b && nat_le b 126 then b ∷ [] else codes "\\x" ++ encode_upper (b ∷ []))

unfoldable pub quoted : List ℕ → List ℕ
quoted bytes = codes "\"" ++ flat_map byte_text bytes ++ codes "\""

abbrev pub truth_word : Bool → List ℕ
truth_word true = codes "true"
truth_word false = codes "false"

-- values that have a literal: numbers, those of enums too, truth values and texts
abbrev pub literal_layer : value.Value-F Value Pair → List ℕ
literal_layer (value.Bool b) = truth_word b
literal_layer (value.Num n) = signed_decimal n
literal_layer (value.Text bytes) = quoted bytes
literal_layer _ = []

unfoldable pub literal_text : Value → List ℕ
literal_text v = literal_layer (out-Value v)

-- a default that is the absent default of its type; types without literals have no other
abbrev pub is_absent : Declared → TyLayer → value.Value-F Value Pair → Bool
is_absent d ty.Bool (value.Bool b) = not b
is_absent d ty.Text (value.Text bytes) = length bytes == 0
is_absent d (ty.Enum number) (value.Num n) = int_eq n (first_number (items_at d number))
is_absent d t (value.Num n) = int_eq n (pos 0)
is_absent d _ _ = true

-- ---- lines

abbrev pub requirement_word : Bool → List ℕ
requirement_word true = codes "require"
requirement_word false = codes "optional"

unfoldable pub default_text : Declared → Member → List ℕ
default_text d m = if is_absent d (out-Ty m.ty) (out-Value m.default) then [] else codes " = " ++ literal_text m.default

unfoldable pub member_line : Declared → List ℕ → Member → List ℕ
member_line d home m =
    codes "        " ++ decimal m.tag ++ codes " " ++ requirement_word m.require ++ codes " " ++ type_text d home m.ty
    ++ codes " " ++ m.name ++ default_text d m ++ codes ";\n"

unfoldable pub item_line : Item → List ℕ
item_line i = codes "        " ++ i.name ++ codes " = " ++ signed_decimal i.number ++ codes ",\n"

abbrev pub direction_word : Bool → List ℕ
direction_word true = codes "out "
direction_word false = []

unfoldable pub param_text : Declared → List ℕ → Param → List ℕ
param_text d home p = direction_word p.out ++ type_text d home p.ty ++ codes " " ++ p.name

abbrev pub params_text : Declared → List ℕ → List Param → List ℕ
params_text d home [] = []
params_text d home (p ∷ ps) = param_text d home p ++ flat_map (λ p. codes ", " ++ param_text d home p) ps

abbrev pub return_text : Declared → List ℕ → Option Ty → List ℕ
return_text d home None = codes "void"
return_text d home (Some t) = type_text d home t

unfoldable pub func_line : Declared → List ℕ → FuncDesc → List ℕ
func_line d home f =
    codes "        " ++ return_text d home f.ret ++ codes " " ++ f.name ++ codes "(" ++ params_text d home f.params ++ codes ");\n"

-- ---- declarations: each is given in the module in which it stands

-- `WORD NAME`, `{`
unfoldable pub opening : List ℕ → List ℕ → List ℕ
opening word name = codes "    " ++ word ++ codes " " ++ name ++ codes "\n    {\n"

abbrev pub closing : List ℕ
closing = codes "    };\n"

unfoldable pub struct_text : Declared → StructDesc → List ℕ
struct_text d s = opening (codes "struct") s.name ++ flat_map (member_line d s.«module») s.members ++ closing

unfoldable pub enum_text : EnumDesc → List ℕ
enum_text e = opening (codes "enum") e.name ++ flat_map item_line e.items ++ closing

unfoldable pub const_text : Declared → ConstDesc → List ℕ
const_text d c =
    codes "    const " ++ type_text d c.«module» c.ty ++ codes " " ++ c.name ++ codes " = " ++ literal_text c.value ++ codes ";\n"

abbrev pub bare_name : Option StructDesc → List ℕ
bare_name None = []
bare_name (Some s) = s.name

unfoldable pub key_text : Declared → KeyDesc → List ℕ
key_text d k = codes "    key[" ++ bare_name (slice_get d.structs k.of) ++ flat_map (λ name. codes ", " ++ name) k.members ++ codes "];\n"

unfoldable pub interface_text : Declared → InterfaceDesc → List ℕ
interface_text d i = opening (codes "interface") i.name ++ flat_map (func_line d i.«module») i.funcs ++ closing

-- what is there of a number
abbrev pub text_of : {T : Type 0} → (T → List ℕ) → Option T → List ℕ
text_of text None = []
text_of text (Some x) = text x

unfoldable pub decl_text : Declared → Decl → List ℕ
decl_text d (decl.Struct k) = text_of (struct_text d) (slice_get d.structs k)
decl_text d (decl.Enum k) = text_of enum_text (slice_get d.enums k)
decl_text d (decl.Const k) = text_of (const_text d) (slice_get d.consts k)
decl_text d (decl.Key k) = text_of (key_text d) (slice_get d.keys k)
decl_text d (decl.Interface k) = text_of (interface_text d) (slice_get d.interfaces k)

-- the module of a struct, and of what else is declared; a key stands in that of its struct
abbrev pub struct_home : Option StructDesc → List ℕ
struct_home None = []
struct_home (Some s) = s.«module»

abbrev pub key_home : Declared → Option KeyDesc → List ℕ
key_home d None = []
key_home d (Some k) = struct_home (slice_get d.structs k.of)

abbrev pub decl_home : Declared → Decl → List ℕ
decl_home d (decl.Struct k) = struct_home (slice_get d.structs k)
decl_home d (decl.Enum k) = text_of (λ e. e.«module») (slice_get d.enums k)
decl_home d (decl.Const k) = text_of (λ c. c.«module») (slice_get d.consts k)
decl_home d (decl.Key k) = key_home d (slice_get d.keys k)
decl_home d (decl.Interface k) = text_of (λ i. i.«module») (slice_get d.interfaces k)

-- ---- blocks: declarations of one module that follow each other share one

unfoldable pub block_start : List ℕ → List ℕ
block_start home = codes "module " ++ home ++ codes "\n{\n"

abbrev pub block_end : Option (List ℕ) → List ℕ
block_end None = []
block_end (Some home) = codes "};\n"

-- between two declarations, or before the first: the open block ends where the module is another
unfoldable pub turn : Option (List ℕ) → List ℕ → List ℕ
turn None home = block_start home
turn (Some block) home = if bytes_eq block home then [] else codes "};\n" ++ block_start home

-- the declarations that are left, where a block is open or none
unfoldable pub blocks : Declared → Option (List ℕ) → List Decl → List ℕ
blocks d block [] = block_end block
blocks d block (next ∷ decls) = turn block (decl_home d next) ++ decl_text d next ++ blocks d (Some (decl_home d next)) decls

unfoldable pub canonical : Declared → List ℕ
canonical d = blocks d None d.order
