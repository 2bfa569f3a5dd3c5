-- Heads (docs/PROTOCOL.md, "Heads", "Contents").
use Rattle.std.specs.Prelude.{◌≡◌, ◌<◌, ℕ, ◌+◌, ◌*◌, Bool, true, false, List, ◌∷◌, Option, Some, None, Result, MatchResult, ◌==◌, if◌then◌else◌}
use Rattle.tars_wire.specs.declared.wire_type.WireType.{WireType}
use Rattle.tars_wire.specs.declared.wire_type.WireType.TheVariants as wire
use Rattle.tars_wire.specs.declared.wire_type.UnknownType.{UnknownType}

-- how many lists, maps and structs may stand inside one another
abbrev pub MAX_DEPTH : ℕ
MAX_DEPTH = 64

-- the highest tag
abbrev pub MAX_TAG : ℕ
MAX_TAG = 255

-- the high four bits of a head whose tag has a byte of its own
abbrev pub LONG_HEAD : ℕ
LONG_HEAD = 15

-- the type of a code; 14 and 15 have none
unfoldable pub type_of : ℕ → Option WireType
type_of code =
    if code == 0 then Some wire.Int1
    else (if code == 1 then Some wire.Int2
    else (if code == 2 then Some wire.Int4
    else (if code == 3 then Some wire.Int8
    else (if code == 4 then Some wire.Float
    else (if code == 5 then Some wire.Double
    else (if code == 6 then Some wire.String1
    else (if code == 7 then Some wire.String4
    else (if code == 8 then Some wire.Map
    else (if code == 9 then Some wire.List
    else (if code == 10 then Some wire.StructBegin
    else (if code == 11 then Some wire.StructEnd
    else (if code == 12 then Some wire.ZeroTag
    else (if code == 13 then Some wire.SimpleList
    else None)))))))))))))

-- the result is the type with this code, or an error with a code that no type has
abbrev pub Decodes : ℕ → Result WireType UnknownType → Type 0
Decodes code r = MatchResult r (λ type. type_of code ≡ Some type) (λ unknown. (unknown.0 ≡ code) × (type_of code ≡ None))

abbrev pub code_of : WireType → ℕ
code_of wire.Int1 = 0
code_of wire.Int2 = 1
code_of wire.Int4 = 2
code_of wire.Int8 = 3
code_of wire.Float = 4
code_of wire.Double = 5
code_of wire.String1 = 6
code_of wire.String4 = 7
code_of wire.Map = 8
code_of wire.List = 9
code_of wire.StructBegin = 10
code_of wire.StructEnd = 11
code_of wire.ZeroTag = 12
code_of wire.SimpleList = 13

-- a list, a map or a struct, which count towards the depth
abbrev pub opens : WireType → Bool
opens wire.Map = true
opens wire.List = true
opens wire.StructBegin = true
opens _ = false

-- the end of a struct, which is no field
abbrev pub is_end : WireType → Bool
is_end wire.StructEnd = true
is_end _ = false

-- Bytes begin with a head of this tag and type, and these are after it. The tag stands in the high four
-- bits of the first byte, or the next byte is the tag: a reader takes either form.
pub data Head : ℕ → WireType → List ℕ → List ℕ → Type 0 where
  short : {tag byte : ℕ} {type : WireType} {rest : List ℕ} → byte ≡ 16 * tag + code_of type → tag < LONG_HEAD → Head tag type (byte ∷ rest) rest
  long : {tag byte : ℕ} {type : WireType} {rest : List ℕ} → byte ≡ 16 * LONG_HEAD + code_of type → tag < MAX_TAG + 1 → Head tag type (byte ∷ tag ∷ rest) rest
