-- What bytes spell, as a relation by cases (docs/PROTOCOL.md, "Contents" and "Reading"). Everywhere the
-- bytes come before what is left of them. `room` is how many lists, maps and structs may still stand
-- inside one another. The relation is given for any choice of the rules that are kept: bodies keep all of
-- them, and the reason of a fault is told by the rules that it breaks.
use Rattle.std.specs.Prelude.{◌≡◌, ◌<◌, ◌≤◌, ℕ, zero, suc, ◌+◌, ◌-◌, Bool, true, false, ℤ, pos, negsuc, List, [], ◌∷◌, length}
use Rattle.std.specs.Int.{Width, w8, w16, w32, w64, from_be_bytes, cast_signed}
use Rattle.wire_words.specs.Tree.{WireNumber, zero_tag, int1, int2, int4, int8, WireValue, whole, float, double, string1, string4, simple_list, list, map, struct, WireValues, no_values, value, WirePairs, no_pairs, pair, WireFields, no_fields, field}
use Rattle.tars_wire.specs.declared.wire_type.WireType.{WireType}
use Rattle.tars_wire.specs.declared.wire_type.WireType.TheVariants as wire
use Rattle.tars_wire.specs.Heads.{MAX_DEPTH, Head}

-- these bytes, each of them a number below 256
pub data Bytes : List ℕ → List ℕ → List ℕ → Type 0 where
  no_bytes : {rest : List ℕ} → Bytes [] rest rest
  byte : {b : ℕ} {bytes input rest : List ℕ} → b < 256 → Bytes bytes input rest → Bytes (b ∷ bytes) (b ∷ input) rest

-- a number in two's complement, the high byte first
abbrev pub signed : Width → List ℕ → ℤ
signed w bytes = cast_signed w (from_be_bytes w bytes)

-- a whole number, of a type
pub data Number : WireType → WireNumber → List ℕ → List ℕ → Type 0 where
  is_zero_tag : {rest : List ℕ} → Number wire.ZeroTag zero_tag rest rest
  is_int1 : {bytes input rest : List ℕ} → Bytes bytes input rest → length bytes ≡ 1 → Number wire.Int1 (int1 (signed w8 bytes)) input rest
  is_int2 : {bytes input rest : List ℕ} → Bytes bytes input rest → length bytes ≡ 2 → Number wire.Int2 (int2 (signed w16 bytes)) input rest
  is_int4 : {bytes input rest : List ℕ} → Bytes bytes input rest → length bytes ≡ 4 → Number wire.Int4 (int4 (signed w32 bytes)) input rest
  is_int8 : {bytes input rest : List ℕ} → Bytes bytes input rest → length bytes ≡ 8 → Number wire.Int8 (int8 (signed w64 bytes)) input rest

-- which rules are kept, beside those of types: sizes are not negative, fixed tags are the ones that are due,
-- the tags of fields rise, lists, maps and structs are not too deep inside one another
pub record Rules : Type 0 where
  pub sizes : Bool
  pub fixed_tags : Bool
  pub rising_tags : Bool
  pub depth : Bool

-- the rules of types alone; then sizes too; fixed tags too; rising tags too; and all rules
abbrev pub TYPES : Rules
TYPES = record { sizes = false; fixed_tags = false; rising_tags = false; depth = false }

abbrev pub SIZES : Rules
SIZES = record { sizes = true; fixed_tags = false; rising_tags = false; depth = false }

abbrev pub FIXED_TAGS : Rules
FIXED_TAGS = record { sizes = true; fixed_tags = true; rising_tags = false; depth = false }

abbrev pub RISING_TAGS : Rules
RISING_TAGS = record { sizes = true; fixed_tags = true; rising_tags = true; depth = false }

abbrev pub ALL : Rules
ALL = record { sizes = true; fixed_tags = true; rising_tags = true; depth = true }

-- a condition, where it is kept
abbrev pub When : Bool → Type 0 → Type 0
When true condition = condition
When false condition = Unit {0}

-- a head of this tag, or of any where fixed tags are not kept
abbrev pub FixedHead : Bool → ℕ → WireType → List ℕ → List ℕ → Type 0
FixedHead true wanted type input rest = Head wanted type input rest
FixedHead false wanted type input rest = (tag : ℕ) × Head tag type input rest

abbrev pub at_least_0 : ℤ → ℕ
at_least_0 (pos n) = n
at_least_0 (negsuc n) = 0

-- a size is not negative; where that rule is not kept, a negative one counts nothing
abbrev pub CountsAs : Bool → ℤ → ℕ → Type 0
CountsAs true number n = number ≡ pos n
CountsAs false number n = n ≡ at_least_0 number

-- a number that may be a size: of at most four bytes
abbrev pub IsSizeBy : Bool → WireNumber → ℕ → Type 0
IsSizeBy sizes zero_tag n = n ≡ 0
IsSizeBy sizes (int1 number) n = CountsAs sizes number n
IsSizeBy sizes (int2 number) n = CountsAs sizes number n
IsSizeBy sizes (int4 number) n = CountsAs sizes number n
IsSizeBy sizes (int8 number) n = ⊥

-- a size field
pub record SizeBy (rules : Rules) (n : ℕ) (input rest : List ℕ) : Type 0 where
  pub type : WireType
  pub number : WireNumber
  pub following : List ℕ
  pub head : FixedHead rules.fixed_tags 0 type input following
  pub contents : Number type number following rest
  pub size : IsSizeBy rules.sizes number n

mutual
  -- what comes after a head of this type
  pub data ContentsBy (rules : Rules) : ℕ → WireType → WireValue → List ℕ → List ℕ → Type 0 where
    is_whole : {room : ℕ} {type : WireType} {number : WireNumber} {input rest : List ℕ} → Number type number input rest → ContentsBy rules room type (whole number) input rest
    is_float : {room : ℕ} {bytes input rest : List ℕ} → Bytes bytes input rest → length bytes ≡ 4 → ContentsBy rules room wire.Float (float bytes) input rest
    is_double : {room : ℕ} {bytes input rest : List ℕ} → Bytes bytes input rest → length bytes ≡ 8 → ContentsBy rules room wire.Double (double bytes) input rest
    is_string1 : {room size : ℕ} {bytes input rest : List ℕ} → size < 256 → Bytes bytes input rest → length bytes ≡ size → ContentsBy rules room wire.String1 (string1 bytes) (size ∷ input) rest
    is_string4 : {room : ℕ} {size bytes input following rest : List ℕ} → Bytes size input following → length size ≡ 4 → Bytes bytes following rest → length bytes ≡ from_be_bytes w32 size → ContentsBy rules room wire.String4 (string4 bytes) input rest
    is_simple_list : {room n : ℕ} {bytes input following last rest : List ℕ} → FixedHead rules.fixed_tags 0 wire.Int1 input following → SizeBy rules n following last → Bytes bytes last rest → length bytes ≡ n → ContentsBy rules room wire.SimpleList (simple_list bytes) input rest
    is_list : {room n : ℕ} {values : WireValues} {input following rest : List ℕ} → When rules.depth (0 < room) → SizeBy rules n input following → ValuesBy rules (room - 1) n values following rest → ContentsBy rules room wire.List (list values) input rest
    is_map : {room n : ℕ} {pairs : WirePairs} {input following rest : List ℕ} → When rules.depth (0 < room) → SizeBy rules n input following → PairsBy rules (room - 1) n pairs following rest → ContentsBy rules room wire.Map (map pairs) input rest
    is_struct : {room : ℕ} {fields : WireFields} {input following rest : List ℕ} → When rules.depth (0 < room) → FieldsBy rules (room - 1) 0 fields input following → FixedHead rules.fixed_tags 0 wire.StructEnd following rest → ContentsBy rules room wire.StructBegin (struct fields) input rest

  -- so many values of tag 0
  pub data ValuesBy (rules : Rules) : ℕ → ℕ → WireValues → List ℕ → List ℕ → Type 0 where
    no_more_values : {room : ℕ} {rest : List ℕ} → ValuesBy rules room zero no_values rest rest
    one_value : {room n : ℕ} {type : WireType} {v : WireValue} {values : WireValues} {input following next rest : List ℕ} → FixedHead rules.fixed_tags 0 type input following → ContentsBy rules room type v following next → ValuesBy rules room n values next rest → ValuesBy rules room (suc n) (value v values) input rest

  -- so many keys of tag 0, each with a value of tag 1
  pub data PairsBy (rules : Rules) : ℕ → ℕ → WirePairs → List ℕ → List ℕ → Type 0 where
    no_more_pairs : {room : ℕ} {rest : List ℕ} → PairsBy rules room zero no_pairs rest rest
    one_pair : {room n : ℕ} {key_type type : WireType} {key v : WireValue} {pairs : WirePairs} {input key_after mid following next rest : List ℕ} → FixedHead rules.fixed_tags 0 key_type input key_after → ContentsBy rules room key_type key key_after mid → FixedHead rules.fixed_tags 1 type mid following → ContentsBy rules room type v following next → PairsBy rules room n pairs next rest → PairsBy rules room (suc n) (pair key v pairs) input rest

  -- fields with strictly rising tags, none of them below `from`
  pub data FieldsBy (rules : Rules) : ℕ → ℕ → WireFields → List ℕ → List ℕ → Type 0 where
    no_more_fields : {room from : ℕ} {rest : List ℕ} → FieldsBy rules room from no_fields rest rest
    one_field : {room from tag : ℕ} {type : WireType} {v : WireValue} {fields : WireFields} {input following next rest : List ℕ} → Head tag type input following → When rules.rising_tags (from ≤ tag) → ContentsBy rules room type v following next → FieldsBy rules room (tag + 1) fields next rest → FieldsBy rules room from (field tag v fields) input rest

-- the same by all rules
abbrev pub IsSize : WireNumber → ℕ → Type 0
IsSize number n = IsSizeBy true number n

abbrev pub Size : ℕ → List ℕ → List ℕ → Type 0
Size n input rest = SizeBy ALL n input rest

abbrev pub Contents : ℕ → WireType → WireValue → List ℕ → List ℕ → Type 0
Contents room type v input rest = ContentsBy ALL room type v input rest

abbrev pub Values : ℕ → ℕ → WireValues → List ℕ → List ℕ → Type 0
Values room n values input rest = ValuesBy ALL room n values input rest

abbrev pub Pairs : ℕ → ℕ → WirePairs → List ℕ → List ℕ → Type 0
Pairs room n pairs input rest = PairsBy ALL room n pairs input rest

abbrev pub Fields : ℕ → ℕ → WireFields → List ℕ → List ℕ → Type 0
Fields room from fields input rest = FieldsBy ALL room from fields input rest

-- a field with its head: all of the bytes
pub record SpelledField (room tag : ℕ) (v : WireValue) (bytes : List ℕ) : Type 0 where
  pub type : WireType
  pub following : List ℕ
  pub head : Head tag type bytes following
  pub contents : Contents room type v following []

-- the bytes spell these fields, with strictly rising tags and no deeper than `room`
abbrev pub Spelled : ℕ → List ℕ → WireFields → Type 0
Spelled room bytes fields = Fields room 0 fields bytes []

-- a body by some rules
pub record IsBodyBy (rules : Rules) (bytes : List ℕ) : Type 0 where
  pub fields : WireFields
  pub spelled : FieldsBy rules MAX_DEPTH 0 fields bytes []

-- a body
abbrev pub IsBody : List ℕ → Type 0
IsBody bytes = IsBodyBy ALL bytes
