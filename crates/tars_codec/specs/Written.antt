-- What is written for values (docs/PROTOCOL.md, "Writing").
use Rattle.std.specs.Prelude.{ℕ, ◌<◌, nat_le, Bool, true, false, if◌then◌else◌, ℤ, pos, List, [], ◌∷◌, length, map as map_list}
use Rattle.std.specs.List.{All}
use Rattle.tars_model.specs.Declarations.{Declared, members_at}
use Rattle.tars_model.specs.Types.{TyLayer, type_depth, depths_of}
use Rattle.tars_model.specs.declared.member.Member.{Member}
use Rattle.tars_model.specs.declared.ty.Ty.{Ty, out-Ty}
use Rattle.tars_model.specs.declared.ty.Ty.TheOpen as ty
use Rattle.tars_model.specs.declared.value.Value.{Value, fold-Value}
use Rattle.tars_model.specs.declared.value.Value.TheOpen as value
use Rattle.tars_model.specs.declared.value.Pair.{Pair, Pair-F, fold-Pair}
use Rattle.wire_words.specs.Tree.{WireValue, whole, string1, string4, simple_list, list, map, struct, WireValues, no_values, value as element, WirePairs, no_pairs, pair, WireFields, no_fields, field}
use Rattle.wire_words.specs.Spelling.{shortest, spelled_fields}
use Rattle.tars_wire.specs.Heads.{MAX_DEPTH}

-- what stands for a value, over what is declared and under its type
abbrev pub Writing : Type 0
Writing = Declared → Ty → WireValue

-- false is 0 and true is 1
abbrev pub bool_number : Bool → ℤ
bool_number false = pos 0
bool_number true = pos 1

-- a text's length takes one byte where it can
abbrev pub wire_text : List ℕ → WireValue
wire_text bytes = if nat_le (length bytes) 255 then string1 bytes else string4 bytes

-- values of one type
abbrev pub wire_elements : Declared → Ty → List Writing → WireValues
wire_elements d of [] = no_values
wire_elements d of (v ∷ vs) = element (v d of) (wire_elements d of vs)

-- entries with keys of one type and values of one type
abbrev pub wire_entries : Declared → Ty → Ty → List (Writing × Writing) → WirePairs
wire_entries d key to [] = no_pairs
wire_entries d key to (p ∷ ps) = pair (p.0 d key) (p.1 d to) (wire_entries d key to ps)

-- values of members, each under its member's tag
abbrev pub wire_members : Declared → List Member → List Writing → WireFields
wire_members d (m ∷ ms) (v ∷ vs) = field m.tag (v d m.ty) (wire_members d ms vs)
wire_members d _ _ = no_fields

-- the values of a vector that is no `vector<byte>`
abbrev pub wire_list : List Writing → Declared → TyLayer → WireValue
wire_list vs d (ty.Vector of) = list (wire_elements d of vs)
wire_list vs d _ = list no_values

-- the entries of a map
abbrev pub wire_map : List (Writing × Writing) → Declared → TyLayer → WireValue
wire_map ps d (ty.Map key to) = map (wire_entries d key to ps)
wire_map ps d _ = map no_pairs

-- a struct's fields have the tags of its members
abbrev pub wire_struct : List Writing → Declared → TyLayer → WireValue
wire_struct vs d (ty.Struct number) = struct (wire_members d (members_at d number) vs)
wire_struct vs d _ = struct no_fields

-- what stands for a value, given what stands for those inside it
abbrev pub wire_layer : value.Value-F Writing (Writing × Writing) → Writing
wire_layer (value.Bool b) d t = whole (shortest (bool_number b))
wire_layer (value.Num n) d t = whole (shortest n)
wire_layer (value.Text bytes) d t = wire_text bytes
wire_layer (value.Blob bytes) d t = simple_list bytes
wire_layer (value.List vs) d t = wire_list vs d (out-Ty t)
wire_layer (value.Map ps) d t = wire_map ps d (out-Ty t)
wire_layer (value.Struct vs) d t = wire_struct vs d (out-Ty t)

abbrev pub wire_pair : Pair-F Writing (Writing × Writing) → Writing × Writing
wire_pair p = (p.key, p.value)

-- what stands for a value: whole numbers in the shortest kind that holds them
unfoldable pub wire_value : Value → Writing
wire_value v = fold-Value Writing (Writing × Writing) wire_layer wire_pair v

-- what stands for the key and the value of an entry
unfoldable pub wire_entry : Pair → Writing × Writing
wire_entry p = fold-Pair Writing (Writing × Writing) wire_layer wire_pair p

-- every member, under its tag
abbrev pub fields_of : Declared → List Member → List Value → WireFields
fields_of d members values = wire_members d members (map_list wire_value values)

-- the one spelling of values under members
unfoldable pub written : Declared → List Member → List Value → List ℕ
written d members values = spelled_fields (fields_of d members values)

-- Values of a member's type are no deeper than a body may be (docs/PROTOCOL.md, "Reading"). One level is left, since a
-- struct that is not declared is written as an empty one, and `type_depth` counts no level for it.
abbrev pub IsShallow : Declared → Member → Type 0
IsShallow d m = type_depth (depths_of d.structs) m.ty < MAX_DEPTH

abbrev pub AreShallow : Declared → List Member → Type 0
AreShallow d members = All (IsShallow d) members
