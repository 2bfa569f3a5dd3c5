-- The spellings of a value's parts, by the types of these: what the writers add, one by one.
use Rattle.std.specs.Prelude.{ℕ, List, ◌++◌, map as map_list}
use Rattle.tars_model.specs.Declarations.{Declared}
use Rattle.tars_model.specs.declared.member.Member.{Member}
use Rattle.tars_model.specs.declared.ty.Ty.{Ty, out-Ty}
use Rattle.tars_model.specs.declared.value.Value.{Value}
use Rattle.tars_model.specs.declared.value.Pair.{Pair}
use Rattle.wire_words.specs.Spelling.{spelled, spelled_values, spelled_pairs, spelled_fields}
use Rattle.tars_codec.specs.Written.{wire_value, wire_entry, wire_elements, wire_entries, wire_list, wire_map, wire_struct, fields_of}

abbrev pub spelled_value : ℕ → Declared → Ty → Value → List ℕ
spelled_value tag d t v = spelled tag (wire_value v d t)

-- a vector's elements, after its head and its size
abbrev pub spelled_elements : Declared → Ty → List Value → List ℕ
spelled_elements d of vs = spelled_values (wire_elements d of (map_list wire_value vs))

abbrev pub spelled_list : ℕ → Declared → Ty → List Value → List ℕ
spelled_list tag d t vs = spelled tag (wire_list (map_list wire_value vs) d (out-Ty t))

-- a key and its value
abbrev pub spelled_entry : Declared → Ty → Ty → Pair → List ℕ
spelled_entry d key to p = spelled 0 ((wire_entry p).0 d key) ++ spelled 1 ((wire_entry p).1 d to)

-- a map's entries, after its head and its size
abbrev pub spelled_entries : Declared → Ty → Ty → List Pair → List ℕ
spelled_entries d key to ps = spelled_pairs (wire_entries d key to (map_list wire_entry ps))

abbrev pub spelled_map : ℕ → Declared → Ty → List Pair → List ℕ
spelled_map tag d t ps = spelled tag (wire_map (map_list wire_entry ps) d (out-Ty t))

-- values under members
abbrev pub spelled_members : Declared → List Member → List Value → List ℕ
spelled_members d ms vs = spelled_fields (fields_of d ms vs)

abbrev pub spelled_struct : ℕ → Declared → Ty → List Value → List ℕ
spelled_struct tag d t vs = spelled tag (wire_struct (map_list wire_value vs) d (out-Ty t))
