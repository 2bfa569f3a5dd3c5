-- What is spelled for fields that a body can hold is a body with these fields.
use Rattle.std.proofs.Common.{◌≡◌, ◌<◌, ◌^◌, ℕ, suc, ◌+◌, ◌-◌, List, [], ◌∷◌, ◌++◌, length, refl, sym, ap, subst, append_assoc, append-nil, arith}
use Rattle.std.specs.Int.{w32, to_be_bytes}
use Rattle.std.specs.List.{All}
use Rattle.std.proofs.lemmas.List.Elements.{recursion_from_All}
use Rattle.std.proofs.lemmas.Nat.{from_be_bytes-to_be_bytes_4}
use Rattle.wire_words.specs.Tree.{WireValue, whole, float, double, string1, string4, simple_list, list, map, struct, WireValues, no_values, value, WirePairs, no_pairs, pair, WireFields, no_fields, field}
use Rattle.wire_words.specs.Spelling.{head, count_values, count_pairs, spelled_size, spelled, spelled_values, spelled_pairs, spelled_fields}
use Rattle.tars_wire.specs.declared.wire_type.WireType.{WireType}
use Rattle.tars_wire.specs.declared.wire_type.WireType.TheVariants as wire
use Rattle.tars_wire.specs.Heads.{MAX_DEPTH}
use Rattle.tars_wire.specs.Spelled.{Contents, is_whole, is_float, is_double, is_string1, is_string4, is_simple_list, is_list, is_map, is_struct, Values, no_more_values, one_value, Pairs, no_more_pairs, one_pair, Fields, no_more_fields, one_field, Spelled}
use Rattle.tars_wire.specs.Writable.{Writable, ValuesWritable, PairsWritable, FieldsWritable}
use Rattle.tars_wire.proofs.Writing.Pieces.{AreBytes, apart, bytes_spell, head_spells, Spells, one_piece, two_pieces}
use Rattle.tars_wire.proofs.Writing.Numbers.{number_spells, size_spells}

abbrev Holds : ℕ → WireValue → List ℕ → WireType → List ℕ → Type 0
Holds room v rest type following = Contents room type v following rest

-- a field of this value
abbrev IsField : ℕ → ℕ → WireValue → List ℕ → List ℕ → Type 0
IsField room tag v rest bytes = Spells (Holds room v rest) tag bytes

-- ---- texts and simple lists

string4_spells : (bytes : List ℕ) (room tag : ℕ) (rest : List ℕ) → AreBytes (spelled tag (string4 bytes)) → length bytes < 2 ^ 32 → IsField room tag (string4 bytes) rest (spelled tag (string4 bytes) ++ rest)
string4_spells bytes room tag rest all short =
    let size = to_be_bytes w32 (length bytes) in
    two_pieces (Holds room (string4 bytes) rest) tag wire.String4 size bytes rest all (λ are_size are.
    is_string4 (bytes_spell size (bytes ++ rest) are_size) refl (bytes_spell bytes rest are) (sym (from_be_bytes-to_be_bytes_4 (length bytes) short)))

simple_spells : (bytes : List ℕ) (room tag : ℕ) (rest : List ℕ) → AreBytes (spelled tag (simple_list bytes)) → length bytes < 2 ^ 31 → IsField room tag (simple_list bytes) rest (spelled tag (simple_list bytes) ++ rest)
simple_spells bytes room tag rest all short =
    let size = spelled_size (length bytes) in
    let grouped : spelled tag (simple_list bytes) ≡ (head tag 13 ++ (head 0 0 ++ size)) ++ bytes = ap (λ first. first ++ bytes) (append_assoc (head tag 13) (head 0 0) size) in
    let regrouped : (head 0 0 ++ size) ++ (bytes ++ rest) ≡ head 0 0 ++ (size ++ (bytes ++ rest)) = append_assoc (head 0 0) size (bytes ++ rest) in
    let are : AreBytes ((head tag 13 ++ (head 0 0 ++ size)) ++ bytes) = subst AreBytes grouped all in
    rw grouped (two_pieces (Holds room (simple_list bytes) rest) tag wire.SimpleList (head 0 0 ++ size) bytes rest are (λ are_first are.
    let parts = apart (head 0 0) size are_first in
    rw regrouped (is_simple_list (head_spells 0 wire.Int1 (size ++ (bytes ++ rest)) parts.0) (size_spells (length bytes) (bytes ++ rest) short parts.1) (bytes_spell bytes rest are) refl)))

-- ---- one more

one_more_value : {room n : ℕ} {v : WireValue} {values : WireValues} {input next rest : List ℕ} → IsField room 0 v next input → Values room n values next rest → Values room (1 + n) (value v values) input rest
one_more_value {room} {n} {v} {values} {input} {next} {rest} s others =
    let same : suc n ≡ 1 + n = omega arith in
    subst (λ k. Values room k (value v values) input rest) same (one_value s.head s.contents others)

one_more_pair : {room n : ℕ} {key v : WireValue} {pairs : WirePairs} {input mid next rest : List ℕ} → IsField room 0 key mid input → IsField room 1 v next mid → Pairs room n pairs next rest → Pairs room (1 + n) (pair key v pairs) input rest
one_more_pair {room} {n} {key} {v} {pairs} {input} {mid} {next} {rest} k s others =
    let same : suc n ≡ 1 + n = omega arith in
    subst (λ c. Pairs room c (pair key v pairs) input rest) same (one_pair k.head k.contents s.head s.contents others)

mutual
  value_spells : (v : WireValue) (room tag : ℕ) (rest : List ℕ) → AreBytes (spelled tag v) → Writable v room → IsField room tag v rest (spelled tag v ++ rest)
  value_spells (whole number) room tag rest all fits =
      let s = number_spells number tag rest all fits in
      record { type = s.type; following = s.following; head = s.head; contents = is_whole s.contents }
  value_spells (float bytes) room tag rest all long = one_piece (Holds room (float bytes) rest) tag wire.Float bytes rest all (λ are. is_float (bytes_spell bytes rest are) long)
  value_spells (double bytes) room tag rest all long = one_piece (Holds room (double bytes) rest) tag wire.Double bytes rest all (λ are. is_double (bytes_spell bytes rest are) long)
  value_spells (string1 bytes) room tag rest all fits =
      one_piece (Holds room (string1 bytes) rest) tag wire.String1 (length bytes ∷ bytes) rest all (λ are. is_string1 are.0 (bytes_spell bytes rest are.1) refl)
  value_spells (string4 bytes) room tag rest all short = string4_spells bytes room tag rest all short
  value_spells (simple_list bytes) room tag rest all short = simple_spells bytes room tag rest all short
  value_spells (list vs) room tag rest all fits =
      two_pieces (Holds room (list vs) rest) tag wire.List (spelled_size (count_values vs)) (spelled_values vs) rest all (λ are_size are.
      is_list fits.0 (size_spells (count_values vs) (spelled_values vs ++ rest) fits.1 are_size) (values_spell vs (room - 1) rest are fits.2))
  value_spells (map ps) room tag rest all fits =
      two_pieces (Holds room (map ps) rest) tag wire.Map (spelled_size (count_pairs ps)) (spelled_pairs ps) rest all (λ are_size are.
      is_map fits.0 (size_spells (count_pairs ps) (spelled_pairs ps ++ rest) fits.1 are_size) (pairs_spell ps (room - 1) rest are fits.2))
  value_spells (struct fs) room tag rest all fits =
      two_pieces (Holds room (struct fs) rest) tag wire.StructBegin (spelled_fields fs) (head 0 11) rest all (λ are are_end.
      is_struct fits.0 (fields_spell fs (room - 1) 0 (head 0 11 ++ rest) are fits.1) (head_spells 0 wire.StructEnd rest are_end))

  values_spell : (vs : WireValues) (room : ℕ) (rest : List ℕ) → AreBytes (spelled_values vs) → ValuesWritable vs room → Values room (count_values vs) vs (spelled_values vs ++ rest) rest
  values_spell no_values room rest all fits = no_more_values
  values_spell (value v vs) room rest all fits =
      let parts = apart (spelled 0 v) (spelled_values vs) all in
      rw (append_assoc (spelled 0 v) (spelled_values vs) rest) (one_more_value (value_spells v room 0 (spelled_values vs ++ rest) parts.0 fits.0) (values_spell vs room rest parts.1 fits.1))

  pairs_spell : (ps : WirePairs) (room : ℕ) (rest : List ℕ) → AreBytes (spelled_pairs ps) → PairsWritable ps room → Pairs room (count_pairs ps) ps (spelled_pairs ps ++ rest) rest
  pairs_spell no_pairs room rest all fits = no_more_pairs
  pairs_spell (pair key v ps) room rest all fits =
      let parts = apart (spelled 0 key ++ spelled 1 v) (spelled_pairs ps) all in
      let entry = apart (spelled 0 key) (spelled 1 v) parts.0 in
      rw (append_assoc (spelled 0 key ++ spelled 1 v) (spelled_pairs ps) rest, append_assoc (spelled 0 key) (spelled 1 v) (spelled_pairs ps ++ rest))
      (one_more_pair (value_spells key room 0 (spelled 1 v ++ (spelled_pairs ps ++ rest)) entry.0 fits.0) (value_spells v room 1 (spelled_pairs ps ++ rest) entry.1 fits.1) (pairs_spell ps room rest parts.1 fits.2))

  fields_spell : (fs : WireFields) (room from : ℕ) (rest : List ℕ) → AreBytes (spelled_fields fs) → FieldsWritable fs room from → Fields room from fs (spelled_fields fs ++ rest) rest
  fields_spell no_fields room from rest all fits = no_more_fields
  fields_spell (field tag v fs) room from rest all fits =
      let parts = apart (spelled tag v) (spelled_fields fs) all in
      let s = value_spells v room tag (spelled_fields fs ++ rest) parts.0 fits.1 in
      rw (append_assoc (spelled tag v) (spelled_fields fs) rest) (one_field s.head fits.0 s.contents (fields_spell fs room (tag + 1) rest parts.1 fits.2))

pub spelled_law : (fields : WireFields) → FieldsWritable fields MAX_DEPTH 0 → All (λ byte. byte < 256) (spelled_fields fields) → Spelled MAX_DEPTH (spelled_fields fields) fields
spelled_law fields fits all =
    subst (λ bytes. Fields MAX_DEPTH 0 fields bytes []) (append-nil (spelled_fields fields)) (fields_spell fields MAX_DEPTH 0 [] (recursion_from_All (λ byte. byte < 256) (spelled_fields fields) all) fits)
