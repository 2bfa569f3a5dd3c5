-- Bytes that follow change nothing of what is spelled before them.
use Rattle.std.proofs.Common.{◌≡◌, ℕ, List, [], ◌++◌}
use Rattle.wire_words.specs.Tree.{WireNumber, WireValue, WireValues, WirePairs, WireFields}
use Rattle.tars_wire.specs.declared.wire_type.WireType.{WireType}
use Rattle.tars_wire.specs.Heads.{Head, short, long}
use Rattle.tars_wire.specs.Spelled.{Bytes, no_bytes, byte, Number, is_zero_tag, is_int1, is_int2, is_int4, is_int8, Size, Contents, is_whole, is_float, is_double, is_string1, is_string4, is_simple_list, is_list, is_map, is_struct, Values, no_more_values, one_value, Pairs, no_more_pairs, one_pair, Fields, no_more_fields, one_field, SpelledField, Spelled}
use Rattle.tars_wire.proofs.Grammar.Heads.{by_head}
use Rattle.tars_wire.proofs.Grammar.Unique.{same_contents, same_fields, all_read}

pub head_and : {tag : ℕ} {type : WireType} {input rest : List ℕ} → Head tag type input rest → (more : List ℕ) → Head tag type (input ++ more) (rest ++ more)
head_and (short e below) more = short e below
head_and (long e below) more = long e below

pub bytes_and : {bytes input rest : List ℕ} → Bytes bytes input rest → (more : List ℕ) → Bytes bytes (input ++ more) (rest ++ more)
bytes_and no_bytes more = no_bytes
bytes_and (byte fits bytes) more = byte fits (bytes_and bytes more)

number_and : {type : WireType} {number : WireNumber} {input rest : List ℕ} → Number type number input rest → (more : List ℕ) → Number type number (input ++ more) (rest ++ more)
number_and is_zero_tag more = is_zero_tag
number_and (is_int1 bytes e) more = is_int1 (bytes_and bytes more) e
number_and (is_int2 bytes e) more = is_int2 (bytes_and bytes more) e
number_and (is_int4 bytes e) more = is_int4 (bytes_and bytes more) e
number_and (is_int8 bytes e) more = is_int8 (bytes_and bytes more) e

size_and : {n : ℕ} {input rest : List ℕ} → Size n input rest → (more : List ℕ) → Size n (input ++ more) (rest ++ more)
size_and s more = record { type = s.type; number = s.number; following = s.following ++ more; head = head_and s.head more; contents = number_and s.contents more; size = s.size }

mutual
  pub contents_and : {room : ℕ} {type : WireType} {v : WireValue} {input rest : List ℕ} → Contents room type v input rest → (more : List ℕ) → Contents room type v (input ++ more) (rest ++ more)
  contents_and (is_whole number) more = is_whole (number_and number more)
  contents_and (is_float bytes e) more = is_float (bytes_and bytes more) e
  contents_and (is_double bytes e) more = is_double (bytes_and bytes more) e
  contents_and (is_string1 fits bytes e) more = is_string1 fits (bytes_and bytes more) e
  contents_and (is_string4 size e bytes f) more = is_string4 (bytes_and size more) e (bytes_and bytes more) f
  contents_and (is_simple_list head size bytes e) more = is_simple_list (head_and head more) (size_and size more) (bytes_and bytes more) e
  contents_and (is_list deep size values) more = is_list deep (size_and size more) (values_and values more)
  contents_and (is_map deep size pairs) more = is_map deep (size_and size more) (pairs_and pairs more)
  contents_and (is_struct deep fields head) more = is_struct deep (fields_and fields more) (head_and head more)

  values_and : {room n : ℕ} {vs : WireValues} {input rest : List ℕ} → Values room n vs input rest → (more : List ℕ) → Values room n vs (input ++ more) (rest ++ more)
  values_and no_more_values more = no_more_values
  values_and (one_value head contents values) more = one_value (head_and head more) (contents_and contents more) (values_and values more)

  pairs_and : {room n : ℕ} {ps : WirePairs} {input rest : List ℕ} → Pairs room n ps input rest → (more : List ℕ) → Pairs room n ps (input ++ more) (rest ++ more)
  pairs_and no_more_pairs more = no_more_pairs
  pairs_and (one_pair key_head key head contents pairs) more = one_pair (head_and key_head more) (contents_and key more) (head_and head more) (contents_and contents more) (pairs_and pairs more)

  fields_and : {room from : ℕ} {fs : WireFields} {input rest : List ℕ} → Fields room from fs input rest → (more : List ℕ) → Fields room from fs (input ++ more) (rest ++ more)
  fields_and no_more_fields more = no_more_fields
  fields_and (one_field head above contents fields) more = one_field (head_and head more) above (contents_and contents more) (fields_and fields more)

-- the same bytes spell one list of fields
pub one_reading_law : (room room' : ℕ) (bytes : List ℕ) (fields others : WireFields) → Spelled room bytes fields → Spelled room' bytes others → fields ≡ others
one_reading_law room room' bytes fs others s s' = (same_fields s s' all_read all_read).value

-- a spelling that goes on from another is as long
pub no_prefix_law : (room room' tag tag' : ℕ) (v v' : WireValue) (bytes more : List ℕ) → SpelledField room tag v bytes → SpelledField room' tag' v' (bytes ++ more) → more ≡ []
no_prefix_law room room' tag tag' v v' bytes more s s' =
    (same_contents (contents_and s.contents more) (by_head (head_and s.head more) s'.head (λ t ty r. Contents room' ty v' r []) s'.contents)).left
