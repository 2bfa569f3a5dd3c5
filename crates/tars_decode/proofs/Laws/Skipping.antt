-- What is skipped is what is spelled.
use Rattle.std.proofs.Common.{◌≡◌, ◌<◌, ℕ, suc, ◌-◌, ◌*◌, List, length, Some, Ok, refl, subst, arith}
use Rattle.wire_words.specs.Tree.{WireNumber, WireValue, WireValues, WirePairs, WireFields}
use Rattle.tars_wire.specs.declared.wire_type.WireType.{WireType}
use Rattle.tars_wire.specs.declared.wire_type.WireType.TheVariants as wire
use Rattle.tars_wire.specs.Heads.{Head}
use Rattle.tars_wire.specs.Spelled.{Bytes, Number, is_zero_tag, is_int1, is_int2, is_int4, is_int8, Size, Contents, is_whole, is_float, is_double, is_string1, is_string4, is_simple_list, is_list, is_map, is_struct, Values, no_more_values, one_value, Pairs, no_more_pairs, one_pair, Fields, no_more_fields, one_field}
use Rattle.tars_wire.specs.PrefixSteps.{text_prefix, simple_prefix, size_prefix}
use Rattle.tars_wire.proofs.Grammar.Types.{not_end}
use Rattle.tars_wire.proofs.Walking.Prefixes.{head_prefix_is, bytes_prefix_is, text_prefix_is, simple_prefix_is, size_prefix_is}
use Rattle.tars_decode.specs.ReadingSteps.{Past, MOST_TURNS, skip_at, field_past, counted_past, end_at, text_past, simple_past, sized_past, kind_past, past_at}
use Rattle.tars_decode.proofs.Laws.Fields.{FieldsWith, none_with, one_with, end_law}

-- a field of room is skipped
abbrev pub Skips : ℕ → WireType → WireValue → List ℕ → List ℕ → Type 0
Skips room type v following next = past_at (suc room) type following ≡ Ok next

skip_is : {bytes w rest : List ℕ} (n : ℕ) → Bytes bytes w rest → length bytes ≡ n → skip_at n w ≡ Ok rest
unfolding skip_at
skip_is {bytes} {w} {rest} n bs e = subst (λ k. skip_at k w ≡ Ok rest) e (rw (bytes_prefix_is bs) refl)

number_past : {type : WireType} {number : WireNumber} {w rest : List ℕ} → Number type number w rest → (past : Past) → kind_past past type w ≡ Ok rest
unfolding kind_past
number_past is_zero_tag past = refl
number_past (is_int1 bytes e) past = skip_is 1 bytes e
number_past (is_int2 bytes e) past = skip_is 2 bytes e
number_past (is_int4 bytes e) past = skip_is 4 bytes e
number_past (is_int8 bytes e) past = skip_is 8 bytes e

whole_past : {type : WireType} {number : WireNumber} {w rest : List ℕ} (room : ℕ) → Number type number w rest → past_at (suc room) type w ≡ Ok rest
unfolding past_at
whole_past room number = number_past number (past_at room)

float_past : {bytes w rest : List ℕ} (room : ℕ) → Bytes bytes w rest → length bytes ≡ 4 → past_at (suc room) wire.Float w ≡ Ok rest
unfolding past_at kind_past
float_past room bytes e = skip_is 4 bytes e

double_past : {bytes w rest : List ℕ} (room : ℕ) → Bytes bytes w rest → length bytes ≡ 8 → past_at (suc room) wire.Double w ≡ Ok rest
unfolding past_at kind_past
double_past room bytes e = skip_is 8 bytes e

string1_past : (room : ℕ) (text w rest : List ℕ) → text_prefix wire.String1 w ≡ Some (text, rest) → past_at (suc room) wire.String1 w ≡ Ok rest
unfolding past_at kind_past text_past
string1_past room text w rest e = rw e refl

string4_past : (room : ℕ) (text w rest : List ℕ) → text_prefix wire.String4 w ≡ Some (text, rest) → past_at (suc room) wire.String4 w ≡ Ok rest
unfolding past_at kind_past text_past
string4_past room text w rest e = rw e refl

simple_list_past : (room : ℕ) (bytes w rest : List ℕ) → simple_prefix w ≡ Some (bytes, rest) → past_at (suc room) wire.SimpleList w ≡ Ok rest
unfolding past_at kind_past simple_past
simple_list_past room bytes w rest e = rw e refl

-- one level deeper there is one less room
pub room_is : (room : ℕ) → 0 < room → suc (room - 1) ≡ room
room_is room some = omega arith

sized_is : (past : Past) (each n : ℕ) (w following rest : List ℕ) → size_prefix w ≡ Some (n, following) → counted_past past (each * n) following ≡ Ok rest → sized_past past each w ≡ Ok rest
unfolding sized_past
sized_is past each n w following rest e counted = rw e counted

list_past : {n : ℕ} {w following rest : List ℕ} (room : ℕ) → 0 < room → Size n w following → counted_past (past_at (suc (room - 1))) n following ≡ Ok rest → past_at (suc room) wire.List w ≡ Ok rest
unfolding past_at kind_past
list_past {n} {w} {following} {rest} room some size counted =
    let k : n ≡ 1 * n = omega arith in
    sized_is (past_at room) 1 n w following rest (size_prefix_is size) (subst (λ m. counted_past (past_at room) m following ≡ Ok rest) k (subst (λ r. counted_past (past_at r) n following ≡ Ok rest) (room_is room some) counted))

map_past : {n : ℕ} {w following rest : List ℕ} (room : ℕ) → 0 < room → Size n w following → counted_past (past_at (suc (room - 1))) (2 * n) following ≡ Ok rest → past_at (suc room) wire.Map w ≡ Ok rest
unfolding past_at kind_past
map_past {n} {w} {following} {rest} room some size counted =
    sized_is (past_at room) 2 n w following rest (size_prefix_is size) (subst (λ r. counted_past (past_at r) (2 * n) following ≡ Ok rest) (room_is room some) counted)

struct_past : {fs : WireFields} {w mid rest : List ℕ} (room : ℕ) → 0 < room → FieldsWith (Skips (room - 1)) 0 fs w mid → Head 0 wire.StructEnd mid rest → past_at (suc room) wire.StructBegin w ≡ Ok rest
unfolding past_at kind_past
struct_past {fs} {w} {mid} {rest} room some fields close =
    let ends = end_law fields (past_at (suc (room - 1))) (λ type v following next skips. skips) rest close 256 (omega arith) in
    subst (λ r. end_at (past_at r) MOST_TURNS w ≡ Ok rest) (room_is room some) ends

none_counted : (past : Past) (w : List ℕ) → counted_past past 0 w ≡ Ok w
unfolding counted_past
none_counted past w = refl

one_counted : (past : Past) (n tag : ℕ) (type : WireType) (w following next rest : List ℕ) → Head tag type w following → past type following ≡ Ok next → counted_past past n next ≡ Ok rest → counted_past past (suc n) w ≡ Ok rest
unfolding counted_past field_past
one_counted past n tag type w following next rest head goes later = rw (head_prefix_is head, goes) later

pair_counted : (past : Past) (n : ℕ) (key_type type : WireType) (w key_after mid following next rest : List ℕ) → Head 0 key_type w key_after → past key_type key_after ≡ Ok mid → Head 1 type mid following → past type following ≡ Ok next → counted_past past (2 * n) next ≡ Ok rest → counted_past past (2 * suc n) w ≡ Ok rest
pair_counted past n key_type type w key_after mid following next rest key_head key head value later =
    let k : suc (suc (2 * n)) ≡ 2 * suc n = omega arith in
    subst (λ m. counted_past past m w ≡ Ok rest) k (one_counted past (suc (2 * n)) 0 key_type w key_after mid rest key_head key (one_counted past (2 * n) 1 type mid following next rest head value later))

mutual
  pub contents_skip : {room : ℕ} {type : WireType} {v : WireValue} {w rest : List ℕ} → Contents room type v w rest → Skips room type v w rest
  contents_skip (is_whole {room = room} number) = whole_past room number
  contents_skip (is_float {room = room} bytes e) = float_past room bytes e
  contents_skip (is_double {room = room} bytes e) = double_past room bytes e
  contents_skip {w = w} {rest = rest} (is_string1 {room = room} {size = size} {bytes = bytes} fits bs e) = string1_past room bytes w rest (text_prefix_is bytes (is_string1 {room = room} fits bs e) refl)
  contents_skip {w = w} {rest = rest} (is_string4 {room = room} {bytes = bytes} size f bs e) = string4_past room bytes w rest (text_prefix_is bytes (is_string4 {room = room} size f bs e) refl)
  contents_skip {w = w} {rest = rest} (is_simple_list {room = room} {bytes = bytes} head size bs e) = simple_list_past room bytes w rest (simple_prefix_is bytes (is_simple_list {room = room} head size bs e) refl)
  contents_skip (is_list {room = room} some size values) = list_past room some size (values_skip values)
  contents_skip (is_map {room = room} some size pairs) = map_past room some size (pairs_skip pairs)
  contents_skip (is_struct {room = room} some fields close) = struct_past room some (fields_skip fields) close

  values_skip : {room n : ℕ} {vs : WireValues} {w rest : List ℕ} → Values room n vs w rest → counted_past (past_at (suc room)) n w ≡ Ok rest
  values_skip {room} {n} {vs} {w} no_more_values = none_counted (past_at (suc room)) w
  values_skip {w = w} {rest = rest} (one_value {room = room} {n = n} {type = type} {following = following} {next = next} head contents values) =
      one_counted (past_at (suc room)) n 0 type w following next rest head (contents_skip contents) (values_skip values)

  pairs_skip : {room n : ℕ} {ps : WirePairs} {w rest : List ℕ} → Pairs room n ps w rest → counted_past (past_at (suc room)) (2 * n) w ≡ Ok rest
  pairs_skip {room} {n} {ps} {w} no_more_pairs = none_counted (past_at (suc room)) w
  pairs_skip {w = w} {rest = rest} (one_pair {room = room} {n = n} {key_type = key_type} {type = type} {key_after = key_after} {mid = mid} {following = following} {next = next} key_head key head contents pairs) =
      pair_counted (past_at (suc room)) n key_type type w key_after mid following next rest key_head (contents_skip key) head (contents_skip contents) (pairs_skip pairs)

  fields_skip : {room from : ℕ} {fs : WireFields} {w rest : List ℕ} → Fields room from fs w rest → FieldsWith (Skips room) from fs w rest
  fields_skip no_more_fields = none_with
  fields_skip (one_field head above contents fields) = one_with head above (not_end contents) (contents_skip contents) (fields_skip fields)
