-- The contents of a field are read as they say.
use Rattle.std.proofs.Common.{◌≡◌, ℕ, suc, ◌+◌, List, [], refl, arith}
use Rattle.wire_words.specs.Tree.{WireValue, WireValues, WirePairs, WireFields}
use Rattle.tars_model.specs.Declarations.{Declared, members_at}
use Rattle.tars_model.specs.Members.{HaveRisingTags}
use Rattle.tars_model.specs.declared.member.Member.{Member}
use Rattle.tars_model.specs.declared.ty.Ty.{Ty}
use Rattle.tars_model.specs.declared.value.Pair.{Pair}
use Rattle.tars_wire.specs.declared.wire_type.WireType.{WireType}
use Rattle.tars_wire.specs.declared.wire_type.WireType.TheVariants as wire
use Rattle.tars_wire.specs.Heads.{Head, MAX_DEPTH}
use Rattle.tars_wire.specs.Spelled.{Contents, is_whole, is_float, is_double, is_string1, is_string4, is_simple_list, is_list, is_map, is_struct, Values, no_more_values, one_value, Pairs, no_more_pairs, one_pair, Fields, no_more_fields, one_field, Spelled}
use Rattle.tars_wire.proofs.Grammar.Types.{not_end}
use Rattle.tars_wire.proofs.Grammar.Unique.{all_read, at_close}
use Rattle.tars_wire.proofs.Walking.Prefixes.{text_prefix_is, simple_prefix_is}
use Rattle.tars_decode.specs.Reads.{says, all_say, pairs_say, sayings, reads}
use Rattle.tars_decode.specs.ReadingSteps.{value_at, past_at, elements_at, entries_at, members_from}
use Rattle.tars_decode.proofs.Laws.Fields.{FieldsWith, none_with, one_with, end_law}
use Rattle.tars_decode.proofs.Laws.Skipping.{contents_skip}
use Rattle.tars_decode.proofs.Laws.Joined.{joined}
use Rattle.tars_decode.proofs.Laws.Steps.{number_law, float_law, double_law, string1_law, string4_law, simple_law, list_law, no_elements, elements_law, map_law, MembersEnd, struct_law}
use Rattle.tars_decode.proofs.Laws.Entries.{no_entries, entries_law}
use Rattle.tars_decode.proofs.Laws.Members.{IsRead, members_law}

-- the tags of each struct's members rise
abbrev pub StructsRise : Declared → Type 0
StructsRise d = (number : ℕ) → HaveRisingTags (members_at d number)

-- the end of a struct comes after its members
members_end : {d : Declared} {room : ℕ} {fs : WireFields} {w mid rest : List ℕ} → FieldsWith (IsRead d room) 0 fs w mid → Head 0 wire.StructEnd mid rest → StructsRise d → (number : ℕ) → MembersEnd (value_at (suc room) d) (past_at (suc room)) d (sayings fs d) number w rest
members_end {d} {room} {fs} {w} {mid} {rest} fields close rise number =
    let m = members_law (members_at d number) (rise number) fields (at_close close) in
    record { mid = m.rest; members = m.is; close = end_law m.left (past_at (suc room)) (λ type v following next each. each.skips) rest close 256 (omega arith) }

mutual
  pub contents_law : {room : ℕ} {type : WireType} {v : WireValue} {w rest : List ℕ} → Contents room type v w rest → (d : Declared) → StructsRise d → (t : Ty) → value_at (suc room) d t type w ≡ joined (says v d t) rest
  contents_law (is_whole {room = room} number) d rise t = number_law room number d t
  contents_law {w = w} {rest = rest} (is_float {room = room} bytes e) d rise t = float_law room w rest d t
  contents_law {w = w} {rest = rest} (is_double {room = room} bytes e) d rise t = double_law room w rest d t
  contents_law {w = w} {rest = rest} (is_string1 {room = room} {bytes = bytes} fits bs e) d rise t = string1_law room bytes w rest (text_prefix_is bytes (is_string1 {room = room} fits bs e) refl) d t
  contents_law {w = w} {rest = rest} (is_string4 {room = room} {bytes = bytes} size f bs e) d rise t = string4_law room bytes w rest (text_prefix_is bytes (is_string4 {room = room} size f bs e) refl) d t
  contents_law {w = w} {rest = rest} (is_simple_list {room = room} {bytes = bytes} head size bs e) d rise t = simple_law room bytes w rest (simple_prefix_is bytes (is_simple_list {room = room} head size bs e) refl) d t
  contents_law {rest = rest} (is_list {room = room} {values = vs} some size values) d rise t = list_law rest room some size d (λ of. all_say vs d of 0) (λ of. values_law values d rise of 0) t
  contents_law {rest = rest} (is_map {room = room} {pairs = ps} some size pairs) d rise t = map_law rest room some size d (λ key to. pairs_say ps d key to 0 []) (λ key to. pairs_law pairs d rise key to 0 []) t
  contents_law (is_struct {room = room} {fields = fs} some fields close) d rise t = struct_law room some d (sayings fs d) (λ number. members_end (fields_law fields d rise) close rise number) t

  values_law : {room n : ℕ} {vs : WireValues} {w rest : List ℕ} → Values room n vs w rest → (d : Declared) → StructsRise d → (of : Ty) (i : ℕ) → elements_at (value_at (suc room) d) of i n w ≡ joined (all_say vs d of i) rest
  values_law {room} {n} {vs} {w} no_more_values d rise of i = no_elements (value_at (suc room) d) of i w
  values_law {w = w} {rest = rest} (one_value {room = room} {n = n} {type = type} {v = v} {values = vs} {following = following} {next = next} head contents values) d rise of i =
      elements_law (value_at (suc room) d) of i n (says v d of) (all_say vs d of (i + 1)) 0 type w following next rest head (contents_law contents d rise of) (values_law values d rise of (i + 1))

  pairs_law : {room n : ℕ} {ps : WirePairs} {w rest : List ℕ} → Pairs room n ps w rest → (d : Declared) → StructsRise d → (key to : Ty) (i : ℕ) (entries : List Pair) → entries_at (value_at (suc room) d) key to i n entries w ≡ joined (pairs_say ps d key to i entries) rest
  pairs_law {room} {n} {ps} {w} no_more_pairs d rise key to i entries = no_entries (value_at (suc room) d) key to i entries w
  pairs_law {w = w} {rest = rest} (one_pair {room = room} {n = n} {key_type = key_type} {type = type} {key = k} {v = v} {pairs = ps} {key_after = key_after} {mid = mid} {following = following} {next = next} key_head key_contents head contents pairs) d rise key to i entries =
      entries_law (value_at (suc room) d) key to i n entries (says k d key) (says v d to) (λ qs. pairs_say ps d key to (i + 1) qs) key_type type w key_after mid following next rest key_head (contents_law key_contents d rise key) head (contents_law contents d rise to) (λ qs. pairs_law pairs d rise key to (i + 1) qs)

  fields_law : {room from : ℕ} {fs : WireFields} {w rest : List ℕ} → Fields room from fs w rest → (d : Declared) → StructsRise d → FieldsWith (IsRead d room) from fs w rest
  fields_law no_more_fields d rise = none_with
  fields_law (one_field head above contents fields) d rise =
      one_with head above (not_end contents) (record { skips = contents_skip contents; reads = λ t. contents_law contents d rise t }) (fields_law fields d rise)

-- the members of a body
pub record BodyRead (d : Declared) (members : List Member) (fields : WireFields) (bytes : List ℕ) : Type 0 where
  pub rest : List ℕ
  pub is : members_from (value_at 65 d) (past_at 65) members bytes ≡ joined (reads d members fields) rest

pub body_law : {fs : WireFields} {bytes : List ℕ} (d : Declared) (members : List Member) → StructsRise d → HaveRisingTags members → Spelled MAX_DEPTH bytes fs → BodyRead d members fs bytes
unfolding reads
body_law d members structs rise spelled =
    let m = members_law members rise (fields_law spelled d structs) all_read in
    record { rest = m.rest; is = m.is }
