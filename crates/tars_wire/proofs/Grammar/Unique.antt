-- Bytes spell one thing at most, and what it is shows where it ends.
use Rattle.std.proofs.Common.{◌≡◌, ℕ, ◌+◌, ◌-◌, true, ℤ, pos, List, [], ◌∷◌, length, refl, sym, ap, ◌∙◌, subst, arith}
use Rattle.std.specs.Int.{w8, w16, w32, w64, from_be_bytes}
use Rattle.wire_words.specs.Tree.{WireNumber, zero_tag, int1, int2, int4, int8, WireValue, whole, float, double, string1, string4, simple_list, list, map, struct, WireValues, value, WirePairs, WireFields}
use Rattle.tars_wire.specs.declared.wire_type.WireType.{WireType}
use Rattle.tars_wire.specs.declared.wire_type.WireType.TheVariants as wire
use Rattle.tars_wire.specs.Heads.{Head, is_end}
use Rattle.tars_wire.specs.Spelled.{Bytes, no_bytes, byte, signed, Number, is_zero_tag, is_int1, is_int2, is_int4, is_int8, IsSize, Size, Contents, is_whole, is_float, is_double, is_string1, is_string4, is_simple_list, is_list, is_map, is_struct, Values, no_more_values, one_value, Pairs, no_more_pairs, one_pair, Fields, no_more_fields, one_field}
use Rattle.tars_wire.proofs.Grammar.Heads.{same_head, by_head}
use Rattle.tars_wire.proofs.Grammar.Types.{not_end}

-- two readings of the same bytes are one
pub record Same {X : Type 0} (a b : X) (rest rest' : List ℕ) : Type 0 where
  pub value : a ≡ b
  pub left : rest ≡ rest'

same_by : {X Y : Type 0} (f : X → Y) {a b : X} {rest rest' : List ℕ} → Same a b rest rest' → Same (f a) (f b) rest rest'
same_by f s = record { value = ap f s.value; left = s.left }

same_by_two : {X Y Z : Type 0} (f : X → Y → Z) (a b : X) (c d : Y) (rest rest' : List ℕ) → a ≡ b → Same c d rest rest' → Same (f a c) (f b d) rest rest'
same_by_two f a b c d rest rest' e s = record { value = cc (e, s.value); left = s.left }

pub same_bytes : {bytes bytes' input rest rest' : List ℕ} → Bytes bytes input rest → Bytes bytes' input rest' → length bytes ≡ length bytes' → Same bytes bytes' rest rest'
same_bytes no_bytes no_bytes e = record { value = refl; left = refl }
same_bytes no_bytes (byte fits more) e = absurd (omega arith)
same_bytes (byte fits more) no_bytes e = absurd (omega arith)
same_bytes (byte {b = b} fits more) (byte fits' more') e = same_by (λ bs. b ∷ bs) (same_bytes more more' (omega arith))

pub same_number : {type : WireType} {number number' : WireNumber} {input rest rest' : List ℕ} → Number type number input rest → Number type number' input rest' → Same number number' rest rest'
same_number is_zero_tag is_zero_tag = record { value = refl; left = refl }
same_number (is_int1 bytes e) (is_int1 bytes' e') = same_by (λ bs. int1 (signed w8 bs)) (same_bytes bytes bytes' (e ∙ sym e'))
same_number (is_int2 bytes e) (is_int2 bytes' e') = same_by (λ bs. int2 (signed w16 bs)) (same_bytes bytes bytes' (e ∙ sym e'))
same_number (is_int4 bytes e) (is_int4 bytes' e') = same_by (λ bs. int4 (signed w32 bs)) (same_bytes bytes bytes' (e ∙ sym e'))
same_number (is_int8 bytes e) (is_int8 bytes' e') = same_by (λ bs. int8 (signed w64 bs)) (same_bytes bytes bytes' (e ∙ sym e'))

pos_same : (z : ℤ) (m n : ℕ) → z ≡ pos m → z ≡ pos n → m ≡ n
pos_same z m n e f = cc

one_size : (number : WireNumber) (m n : ℕ) → IsSize number m → IsSize number n → m ≡ n
one_size zero_tag m n e f = e ∙ sym f
one_size (int1 z) m n e f = pos_same z m n e f
one_size (int2 z) m n e f = pos_same z m n e f
one_size (int4 z) m n e f = pos_same z m n e f
one_size (int8 z) m n e f = absurd e

pub same_size : {m n : ℕ} {input rest rest' : List ℕ} → Size m input rest → Size n input rest' → Same m n rest rest'
same_size {m} {n} {input} {rest} {rest'} a b =
    let following : Number a.type b.number a.following rest' = by_head a.head b.head (λ tag type r. Number type b.number r rest') b.contents in
    let same = same_number a.contents following in
    record { value = one_size b.number m n (subst (λ (k : WireNumber). IsSize k m) same.value a.size) b.size; left = same.left }

-- where fields can end: at the end of the bytes, or where a struct ends
pub data Stops : List ℕ → Type 0 where
  all_read : Stops []
  at_close : {input rest : List ℕ} → Head 0 wire.StructEnd input rest → Stops input

end_is_no_field : {room tag : ℕ} {type : WireType} {v : WireValue} {input following next : List ℕ} → Stops input → Head tag type input following → Contents room type v following next → ⊥
end_is_no_field {room} {tag} {type} all_read head contents = elim head [ ]
end_is_no_field {room} {tag} {type} (at_close close) head contents =
    let same = same_head close head in
    let e : is_end type ≡ true = ap is_end (sym same.1) in
    let f = not_end contents in
    cc

numbers_same : {room : ℕ} {type : WireType} {number : WireNumber} {v : WireValue} {input rest rest' : List ℕ} → Number type number input rest → Contents room type v input rest' → Same (whole number) v rest rest'
numbers_same is_zero_tag (is_whole b) = same_by whole (same_number is_zero_tag b)
numbers_same (is_int1 bytes e) (is_whole b) = same_by whole (same_number (is_int1 bytes e) b)
numbers_same (is_int2 bytes e) (is_whole b) = same_by whole (same_number (is_int2 bytes e) b)
numbers_same (is_int4 bytes e) (is_whole b) = same_by whole (same_number (is_int4 bytes e) b)
numbers_same (is_int8 bytes e) (is_whole b) = same_by whole (same_number (is_int8 bytes e) b)

by_length : {size size' bytes bytes' input following following' rest rest' : List ℕ} → Bytes size input following → Bytes size' input following' → length size ≡ length size' → Bytes bytes following rest → length bytes ≡ from_be_bytes w32 size → Bytes bytes' following' rest' → length bytes' ≡ from_be_bytes w32 size' → Same (string4 bytes) (string4 bytes') rest rest'
by_length {size} {size'} {bytes} {bytes'} {input} {following} {following'} {rest} {rest'} s s' e b f b' f' =
    let same = same_bytes s s' e in
    let moved : Bytes bytes' following rest' = subst (λ (r : List ℕ). Bytes bytes' r rest') (sym same.left) b' in
    same_by string4 (same_bytes b moved (f ∙ (ap (from_be_bytes w32) same.value ∙ sym f')))

by_count : {n n' : ℕ} {bytes bytes' input following following' last last' rest rest' : List ℕ} → Head 0 wire.Int1 input following → Head 0 wire.Int1 input following' → Size n following last → Size n' following' last' → Bytes bytes last rest → length bytes ≡ n → Bytes bytes' last' rest' → length bytes' ≡ n' → Same (simple_list bytes) (simple_list bytes') rest rest'
by_count {n} {n'} {bytes} {bytes'} {input} {following} {following'} {last} {last'} {rest} {rest'} h h' s s' b e b' e' =
    let same = same_size s (by_head h h' (λ tag t r. Size n' r last') s') in
    let moved : Bytes bytes' last rest' = subst (λ (r : List ℕ). Bytes bytes' r rest') (sym same.left) b' in
    same_by simple_list (same_bytes b moved (e ∙ (same.value ∙ sym e')))

moved_values : {room : ℕ} {vs : WireValues} {rest : List ℕ} (n n' : ℕ) (following following' : List ℕ) → Same n n' following following' → Values room n' vs following' rest → Values room n vs following rest
moved_values {room} {vs} {rest} n n' following following' s v =
    let by_rest : Values room n' vs following rest = subst (λ (r : List ℕ). Values room n' vs r rest) (sym s.left) v in
    subst (λ (k : ℕ). Values room k vs following rest) (sym s.value) by_rest

moved_pairs : {room : ℕ} {ps : WirePairs} {rest : List ℕ} (n n' : ℕ) (following following' : List ℕ) → Same n n' following following' → Pairs room n' ps following' rest → Pairs room n ps following rest
moved_pairs {room} {ps} {rest} n n' following following' s p =
    let by_rest : Pairs room n' ps following rest = subst (λ (r : List ℕ). Pairs room n' ps r rest) (sym s.left) p in
    subst (λ (k : ℕ). Pairs room k ps following rest) (sym s.value) by_rest

mutual
  pub same_contents : {room room' : ℕ} {type : WireType} {v v' : WireValue} {input rest rest' : List ℕ} → Contents room type v input rest → Contents room' type v' input rest' → Same v v' rest rest'
  same_contents (is_whole number) b = numbers_same number b
  same_contents (is_float bytes e) (is_whole number) = elim number [ ]
  same_contents (is_float bytes e) (is_float bytes' e') = same_by float (same_bytes bytes bytes' (e ∙ sym e'))
  same_contents (is_double bytes e) (is_whole number) = elim number [ ]
  same_contents (is_double bytes e) (is_double bytes' e') = same_by double (same_bytes bytes bytes' (e ∙ sym e'))
  same_contents (is_string1 fits bytes e) (is_whole number) = elim number [ ]
  same_contents (is_string1 fits bytes e) (is_string1 fits' bytes' e') = same_by string1 (same_bytes bytes bytes' (e ∙ sym e'))
  same_contents (is_string4 size e bytes f) (is_whole number) = elim number [ ]
  same_contents (is_string4 size e bytes f) (is_string4 size' e' bytes' f') = by_length size size' (e ∙ sym e') bytes f bytes' f'
  same_contents (is_simple_list head size bytes e) (is_whole number) = elim number [ ]
  same_contents (is_simple_list head size bytes e) (is_simple_list head' size' bytes' e') = by_count head head' size size' bytes e bytes' e'
  same_contents (is_list deep size values) (is_whole number) = elim number [ ]
  same_contents {room} {room'} {type} {v} {v'} {input} {rest} {rest'} (is_list {n = n} {values = vs} {following = following} deep size values) (is_list {n = n'} {values = vs'} {following = following'} deep' size' values') =
      let s = same_size size size' in
      let moved : Values (room' - 1) n vs' following rest' = moved_values n n' following following' s values' in
      same_by list (same_values values moved)
  same_contents (is_map deep size pairs) (is_whole number) = elim number [ ]
  same_contents {room} {room'} {type} {v} {v'} {input} {rest} {rest'} (is_map {n = n} {pairs = ps} {following = following} deep size pairs) (is_map {n = n'} {pairs = ps'} {following = following'} deep' size' pairs') =
      let s = same_size size size' in
      let moved : Pairs (room' - 1) n ps' following rest' = moved_pairs n n' following following' s pairs' in
      same_by map (same_pairs pairs moved)
  same_contents (is_struct deep fields head) (is_whole number) = elim number [ ]
  same_contents (is_struct {following = following} {rest = rest} deep fields head) (is_struct {following = following'} {rest = rest'} deep' fields' head') =
      let s = same_fields fields fields' (at_close head) (at_close head') in
      let moved : Head 0 wire.StructEnd following rest' = subst (λ (r : List ℕ). Head 0 wire.StructEnd r rest') (sym s.left) head' in
      let ends = same_head head moved in
      record { value = ap struct s.value; left = ends.2 }

  pub same_values : {room room' n : ℕ} {vs vs' : WireValues} {input rest rest' : List ℕ} → Values room n vs input rest → Values room' n vs' input rest' → Same vs vs' rest rest'
  same_values no_more_values no_more_values = record { value = refl; left = refl }
  same_values (one_value {room = room} {n = n} {type = type} {v = v} {values = vs} {following = following} {next = next} {rest = rest} head contents values) (one_value {room = room'} {type = type'} {v = v'} {values = vs'} {following = following'} {next = next'} {rest = rest'} head' contents' values') =
      let s = same_contents contents (by_head head head' (λ tag t r. Contents room' t v' r next') contents') in
      same_by_two value v v' vs vs' rest rest' s.value (same_values values (subst (λ (r : List ℕ). Values room' n vs' r rest') (sym s.left) values'))

  pub same_pairs : {room room' n : ℕ} {ps ps' : WirePairs} {input rest rest' : List ℕ} → Pairs room n ps input rest → Pairs room' n ps' input rest' → Same ps ps' rest rest'
  same_pairs no_more_pairs no_more_pairs = record { value = refl; left = refl }
  same_pairs (one_pair {room = room} {n = n} {key = k} {v = v} {pairs = ps} {mid = mid} {next = next} {rest = rest} key_head key head contents pairs) (one_pair {room = room'} {type = type'} {key = k'} {v = v'} {pairs = ps'} {mid = mid'} {following = following'} {next = next'} {rest = rest'} key_head' key' head' contents' pairs') =
      let s = same_contents key (by_head key_head key_head' (λ tag t r. Contents room' t k' r mid') key') in
      let moved_head : Head 1 type' mid following' = subst (λ (r : List ℕ). Head 1 type' r following') (sym s.left) head' in
      let t = same_contents contents (by_head head moved_head (λ tag t r. Contents room' t v' r next') contents') in
      let u = same_pairs pairs (subst (λ (r : List ℕ). Pairs room' n ps' r rest') (sym t.left) pairs') in
      record { value = cc (s.value, t.value, u.value); left = u.left }

  pub same_fields : {room room' from from' : ℕ} {fs fs' : WireFields} {input rest rest' : List ℕ} → Fields room from fs input rest → Fields room' from' fs' input rest' → Stops rest → Stops rest' → Same fs fs' rest rest'
  same_fields no_more_fields no_more_fields s s' = record { value = refl; left = refl }
  same_fields no_more_fields (one_field head above contents fields) s s' = absurd (end_is_no_field s head contents)
  same_fields (one_field head above contents fields) no_more_fields s s' = absurd (end_is_no_field s' head contents)
  same_fields (one_field {tag = tag} {v = v} {fields = fs} {next = next} {rest = rest} head above contents fields) (one_field {room = room'} {tag = tag'} {v = v'} {fields = fs'} {next = next'} {rest = rest'} head' above' contents' fields') s s' =
      let same = same_head head head' in
      let t = same_contents contents (by_head head head' (λ tag t r. Contents room' t v' r next') contents') in
      let u = same_fields fields (subst (λ (r : List ℕ). Fields room' (tag' + 1) fs' r rest') (sym t.left) fields') s s' in
      record { value = cc (same.0, t.value, u.value); left = u.left }
