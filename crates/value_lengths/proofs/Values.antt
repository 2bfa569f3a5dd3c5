-- What a text says of a value is short on the wire.
use Rattle.std.proofs.Common.{◌≤◌, ◌+◌, ◌*◌, ℕ, pos, Bool, true, false, List, [], ◌∷◌, ◌++◌, length, map, ap, arith, length-append, codes}
use Rattle.wire_words.specs.Tree.{whole, simple_list}
use Rattle.wire_words.specs.Spelling.{head, shortest, spelled, spelled_size, spelled_number, count_values, count_pairs}
use Rattle.canonical_text.specs.Canonical.{truth_word}
use Rattle.tars_model.specs.Declarations.{Declared, members_at}
use Rattle.tars_model.specs.declared.member.Member.{Member}
use Rattle.tars_model.specs.declared.ty.Ty.{Ty, out-Ty}
use Rattle.tars_model.specs.declared.value.Pair.{Pair}
use Rattle.tars_model.specs.declared.value.Value.{Value}
use Rattle.tars_codec.specs.Spellings.{spelled_value, spelled_elements, spelled_entry, spelled_entries, spelled_members}
use Rattle.tars_codec.specs.Written.{wire_value, wire_entry, wire_elements, wire_entries, bool_number}
use Rattle.tars_codec.proofs.CallerLemmas.{bool_wire, num_wire, blob_wire, list_wire, map_wire, struct_wire}
use Rattle.tars_codec.proofs.Layers.{wire_entry_out}
use Rattle.rpc_packet.proofs.FrameBytes.{head_length, number_length}
use Rattle.rpc_packet.proofs.Lengths.{text_length as text_written}
use Rattle.value_text.specs.Spelling.{past_gap, SpellsBy, ElementsBy, EntriesBy, EntryBy, MembersBy, BlobSpells, ALL}
use Rattle.value_text.specs.Spelling as spelling
use Rattle.value_text.specs.ValueSteps.{as_entry}
use Rattle.value_text.proofs.Signs.{past_gap_shorter}
use Rattle.value_text.proofs.Sizes.{comma_shorter}
use Rattle.value_text.proofs.TextLaws.{text_length, blob_length}
use Rattle.value_lengths.specs.SaidCalls.{GROWTH, IsBounded}
use Rattle.value_lengths.proofs.Numbers.{number_short}
use Rattle.value_lengths.proofs.Entries.{entries_more, placed_size}

-- ---- what stands around the values inside another

sized_length : (tag type n : ℕ) (inside : List ℕ) → length (head tag type ++ spelled_size n ++ inside) ≤ 12 + length inside
unfolding spelled_size
sized_length tag type n inside = simp length-append (omega (arith, head_length tag type, number_length 0 (shortest (pos n))))

struct_length : (tag : ℕ) (inside : List ℕ) → length (head tag 10 ++ inside ++ head 0 11) ≤ 4 + length inside
struct_length tag inside = simp length-append (omega (arith, head_length tag 10, head_length 0 11))

truth_short : (tag : ℕ) (b : Bool) (rest : List ℕ) → IsBounded (spelled tag (whole (shortest (bool_number b)))) (truth_word b ++ rest) rest
truth_short tag true rest = omega (arith, number_length tag (shortest (bool_number true)))
truth_short tag false rest = omega (arith, number_length tag (shortest (bool_number false)))

nothing_length : length (spelled_size 0) ≤ 2
unfolding spelled_size shortest spelled_number
nothing_length = head_length 0 12

-- nothing is the shortest, and each byte of another has two digits
blob_short : (tag : ℕ) (bytes inside rest : List ℕ) → BlobSpells bytes inside rest → IsBounded (spelled tag (simple_list bytes)) (codes "#" ++ inside) rest
unfolding spelled_size
blob_short tag [] inside rest says =
    let less = blob_length says in
    simp length-append (omega (arith, head_length tag 13, head_length 0 0, nothing_length, less))
blob_short tag (b ∷ bytes) inside rest says =
    let less = blob_length says in
    simp length-append (omega (arith, head_length tag 13, head_length 0 0, number_length 0 (shortest (pos (length (b ∷ bytes)))), less))

-- the same, where one byte of the text is a sign beside
abbrev AreBounded : List ℕ → List ℕ → List ℕ → Type 0
AreBounded bytes text rest = length bytes + GROWTH + GROWTH * length rest ≤ GROWTH * length text

mutual
  pub value_short : (tag : ℕ) {d : Declared} {t : Ty} {v : Value} {text rest : List ℕ} → SpellsBy ALL d t v text rest → IsBounded (spelled_value tag d t v) text rest
  value_short tag {d = d} {t = t} {v = v} {rest = rest} (spelling.truth b is v_is text_is) =
      rw (text_is, bool_wire v d t b v_is) (truth_short tag b rest)
  value_short tag {d = d} {t = t} {v = v} {text = text} {rest = rest} (spelling.number n fits v_is says) =
      rw (num_wire v d t n v_is) (number_short tag d (out-Ty t) n text rest fits says)
  value_short tag {d = d} {t = t} {v = v} (spelling.text s inside is v_is text_is inner) =
      let less = text_length inner in
      rw (v_is, text_is) (omega (arith, text_written tag d t s, less))
  value_short tag {d = d} {t = t} {v = v} {rest = rest} (spelling.blob of s inside is byte v_is text_is inner) =
      rw (text_is, blob_wire v d t s v_is) (blob_short tag s inside rest inner)
  value_short tag {d = d} {t = t} {v = v} (spelling.no_elements of inside is other v_is text_is closes) =
      let gap = past_gap_shorter inside in
      let closed = ap length closes in
      rw (text_is, list_wire v d t [] v_is, is) (omega (arith, sized_length tag 9 0 [], gap, closed))
  value_short tag {d = d} {t = t} {v = v} (spelling.elements of vs inside is other v_is text_is inner) =
      let gap = past_gap_shorter inside in
      let less = elements_short inner in
      rw (text_is, list_wire v d t vs v_is, is)
      (omega (arith, sized_length tag 9 (count_values (wire_elements d of (map wire_value vs))) (spelled_elements d of vs), gap, less))
  value_short tag {d = d} {t = t} {v = v} (spelling.no_entries key to inside is v_is text_is closes) =
      let gap = past_gap_shorter inside in
      let closed = ap length closes in
      rw (text_is, map_wire v d t [] v_is, is) (omega (arith, sized_length tag 8 0 [], gap, closed))
  value_short tag {d = d} {t = t} {v = v} (spelling.entries key to ps all inside is v_is text_is inner placed) =
      let gap = past_gap_shorter inside in
      let less = entries_short inner in
      let size = placed_size d key to placed in
      rw (text_is, map_wire v d t all v_is, is)
      (omega (arith, sized_length tag 8 (count_pairs (wire_entries d key to (map wire_entry all))) (spelled_entries d key to all), gap, less, size))
  value_short tag {d = d} {t = t} {v = v} (spelling.members k vs inside is v_is text_is inner) =
      let gap = past_gap_shorter inside in
      let less = members_short inner in
      rw (text_is, struct_wire v d t vs v_is, is) (omega (arith, struct_length tag (spelled_members d (members_at d k) vs), gap, less))

  -- each with the sign after it
  elements_short : {d : Declared} {of : Ty} {vs : List Value} {text rest : List ℕ} → ElementsBy ALL d of vs text rest → AreBounded (spelled_elements d of vs) text rest
  elements_short {d = d} {of = of} (spelling.last_element {v = v} next is closes) =
      let less = value_short 0 is in
      let gap = past_gap_shorter next in
      let closed = ap length closes in
      simp length-append (omega (arith, less, gap, closed))
  elements_short {d = d} {of = of} (spelling.more_elements {v = v} {vs = vs} next inside is comma others) =
      let less = value_short 0 is in
      let gap = past_gap_shorter next in
      let comma_len = ap length comma in
      let gap_in = past_gap_shorter inside in
      let left = elements_short others in
      simp length-append (omega (arith, less, gap, comma_len, gap_in, left))

  entries_short : {d : Declared} {key to : Ty} {ps : List Pair} {text rest : List ℕ} → EntriesBy ALL d key to ps text rest → AreBounded (spelled_entries d key to ps) text rest
  entries_short {d = d} {key = key} {to = to} (spelling.last_entry {p = p} next is closes) =
      let less = entry_short is in
      let gap = past_gap_shorter next in
      let closed = ap length closes in
      omega (arith, less, gap, closed, entries_more d key to p [])
  entries_short {d = d} {key = key} {to = to} (spelling.more_entries {p = p} {ps = ps} next inside is comma others) =
      let less = entry_short is in
      let gap = past_gap_shorter next in
      let comma_len = ap length comma in
      let gap_in = past_gap_shorter inside in
      let left = entries_short others in
      omega (arith, less, gap, comma_len, gap_in, left, entries_more d key to p ps)

  entry_short : {d : Declared} {key to : Ty} {p : Pair} {text rest : List ℕ} → EntryBy ALL d key to p text rest → IsBounded (spelled_entry d key to p) text rest
  entry_short {d = d} {key = key} {to = to} (spelling.entry k v colon start p_is key_is sign value_is) =
      let less_key = value_short 0 key_is in
      let gap = past_gap_shorter colon in
      let sign_len = ap length sign in
      let gap_in = past_gap_shorter start in
      let less_value = value_short 1 value_is in
      rw (p_is, wire_entry_out (as_entry k v)) (simp length-append (omega (arith, less_key, gap, sign_len, gap_in, less_value)))

  members_short : {d : Declared} {ms : List Member} {vs : List Value} {text rest : List ℕ} → MembersBy ALL d ms vs text rest → AreBounded (spelled_members d ms vs) text rest
  members_short (spelling.no_members text_is) = rw text_is (omega arith)
  members_short {d = d} (spelling.more_members {m = m} {ms = ms} {v = v} {vs = vs} equals start next after name sign is comma others) =
      let gap = past_gap_shorter equals in
      let sign_len = ap length sign in
      let gap_in = past_gap_shorter start in
      let less = value_short m.tag is in
      let gap_out = past_gap_shorter next in
      let comma_len = comma_shorter ms (past_gap next) after comma in
      let left = members_short others in
      rw (name, length-append m.name equals) (simp length-append (omega (arith, gap, sign_len, gap_in, less, gap_out, comma_len, left)))
