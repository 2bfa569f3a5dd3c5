-- Whatever says a value is read.
use Rattle.std.proofs.Common.{◌≡◌, ◌≤◌, ◌+◌, ℕ, zero, suc, true, false, ◌==◌, Some, List, [], ◌∷◌, ◌++◌, length, map, Result, Ok, refl, sym, ap, ◌∙◌, arith, length-append}
use Rattle.std.specs.List.{insert}
use Rattle.idl_lex.specs.Bytes.{begins}
use Rattle.tars_model.specs.Declarations.{Declared, members_at}
use Rattle.tars_model.specs.Types.{TyLayer}
use Rattle.tars_model.specs.Values.{Key, key_of, keys_rise, entry_key, is_byte}
use Rattle.tars_model.specs.declared.member.Member.{Member}
use Rattle.tars_model.specs.declared.ty.Ty.{Ty, out-Ty}
use Rattle.tars_model.specs.declared.ty.Ty.TheOpen as ty
use Rattle.tars_model.specs.declared.value.Pair.{Pair}
use Rattle.tars_model.specs.declared.value.Value.{Value, out-Value}
use Rattle.tars_model.specs.declared.value.Value.TheVariants as values
use Rattle.value_text.specs.ReadSteps.{Read, Stop, text_at, blob_at}
use Rattle.value_text.specs.ValueSteps.{place_at, as_entry, elements_at, list_at, entry_at, entries_at, map_at, field_at, comma_at, fields_at, struct_at, vector_at, value_by, value_at}
use Rattle.value_text.specs.Spelling.{past_gap, Comma, Placed, SpellsBy, ElementsBy, EntriesBy, EntryBy, MembersBy, TextSpells, BlobSpells, ALL}
use Rattle.value_text.specs.Spelling as spelling
use Rattle.value_text.proofs.Keys.{place_is, insert_between}
use Rattle.value_text.proofs.MapSound.{made_key}
use Rattle.value_text.proofs.Opening.{elements_open, entries_open, no_bracket, no_brace, number_of_type, truth_is_read}
use Rattle.value_text.proofs.Signs.{read_ok, byte_is_read, sign_is_read, word_is_read, closing_is_read, comma_is_read, past_gap_shorter}
use Rattle.value_text.proofs.Sizes.{value_shorter, entry_shorter, comma_shorter}
use Rattle.value_text.proofs.TextLaws.{text_is_read, blob_is_read}

read_text : (s bytes inside rest : List ℕ) → bytes ≡ 34 ∷ inside → TextSpells s inside rest → text_at bytes ≡ Ok (values.Text s, rest)
unfolding text_at
read_text s bytes inside rest text inner = rw (byte_is_read 34 bytes inside text, text_is_read (length inside + 1) inner (omega arith)) refl

read_blob : (s bytes inside rest : List ℕ) → bytes ≡ 35 ∷ inside → BlobSpells s inside rest → blob_at bytes ≡ Ok (values.Blob s, rest)
unfolding blob_at
read_blob s bytes inside rest text inner = rw (byte_is_read 35 bytes inside text, blob_is_read (length inside + 1) inner (omega arith)) refl

pub comma_read : (ms : List Member) (bytes rest : List ℕ) → Comma ms bytes rest → comma_at ms bytes ≡ Ok rest
comma_read [] bytes rest is = ap (λ (r : List ℕ). okay r) (sym is)
  where
    okay : List ℕ → Result (List ℕ) Stop
    okay r = Ok r
comma_read (m ∷ ms) bytes rest is = sign_is_read 44 bytes is.0 is.1 ∙ ap (λ (r : List ℕ). okay r) (sym is.2)
  where
    okay : List ℕ → Result (List ℕ) Stop
    okay r = Ok r

-- the reading by the type's layer, and the value as it is named
module _ (room : ℕ) (d : Declared) (t : Ty) (v : Value) (bytes rest : List ℕ) where
  at_layer : (l : TyLayer) (w : Value) → out-Ty t ≡ l → v ≡ w → value_by d (value_at room d) l bytes ≡ Ok (w, rest) → value_at (suc room) d t bytes ≡ Ok (v, rest)
  unfolding value_at
  at_layer l w is v_is h = ap (λ (k : TyLayer). value_by d (value_at room d) k bytes) is ∙ h ∙ ap (λ (x : Value). read_ok x rest) (sym v_is)

empty_list : (f : List ℕ → Read Value) (bytes inside rest : List ℕ) → bytes ≡ 91 ∷ inside → past_gap inside ≡ 93 ∷ rest → list_at f bytes ≡ Ok (values.List [], rest)
unfolding list_at
empty_list f bytes inside rest text closes = rw (sign_is_read 91 bytes inside text, closes) refl

empty_map : (f g : List ℕ → Read Value) (bytes inside rest : List ℕ) → bytes ≡ 123 ∷ inside → past_gap inside ≡ 125 ∷ rest → map_at f g bytes ≡ Ok (values.Map [], rest)
unfolding map_at
empty_map f g bytes inside rest text closes = rw (sign_is_read 123 bytes inside text, closes) refl

full_list : (f : List ℕ → Read Value) (vs : List Value) (bytes inside rest : List ℕ) → bytes ≡ 91 ∷ inside → begins (λ b. b == 93) (past_gap inside) ≡ false
    → elements_at f (length (past_gap inside)) (past_gap inside) ≡ Ok (vs, rest) → list_at f bytes ≡ Ok (values.List vs, rest)
unfolding list_at
full_list f vs bytes inside rest text other h = rw (sign_is_read 91 bytes inside text, other, h) refl

full_map : (f g : List ℕ → Read Value) (all : List Pair) (bytes inside rest : List ℕ) → bytes ≡ 123 ∷ inside → begins (λ b. b == 125) (past_gap inside) ≡ false
    → entries_at f g (length (past_gap inside)) [] (past_gap inside) ≡ Ok (all, rest) → map_at f g bytes ≡ Ok (values.Map all, rest)
unfolding map_at
full_map f g all bytes inside rest text other h = rw (sign_is_read 123 bytes inside text, other, h) refl

whole_struct : (f : Ty → List ℕ → Read Value) (ms : List Member) (vs : List Value) (bytes inside rest : List ℕ) → bytes ≡ 40 ∷ inside → fields_at f ms (past_gap inside) ≡ Ok (vs, rest) → struct_at f ms bytes ≡ Ok (values.Struct vs, rest)
unfolding struct_at
whole_struct f ms vs bytes inside rest text h = rw (sign_is_read 40 bytes inside text, h) refl

pub a_list : (f : Ty → List ℕ → Read Value) (of : Ty) (bytes : List ℕ) → is_byte (out-Ty of) ≡ false → vector_at f of bytes ≡ list_at (f of) bytes
a_list f of bytes other = rw other refl

a_blob : (f : Ty → List ℕ → Read Value) (of : Ty) (bytes : List ℕ) → is_byte (out-Ty of) ≡ true → vector_at f of bytes ≡ blob_at bytes
a_blob f of bytes byte = rw byte refl

-- one element, and what follows it
module _ (f : List ℕ → Read Value) (v : Value) (count : ℕ) (bytes next rest : List ℕ) (is : f bytes ≡ Ok (v, next)) where
  last_read : past_gap next ≡ 93 ∷ rest → elements_at f (suc count) bytes ≡ Ok (v ∷ [], rest)
  unfolding elements_at
  last_read closes = rw (is, closing_is_read 93 next rest closes) refl

  more_read : (inside : List ℕ) (vs : List Value) → past_gap next ≡ 44 ∷ inside → elements_at f count (past_gap inside) ≡ Ok (vs, rest) → elements_at f (suc count) bytes ≡ Ok (v ∷ vs, rest)
  unfolding elements_at
  more_read inside vs comma h = rw (is, comma_is_read 93 next inside refl comma, h) refl

-- one entry, and what follows it
module _ (f g : List ℕ → Read Value) (count at : ℕ) (p : Pair) (before after : List Pair) (bytes next rest : List ℕ) (is : entry_at f g (map entry_key before) bytes ≡ Ok ((at, p), next)) (put_in : insert before at p ≡ after) where
  last_put : past_gap next ≡ 125 ∷ rest → entries_at f g (suc count) before bytes ≡ Ok (after, rest)
  unfolding entries_at
  last_put closes = rw (is, closing_is_read 125 next rest closes) (ap (λ (l : List Pair). read_ok l rest) put_in)

  more_put : (inside : List ℕ) (all : List Pair) → past_gap next ≡ 44 ∷ inside → entries_at f g count after (past_gap inside) ≡ Ok (all, rest) → entries_at f g (suc count) before bytes ≡ Ok (all, rest)
  unfolding entries_at
  more_put inside all comma h = rw (is, comma_is_read 125 next inside refl comma) (ap (λ (l : List Pair). entries_at f g count l (past_gap inside)) put_in ∙ h)

-- an entry whose key and value are read
entry_read : (f g : List ℕ → Read Value) (k v : Value) (p : Pair) (lower higher before : List Pair) (bytes colon start rest : List ℕ) → before ≡ lower ++ higher → keys_rise (map entry_key (lower ++ p ∷ higher)) ≡ true
    → p ≡ as_entry k v → f bytes ≡ Ok (k, colon) → past_gap colon ≡ 58 ∷ start → g (past_gap start) ≡ Ok (v, rest) → entry_at f g (map entry_key before) bytes ≡ Ok ((length lower, p), rest)
unfolding entry_at
entry_read f g k v p lower higher before bytes colon start rest is rise p_is key_read sign value_read =
    let place : place_at (key_of (out-Value k)) (map entry_key before) ≡ Some (length lower) =
    ap (λ (q : Key). place_at q (map entry_key before)) (sym (made_key k v) ∙ ap entry_key (sym p_is)) ∙ ap (λ (l : List Pair). place_at (entry_key p) (map entry_key l)) is ∙ place_is p lower higher rise in
    rw (key_read, place, sign_is_read 58 (past_gap colon) start sign, value_read) (ap (λ (q : Pair). read_ok (placed q) rest) (sym p_is))
  where
    placed : Pair → ℕ × Pair
    placed q = (length lower, q)

-- one member, and what follows it
member_read : (f : Ty → List ℕ → Read Value) (m : Member) (ms : List Member) (v : Value) (vs : List Value) (bytes equals start next after rest : List ℕ) → bytes ≡ m.name ++ equals → past_gap equals ≡ 61 ∷ start
    → f m.ty (past_gap start) ≡ Ok (v, next) → Comma ms (past_gap next) after → fields_at f ms after ≡ Ok (vs, rest) → fields_at f (m ∷ ms) bytes ≡ Ok (v ∷ vs, rest)
unfolding fields_at field_at
member_read f m ms v vs bytes equals start next after rest name sign value_read comma h =
    rw (word_is_read m.name bytes equals name, sign_is_read 61 (past_gap equals) start sign, value_read, comma_read ms (past_gap next) after comma, h) refl

no_member_read : (f : Ty → List ℕ → Read Value) (bytes rest : List ℕ) → bytes ≡ 41 ∷ rest → fields_at f [] bytes ≡ Ok ([], rest)
unfolding fields_at
no_member_read f bytes rest is = rw (byte_is_read 41 bytes rest is) refl

some_element : {d : Declared} {of : Ty} {vs : List Value} {bytes rest : List ℕ} → ElementsBy ALL d of vs bytes rest → length bytes ≤ 0 → ⊥
some_element (spelling.last_element next is closes) none = let less = value_shorter is in omega arith
some_element (spelling.more_elements next inside is comma others) none = let less = value_shorter is in omega arith

some_entry : {d : Declared} {key to : Ty} {ps : List Pair} {bytes rest : List ℕ} → EntriesBy ALL d key to ps bytes rest → length bytes ≤ 0 → ⊥
some_entry (spelling.last_entry next is closes) none = let less = entry_shorter is in omega arith
some_entry (spelling.more_entries next inside is comma others) none = let less = entry_shorter is in omega arith

mutual
  pub value_is_read : (room : ℕ) {d : Declared} {t : Ty} {v : Value} {bytes rest : List ℕ} → SpellsBy ALL d t v bytes rest → length bytes ≤ room → value_at room d t bytes ≡ Ok (v, rest)
  value_is_read zero s within = let less = value_shorter s in absurd (omega arith)
  value_is_read (suc room) {d = d} {t = t} {v = v} {bytes = bytes} {rest = rest} (spelling.truth b is v_is text) within =
      at_layer room d t v bytes rest ty.Bool (values.Bool b) is v_is (truth_is_read b bytes rest text)
  value_is_read (suc room) {d = d} {t = t} {v = v} {bytes = bytes} {rest = rest} (spelling.number n fits v_is says) within =
      at_layer room d t v bytes rest (out-Ty t) (values.Num n) refl v_is (number_of_type d (value_at room d) (out-Ty t) n bytes rest fits says)
  value_is_read (suc room) {d = d} {t = t} {v = v} {bytes = bytes} {rest = rest} (spelling.text s inside is v_is text inner) within =
      at_layer room d t v bytes rest ty.Text (values.Text s) is v_is (read_text s bytes inside rest text inner)
  value_is_read (suc room) {d = d} {t = t} {v = v} {bytes = bytes} {rest = rest} (spelling.blob of s inside is byte v_is text inner) within =
      at_layer room d t v bytes rest (ty.Vector of) (values.Blob s) is v_is (a_blob (value_at room d) of bytes byte ∙ read_blob s bytes inside rest text inner)
  value_is_read (suc room) {d = d} {t = t} {v = v} {bytes = bytes} {rest = rest} (spelling.no_elements of inside is other v_is text closes) within =
      at_layer room d t v bytes rest (ty.Vector of) (values.List []) is v_is (a_list (value_at room d) of bytes other ∙ empty_list (value_at room d of) bytes inside rest text closes)
  value_is_read (suc room) {d = d} {t = t} {v = v} {bytes = bytes} {rest = rest} (spelling.elements of vs inside is other v_is text inner) within =
      let gap = past_gap_shorter inside in
      let len = ap length text in
      at_layer room d t v bytes rest (ty.Vector of) (values.List vs) is v_is
      (a_list (value_at room d) of bytes other ∙ full_list (value_at room d of) vs bytes inside rest text (no_bracket (past_gap inside) (elements_open inner))
      (elements_are_read room inner (omega arith) (length (past_gap inside)) (omega arith)))
  value_is_read (suc room) {d = d} {t = t} {v = v} {bytes = bytes} {rest = rest} (spelling.no_entries key to inside is v_is text closes) within =
      at_layer room d t v bytes rest (ty.Map key to) (values.Map []) is v_is (empty_map (value_at room d key) (value_at room d to) bytes inside rest text closes)
  value_is_read (suc room) {d = d} {t = t} {v = v} {bytes = bytes} {rest = rest} (spelling.entries key to ps all inside is v_is text inner placed) within =
      let gap = past_gap_shorter inside in
      let len = ap length text in
      at_layer room d t v bytes rest (ty.Map key to) (values.Map all) is v_is
      (full_map (value_at room d key) (value_at room d to) all bytes inside rest text (no_brace (past_gap inside) (entries_open inner))
      (entries_are_read room inner placed (omega arith) (length (past_gap inside)) (omega arith)))
  value_is_read (suc room) {d = d} {t = t} {v = v} {bytes = bytes} {rest = rest} (spelling.members k vs inside is v_is text inner) within =
      let gap = past_gap_shorter inside in
      let len = ap length text in
      at_layer room d t v bytes rest (ty.Struct k) (values.Struct vs) is v_is
      (whole_struct (value_at room d) (members_at d k) vs bytes inside rest text (members_are_read room inner (omega arith)))

  elements_are_read : (room : ℕ) {d : Declared} {of : Ty} {vs : List Value} {bytes rest : List ℕ} → ElementsBy ALL d of vs bytes rest → length bytes ≤ room → (count : ℕ) → length bytes ≤ count → elements_at (value_at room d of) count bytes ≡ Ok (vs, rest)
  elements_are_read room els within zero few = absurd (some_element els few)
  elements_are_read room {d = d} {of = of} {bytes = bytes} {rest = rest} (spelling.last_element {v = v} next is closes) within (suc count) few =
      last_read (value_at room d of) v count bytes next rest (value_is_read room is within) closes
  elements_are_read room {d = d} {of = of} {bytes = bytes} {rest = rest} (spelling.more_elements {v = v} {vs = vs} next inside is comma others) within (suc count) few =
      let less = value_shorter is in
      let gap = past_gap_shorter next in
      let len = ap length comma in
      let gap_in = past_gap_shorter inside in
      more_read (value_at room d of) v count bytes next rest (value_is_read room is within) inside vs comma (elements_are_read room others (omega arith) count (omega arith))

  entries_are_read : (room : ℕ) {d : Declared} {key to : Ty} {ps before all : List Pair} {bytes rest : List ℕ} → EntriesBy ALL d key to ps bytes rest → Placed before ps all → length bytes ≤ room → (count : ℕ) → length bytes ≤ count → entries_at (value_at room d key) (value_at room d to) count before bytes ≡ Ok (all, rest)
  entries_are_read room es placed within zero few = absurd (some_entry es few)
  entries_are_read room {d = d} {key = key} {to = to} {before = before} {all = all} {bytes = bytes} {rest = rest} (spelling.last_entry {p = p} next is closes) (spelling.put lower higher before_is rise (spelling.done all_is)) within (suc count) few =
      last_put (value_at room d key) (value_at room d to) count (length lower) p before all bytes next rest (entry_is_read room is lower higher before before_is rise within)
      (ap (λ (l : List Pair). insert l (length lower) p) before_is ∙ insert_between lower higher p ∙ sym all_is) closes
  entries_are_read room {d = d} {key = key} {to = to} {before = before} {all = all} {bytes = bytes} {rest = rest} (spelling.more_entries {p = p} next inside is comma others) (spelling.put lower higher before_is rise placed) within (suc count) few =
      let less = entry_shorter is in
      let gap = past_gap_shorter next in
      let len = ap length comma in
      let gap_in = past_gap_shorter inside in
      more_put (value_at room d key) (value_at room d to) count (length lower) p before (lower ++ p ∷ higher) bytes next rest (entry_is_read room is lower higher before before_is rise within)
      (ap (λ (l : List Pair). insert l (length lower) p) before_is ∙ insert_between lower higher p) inside all comma (entries_are_read room others placed (omega arith) count (omega arith))

  pub entry_is_read : (room : ℕ) {d : Declared} {key to : Ty} {p : Pair} {bytes rest : List ℕ} → EntryBy ALL d key to p bytes rest → (lower higher before : List Pair) → before ≡ lower ++ higher → keys_rise (map entry_key (lower ++ p ∷ higher)) ≡ true → length bytes ≤ room
      → entry_at (value_at room d key) (value_at room d to) (map entry_key before) bytes ≡ Ok ((length lower, p), rest)
  entry_is_read room {d = d} {key = key} {to = to} {p = p} {bytes = bytes} {rest = rest} (spelling.entry k v colon start p_is key_is sign value_is) lower higher before before_is rise within =
      let less = value_shorter key_is in
      let gap = past_gap_shorter colon in
      let len = ap length sign in
      let gap_in = past_gap_shorter start in
      entry_read (value_at room d key) (value_at room d to) k v p lower higher before bytes colon start rest before_is rise p_is (value_is_read room key_is within) sign (value_is_read room value_is (omega arith))

  members_are_read : (room : ℕ) {d : Declared} {ms : List Member} {vs : List Value} {bytes rest : List ℕ} → MembersBy ALL d ms vs bytes rest → length bytes ≤ room → fields_at (value_at room d) ms bytes ≡ Ok (vs, rest)
  members_are_read room {d = d} {bytes = bytes} {rest = rest} (spelling.no_members text) within = no_member_read (value_at room d) bytes rest text
  members_are_read room {d = d} {bytes = bytes} {rest = rest} (spelling.more_members {m = m} {ms = ms} {v = v} {vs = vs} equals start next after name sign is comma others) within =
      let name_len = ap length name ∙ length-append m.name equals in
      let gap = past_gap_shorter equals in
      let sign_len = ap length sign in
      let gap_in = past_gap_shorter start in
      let less = value_shorter is in
      let gap_out = past_gap_shorter next in
      let comma_len = comma_shorter ms (past_gap next) after comma in
      member_read (value_at room d) m ms v vs bytes equals start next after rest name sign (value_is_read room is (omega arith)) comma (members_are_read room others (omega arith))
