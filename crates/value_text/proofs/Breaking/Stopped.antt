-- Where reading stops for a rule, that rule is broken.
use Rattle.std.proofs.Common.{◌≡◌, ℕ, zero, suc, ℤ, Bool, true, false, ◌==◌, cond, Option, Some, None, List, [], ◌∷◌, ◌++◌, length, take, drop, map, Result, Ok, Err, refl, sym, ap, ◌∙◌, subst}
use Rattle.std.proofs.lemmas.List.{take-append-drop}
use Rattle.std.specs.Char.{is_ascii_alphabetic}
use Rattle.std.specs.List.{insert}
use Rattle.facts.specs.ResultSteps.{◌>>=◌}
use Rattle.idl_lex.specs.Bytes.{begins}
use Rattle.idl_lex.specs.Forms.{is_in_range}
use Rattle.idl_lex.specs.Meanings.{whole_number}
use Rattle.tars_model.specs.Declarations.{Declared, members_at, items_at}
use Rattle.tars_model.specs.Types.{TyLayer}
use Rattle.tars_model.specs.Values.{Key, key_of, entry_key, is_byte, is_number_of, is_signed}
use Rattle.tars_model.specs.declared.member.Member.{Member}
use Rattle.tars_model.specs.declared.ty.Ty.{Ty, out-Ty}
use Rattle.tars_model.specs.declared.ty.Ty.TheOpen as ty
use Rattle.tars_model.specs.declared.value.Pair.{Pair}
use Rattle.tars_model.specs.declared.value.Value.{Value, out-Value}
use Rattle.tars_model.specs.declared.value.Value.TheVariants as values
use Rattle.value_text.specs.Faults.{AfterElements, AfterEntries, AfterMembers, OpensKey, Opens, BreaksRule}
use Rattle.value_text.specs.Faults as faults
use Rattle.value_text.specs.ReadSteps.{Read, Stop, out_of_range, sign_at, word_at, turn_at, number_word_at, integer_at, name_at, said_at, number_at, blob_at}
use Rattle.value_text.specs.ValueSteps.{place_at, as_entry, free_place, element_then, elements_at, list_inside, list_at, entry_at, entries_then, entries_at, map_inside, map_at, field_at, comma_at, fields_at, struct_at, vector_at, value_by, value_at}
use Rattle.value_text.specs.Spelling.{past_gap, has_numbers, NumberSpells, SaysNumber, Comma}
use Rattle.value_text.specs.Spelling as spelling
use Rattle.value_text.specs.declared.value_fault.ValueWhy.{ValueWhy}
use Rattle.value_text.specs.declared.value_fault.ValueWhy.TheVariants.{Unexpected, Range, TwiceKey}
use Rattle.value_text.proofs.Breaking.NoRules.{Plain, plain_stop, last_byte_plain, sign_plain, word_plain, comma_plain, turn_plain, truth_plain, number_word_plain, name_plain, text_plain, blob_plain}
use Rattle.value_text.proofs.Breaking.Reached.{entry_kind, some_member}
use Rattle.value_text.proofs.Keys.{place_fits, insert_is}
use Rattle.value_text.proofs.KeySets.{Kept, none_kept, kept_more, spelled_kind, is_among, is_none_of}
use Rattle.value_text.proofs.MapSound.{Entered, entry_sound, free_is, value_sound}
use Rattle.value_text.proofs.NumberLaws.{Says, word_says}
use Rattle.value_text.proofs.Signs.{read_ok, true_is_not_false, sign_stands, word_stands, turn_stands}
use Rattle.value_text.proofs.Sizes.{long_number}
use Rattle.value_text.proofs.Sound.{Sound, said_sound, comma_stands, field_sound}
use Rattle.value_text.proofs.Stopping.Signs.{stop, stops_so, step_stops, others_stop}
use Rattle.value_text.proofs.Stopping.Signs as stops

module _ (left : List ℕ) (why : ValueWhy) (rule : why ≡ Unexpected → ⊥) where
  not_plain : {A : Type 0} (read : Result A Stop) → Plain read → read ≡ Err (stop left why) → ⊥
  not_plain read plain e = rule (plain_stop read left why plain e)

  -- a step that keeps no rule is taken
  went : {A B : Type 0} (read : Result A Stop) (f : A → Result B Stop) → Plain read → (read >>= f) ≡ Err (stop left why) → (x : A) × (read ≡ Ok x) × (f x ≡ Err (stop left why))
  went read f plain e =
      elim (step_stops read f (stop left why) e) [
        | stops.before first ↦ absurd (not_plain read plain first)
        | stops.after x is later ↦ (x, is, later)
      ]

  -- ---- numbers

  record NumberOut (d : Declared) (l : TyLayer) (bytes : List ℕ) : Type 0 where
    n : ℤ
    rest : List ℕ
    range : why ≡ Range
    here : bytes ≡ left
    says : SaysNumber d l n bytes rest
    out : is_number_of l n ≡ false

  too_wide : (l : TyLayer) (n : ℤ) → is_signed 63 n ≡ false → is_number_of l n ≡ false
  too_wide l n wide = by_test (is_number_of l n) refl
    where
      by_test : (b : Bool) → is_number_of l n ≡ b → is_number_of l n ≡ false
      by_test true fits = absurd (true_is_not_false (sym (long_number l n fits) ∙ wide))
      by_test false out = out

  integer_out : (d : Declared) (l : TyLayer) (bytes : List ℕ) → integer_at bytes ≡ Err (stop left why) → NumberOut d l bytes
  unfolding integer_at
  integer_out d l bytes e =
      let word = went (number_word_at bytes) (λ w. cond (is_in_range w.0) (read_ok (whole_number w.0) w.1) (out_of_range bytes)) (number_word_plain bytes) e in
      by_range word.0.0 word.0.1 (word_says bytes word.0.0 word.0.1 word.1) (is_in_range word.0.0) refl word.2
    where
      by_range : (word after : List ℕ) → Says bytes word after → (b : Bool) → is_in_range word ≡ b → cond b (read_ok (whole_number word) after) (out_of_range bytes) ≡ Err (stop left why) → NumberOut d l bytes
      by_range word after s true is e = absurd cc
      by_range word after s false is e =
          let same = stops_so bytes left Range why e in
          record { n = whole_number word; rest = after; range = sym same.1; here = same.0; says = spelling.digits_of s.number; out = too_wide l (whole_number word) (sym s.range ∙ is) }

  said_out : (d : Declared) (l : TyLayer) (bytes : List ℕ) → said_at d l bytes ≡ Err (stop left why) → NumberOut d l bytes
  said_out d (ty.Enum k) bytes e = by_test (begins is_ascii_alphabetic bytes) e
    where
      by_test : (b : Bool) → cond b (name_at (items_at d k) bytes) (integer_at bytes) ≡ Err (stop left why) → NumberOut d (ty.Enum k) bytes
      by_test true e = absurd (not_plain (name_at (items_at d k) bytes) (name_plain (items_at d k) bytes) e)
      by_test false e = integer_out d (ty.Enum k) bytes e
  said_out d l bytes e = integer_out d l bytes e

  number_out : (d : Declared) (l : TyLayer) (bytes : List ℕ) → number_at d l bytes ≡ Err (stop left why) → NumberOut d l bytes
  unfolding number_at
  number_out d l bytes e =
      elim (step_stops (said_at d l bytes) (λ n. cond (is_number_of l n.0) (read_ok (values.Num n.0) n.1) (out_of_range bytes)) (stop left why) e) [
        | stops.before first ↦ said_out d l bytes first
        | stops.after n is later ↦ by_test n.0 n.1 (said_sound d l n.0 bytes n.1 is) (is_number_of l n.0) refl later
      ]
    where
      by_test : (n : ℤ) (after : List ℕ) → SaysNumber d l n bytes after → (b : Bool) → is_number_of l n ≡ b → cond b (read_ok (values.Num n) after) (out_of_range bytes) ≡ Err (stop left why) → NumberOut d l bytes
      by_test n after says true is e = absurd cc
      by_test n after says false out e = let same = stops_so bytes left Range why e in record { n = n; rest = after; range = sym same.1; here = same.0; says = says; out = out }

  number_breaks : (d : Declared) (t : Ty) (l : TyLayer) (bytes : List ℕ) → out-Ty t ≡ l → has_numbers l ≡ true → number_at d l bytes ≡ Err (stop left why) → BreaksRule d t bytes left why
  number_breaks d t l bytes is has e =
      let out = number_out d l bytes e in
      subst (λ (here : List ℕ). BreaksRule d t bytes here why) out.here
      (faults.out_of_range {u = t} {n = out.n} {rest = out.rest} out.range faults.itself (ap has_numbers is ∙ has) (subst (λ (l : TyLayer). SaysNumber d l out.n bytes out.rest) (sym is) out.says) (ap (λ (l : TyLayer). is_number_of l out.n) is ∙ out.out))

  deeper_breaks : {d : Declared} {t u : Ty} {bytes here : List ℕ} → Opens d t bytes u here → BreaksRule d u here left why → BreaksRule d t bytes left why
  deeper_breaks opens (faults.out_of_range is reaches has says out) = faults.out_of_range is (faults.deeper opens reaches) has says out
  deeper_breaks opens (faults.key_again is reaches o key_is again) = faults.key_again is (faults.deeper opens reaches) o key_is again

  -- what is read of a type's bytes, where it stops for a rule, breaks that rule
  abbrev Breaks : Declared → Ty → (List ℕ → Read Value) → Type 0
  Breaks d t f = (bytes : List ℕ) → f bytes ≡ Err (stop left why) → BreaksRule d t bytes left why

  -- ---- lists

  module _ (d : Declared) (of : Ty) (f : List ℕ → Read Value) (sound : Sound d of f) where
    record ElementStop (bytes : List ℕ) : Type 0 where
      here : List ℕ
      elements : AfterElements d of bytes here
      stops : f here ≡ Err (stop left why)

    elements_break : (count : ℕ) (bytes : List ℕ) → elements_at f count bytes ≡ Err (stop left why) → ElementStop bytes
    unfolding elements_at
    elements_break zero bytes e = absurd (not_plain (elements_at f zero bytes) refl e)
    elements_break (suc count) bytes e =
        elim (step_stops (f bytes) (λ v. turn_at 93 v.1 >>= λ turn. element_then v.0 turn.0 turn.1 (elements_at f count turn.1)) (stop left why) e) [
          | stops.before first ↦ record { here = bytes; elements = faults.no_element; stops = first }
          | stops.after v is later ↦
              let turn = went (turn_at 93 v.1) (λ turn. element_then v.0 turn.0 turn.1 (elements_at f count turn.1)) (turn_plain 93 v.1) later in
              by_turn v.0 v.1 (sound bytes v.0 v.1 is) turn.0.0 turn.0.1 turn.1 (λ b is. elements_break count b is) turn.2
        ]
      where
        by_turn : (v : Value) (next : List ℕ) → spelling.Spells d of v bytes next → (last : Bool) (after : List ℕ) → turn_at 93 next ≡ Ok (last, after) → ((b : List ℕ) → elements_at f count b ≡ Err (stop left why) → ElementStop b)
            → element_then v last after (elements_at f count after) ≡ Err (stop left why) → ElementStop bytes
        by_turn v next is true after turn deeper e = absurd cc
        by_turn v next is false after turn deeper e =
            let comma = turn_stands 93 next after false turn in
            let others = deeper after (others_stop (elements_at f count after) (λ (vs : List Value). v ∷ vs) left why e) in
            record { here = others.here; elements = faults.one_element next comma.0 is comma.1 (subst (λ (b : List ℕ). AfterElements d of b others.here) (sym comma.2) others.elements); stops = others.stops }

    list_breaks : (t : Ty) → out-Ty t ≡ ty.Vector of → is_byte (out-Ty of) ≡ false → Breaks d of f → Breaks d t (list_at f)
    unfolding list_at
    list_breaks t is other breaks bytes e =
        let open_sign = went (sign_at 91 bytes) (list_inside f) (sign_plain 91 bytes) e in
        let sign = sign_stands 91 bytes open_sign.0 open_sign.1 in
        by_test open_sign.0 sign.0 sign.1 sign.2 (begins (λ b. b == 93) open_sign.0) open_sign.2
      where
        by_test : (start inside : List ℕ) → bytes ≡ 91 ∷ inside → past_gap inside ≡ start → (closed : Bool)
            → cond closed (read_ok (values.List []) (drop 1 start)) (elements_at f (length start) start >>= λ vs. read_ok (values.List vs.0) vs.1) ≡ Err (stop left why) → BreaksRule d t bytes left why
        by_test start inside text gap true e = absurd cc
        by_test start inside text gap false e =
            let found = elements_break (length start) start (others_stop (elements_at f (length start) start) (λ (vs : List Value). values.List vs) left why e) in
            deeper_breaks (faults.element inside is other text (subst (λ (b : List ℕ). AfterElements d of b found.here) (sym gap) found.elements)) (breaks found.here found.stops)

  -- ---- maps

  module _ (d : Declared) (key to : Ty) (f g : List ℕ → Read Value) (sound_key : Sound d key f) (sound_value : Sound d to g) where
    record EntryStop (before : List Key) (bytes : List ℕ) : Type 0 where
      keys : List Key
      pairs : List Pair
      here : List ℕ
      entries : AfterEntries d key to before bytes keys here
      kept : Kept key keys pairs
      stops : entry_at f g (map entry_key pairs) here ≡ Err (stop left why)

    entries_break : (count : ℕ) (pairs : List Pair) (before : List Key) (bytes : List ℕ) → Kept key before pairs → entries_at f g count pairs bytes ≡ Err (stop left why) → EntryStop before bytes
    unfolding entries_at
    entries_break zero pairs before bytes kept e = absurd (not_plain (entries_at f g zero pairs bytes) refl e)
    entries_break (suc count) pairs before bytes kept e =
        elim (step_stops (entry_at f g (map entry_key pairs) bytes) (λ x. turn_at 125 x.1 >>= λ turn. entries_then turn.0 turn.1 (insert pairs x.0.0 x.0.1) (entries_at f g count (insert pairs x.0.0 x.0.1) turn.1)) (stop left why) e) [
          | stops.before first ↦ record { keys = before; pairs = pairs; here = bytes; entries = faults.no_entry; kept = kept; stops = first }
          | stops.after x is later ↦
              let at = x.0.0 in
              let p = x.0.1 in
              let turn = went (turn_at 125 x.1) (λ turn. entries_then turn.0 turn.1 (insert pairs at p) (entries_at f g count (insert pairs at p) turn.1)) (turn_plain 125 x.1) later in
              by_turn at p x.1 (entry_sound d key to f g sound_key sound_value pairs at p bytes x.1 is) turn.0.0 turn.0.1 turn.1 (λ all keys b kept is. entries_break count all keys b kept is) turn.2
        ]
      where
        by_turn : (at : ℕ) (p : Pair) (next : List ℕ) → Entered d key to pairs at p bytes next → (last : Bool) (after : List ℕ) → turn_at 125 next ≡ Ok (last, after)
            → ((all : List Pair) (keys : List Key) (b : List ℕ) → Kept key keys all → entries_at f g count all b ≡ Err (stop left why) → EntryStop keys b)
            → entries_then last after (insert pairs at p) (entries_at f g count (insert pairs at p) after) ≡ Err (stop left why) → EntryStop before bytes
        by_turn at p next entered true after turn deeper e = absurd cc
        by_turn at p next entered false after turn deeper e =
            let comma = turn_stands 125 next after false turn in
            let fits = place_fits p pairs at kept.rise entered.place in
            let more = kept_more key before (take at pairs) (drop at pairs) p (subst (Kept key before) (sym (take-append-drop at pairs)) kept) (entry_kind entered.entry) fits.rise in
            let others = deeper (take at pairs ++ p ∷ drop at pairs) (entry_key p ∷ before) after more (ap (λ (l : List Pair). entries_at f g count l after) (sym (insert_is pairs at p fits.within)) ∙ e) in
            record {
              keys = others.keys;
              pairs = others.pairs;
              here = others.here;
              entries = faults.one_entry next comma.0 entered.entry (is_none_of key before pairs kept (entry_key p) at entered.place) comma.1 (subst (λ (b : List ℕ). AfterEntries d key to (entry_key p ∷ before) b others.keys others.here) (sym comma.2) others.entries);
              kept = others.kept;
              stops = others.stops;
            }

    taken_is : (o : Option ℕ) (bytes : List ℕ) → free_place o bytes ≡ Err (stop left why) → (o ≡ None) × (bytes ≡ left) × (why ≡ TwiceKey)
    taken_is (Some at) bytes e = absurd cc
    taken_is None bytes e = let same = stops_so bytes left TwiceKey why e in (refl, same.0, sym same.1)

    entry_breaks : {t : Ty} {bytes here : List ℕ} {keys : List Key} → OpensKey d t key to bytes keys here → (pairs : List Pair) → Kept key keys pairs → Breaks d key f → Breaks d to g
        → entry_at f g (map entry_key pairs) here ≡ Err (stop left why) → BreaksRule d t bytes left why
    unfolding entry_at
    entry_breaks {t = t} {bytes = bytes} {here = here} {keys = keys} o pairs kept key_breaks value_breaks e =
        elim (step_stops (f here) (λ k. free_place (place_at (key_of (out-Value k.0)) (map entry_key pairs)) here >>= λ i. sign_at 58 (past_gap k.1) >>= λ start. g start >>= λ v. read_ok {A = ℕ × Pair} (i, as_entry k.0 v.0) v.1) (stop left why) e) [
          | stops.before first ↦ deeper_breaks (faults.key o) (key_breaks here first)
          | stops.after k is later ↦ by_place k.0 k.1 (sound_key here k.0 k.1 is) later
        ]
      where
        placed : ℕ → Value → Value → ℕ × Pair
        placed at k v = (at, as_entry k v)

        by_place : (k : Value) (colon : List ℕ) → spelling.Spells d key k here colon → (free_place (place_at (key_of (out-Value k)) (map entry_key pairs)) here >>= λ i. sign_at 58 (past_gap colon) >>= λ start. g start >>= λ v. read_ok {A = ℕ × Pair} (i, as_entry k v.0) v.1) ≡ Err (stop left why) → BreaksRule d t bytes left why
        by_place k colon key_is e =
            elim (step_stops (free_place (place_at (key_of (out-Value k)) (map entry_key pairs)) here) (λ i. sign_at 58 (past_gap colon) >>= λ start. g start >>= λ v. read_ok {A = ℕ × Pair} (i, as_entry k v.0) v.1) (stop left why) e) [
              | stops.before taken ↦
                  let is = taken_is (place_at (key_of (out-Value k)) (map entry_key pairs)) here taken in
                  subst (λ (h : List ℕ). BreaksRule d t bytes h why) is.1 (faults.key_again is.2 faults.itself o key_is (is_among key keys pairs kept (key_of (out-Value k)) (spelled_kind key_is) is.0))
              | stops.after at free later ↦
                  let start = went (sign_at 58 (past_gap colon)) (λ start. g start >>= λ v. read_ok {A = ℕ × Pair} (at, as_entry k v.0) v.1) (sign_plain 58 (past_gap colon)) later in
                  let sign = sign_stands 58 (past_gap colon) start.0 start.1 in
                  let fresh = is_none_of key keys pairs kept (key_of (out-Value k)) at (free_is (place_at (key_of (out-Value k)) (map entry_key pairs)) here at free) in
                  deeper_breaks (faults.value here colon sign.0 o key_is fresh sign.1 (sym sign.2)) (value_breaks start.0 (others_stop (g start.0) (λ (v : Value). placed at k v) left why start.2))
            ]

    map_breaks : (t : Ty) → out-Ty t ≡ ty.Map key to → Breaks d key f → Breaks d to g → Breaks d t (map_at f g)
    unfolding map_at
    map_breaks t is key_breaks value_breaks bytes e =
        let open_sign = went (sign_at 123 bytes) (map_inside f g) (sign_plain 123 bytes) e in
        let sign = sign_stands 123 bytes open_sign.0 open_sign.1 in
        by_test open_sign.0 sign.0 sign.1 sign.2 (begins (λ b. b == 125) open_sign.0) open_sign.2
      where
        by_test : (start inside : List ℕ) → bytes ≡ 123 ∷ inside → past_gap inside ≡ start → (closed : Bool)
            → cond closed (read_ok (values.Map []) (drop 1 start)) (entries_at f g (length start) [] start >>= λ ps. read_ok (values.Map ps.0) ps.1) ≡ Err (stop left why) → BreaksRule d t bytes left why
        by_test start inside text gap true e = absurd cc
        by_test start inside text gap false e =
            let found = entries_break (length start) [] [] start (none_kept key) (others_stop (entries_at f g (length start) [] start) (λ (ps : List Pair). values.Map ps) left why e) in
            let o : OpensKey d t key to bytes found.keys found.here = record { inside = inside; is_map = is; text = text; entries = subst (λ (b : List ℕ). AfterEntries d key to [] b found.keys found.here) (sym gap) found.entries } in
            entry_breaks o found.pairs found.kept key_breaks value_breaks found.stops

  -- ---- structs

  module _ (d : Declared) (f : Ty → List ℕ → Read Value) (sound : (t : Ty) → Sound d t (f t)) where
    record FieldStop (ms : List Member) (bytes : List ℕ) : Type 0 where
      m : Member
      others : List Member
      here : List ℕ
      members : AfterMembers d ms bytes (m ∷ others) here
      stops : field_at f m here ≡ Err (stop left why)

    -- a member that is read, and the comma after it
    later_member : (m : Member) (ms : List Member) (v : Value) (bytes next start : List ℕ) → field_at f m bytes ≡ Ok (v, next) → comma_at ms (past_gap next) ≡ Ok start → FieldStop ms start → FieldStop (m ∷ ms) bytes
    later_member m ms v bytes next start e comma_e found =
        let field = field_sound d f sound m bytes v next e in
        let some = some_member found.members found.m found.others refl in
        let comma : Comma (some.0 ∷ some.1) (past_gap next) start = subst (λ (ms : List Member). Comma ms (past_gap next) start) some.2 (comma_stands ms (past_gap next) start comma_e) in
        record {
          m = found.m;
          others = found.others;
          here = found.here;
          members = faults.one_member field.equals field.start next comma.0 field.name field.sign field.value comma.1
              (subst (λ (b : List ℕ). AfterMembers d ms b (found.m ∷ found.others) found.here) comma.2 found.members);
          stops = found.stops;
        }

    fields_break : (ms : List Member) (bytes : List ℕ) → fields_at f ms bytes ≡ Err (stop left why) → FieldStop ms bytes
    unfolding fields_at
    fields_break [] bytes e = absurd (not_plain (fields_at f [] bytes) (last_byte_plain 41 bytes _) e)
    fields_break (m ∷ ms) bytes e =
        elim (step_stops (field_at f m bytes) (λ v. comma_at ms (past_gap v.1) >>= λ next. fields_at f ms next >>= λ o. read_ok (v.0 ∷ o.0) o.1) (stop left why) e) [
          | stops.before first ↦ record { m = m; others = ms; here = bytes; members = faults.no_member; stops = first }
          | stops.after v is later ↦
              let comma = went (comma_at ms (past_gap v.1)) (λ next. fields_at f ms next >>= λ o. read_ok (v.0 ∷ o.0) o.1) (comma_plain ms (past_gap v.1)) later in
              later_member m ms v.0 bytes v.1 comma.0 is comma.1 (fields_break ms comma.0 (others_stop (fields_at f ms comma.0) (λ (vs : List Value). v.0 ∷ vs) left why comma.2))
        ]

    struct_breaks : (t : Ty) (k : ℕ) → out-Ty t ≡ ty.Struct k → ((t : Ty) → Breaks d t (f t)) → Breaks d t (struct_at f (members_at d k))
    unfolding struct_at field_at
    struct_breaks t k is breaks bytes e =
        let start = went (sign_at 40 bytes) (λ inside. fields_at f (members_at d k) inside >>= λ vs. read_ok (values.Struct vs.0) vs.1) (sign_plain 40 bytes) e in
        let sign = sign_stands 40 bytes start.0 start.1 in
        let found = fields_break (members_at d k) start.0 (others_stop (fields_at f (members_at d k) start.0) (λ (vs : List Value). values.Struct vs) left why start.2) in
        let name = went (word_at found.m.name found.here) (λ equals. sign_at 61 (past_gap equals) >>= f found.m.ty) (word_plain found.m.name found.here) found.stops in
        let begun = went (sign_at 61 (past_gap name.0)) (f found.m.ty) (sign_plain 61 (past_gap name.0)) name.2 in
        let equals = sign_stands 61 (past_gap name.0) begun.0 begun.1 in
        deeper_breaks
        (faults.member k sign.0 found.here name.0 equals.0 is sign.1 (subst (λ (b : List ℕ). AfterMembers d (members_at d k) b (found.m ∷ found.others) found.here) (sym sign.2) found.members) (word_stands found.m.name found.here name.0 name.1) equals.1 (sym equals.2))
        (breaks found.m.ty begun.0 begun.2)

  -- ---- values

  module _ (d : Declared) (f : Ty → List ℕ → Read Value) (sound : (t : Ty) → Sound d t (f t)) (breaks : (t : Ty) → Breaks d t (f t)) (t : Ty) where
    vector_breaks : (of : Ty) → out-Ty t ≡ ty.Vector of → Breaks d t (vector_at f of)
    vector_breaks of is bytes e = by_test (is_byte (out-Ty of)) refl e
      where
        by_test : (b : Bool) → is_byte (out-Ty of) ≡ b → cond b (blob_at bytes) (list_at (f of) bytes) ≡ Err (stop left why) → BreaksRule d t bytes left why
        by_test true byte e = absurd (not_plain (blob_at bytes) (blob_plain bytes) e)
        by_test false other e = list_breaks d of (f of) (sound of) t is other (breaks of) bytes e

    by_breaks : (l : TyLayer) → out-Ty t ≡ l → Breaks d t (value_by d f l)
    by_breaks ty.Bool is bytes e = absurd (not_plain (value_by d f ty.Bool bytes) (truth_plain bytes) e)
    by_breaks ty.Text is bytes e = absurd (not_plain (value_by d f ty.Text bytes) (text_plain bytes) e)
    by_breaks (ty.Vector of) is bytes e = vector_breaks of is bytes e
    by_breaks (ty.Map key to) is bytes e = map_breaks d key to (f key) (f to) (sound key) (sound to) t is (breaks key) (breaks to) bytes e
    by_breaks (ty.Struct k) is bytes e = struct_breaks d f sound t k is breaks bytes e
    by_breaks ty.Byte is bytes e = number_breaks d t ty.Byte bytes is refl e
    by_breaks ty.Short is bytes e = number_breaks d t ty.Short bytes is refl e
    by_breaks ty.Int is bytes e = number_breaks d t ty.Int bytes is refl e
    by_breaks ty.Long is bytes e = number_breaks d t ty.Long bytes is refl e
    by_breaks ty.UByte is bytes e = number_breaks d t ty.UByte bytes is refl e
    by_breaks ty.UShort is bytes e = number_breaks d t ty.UShort bytes is refl e
    by_breaks ty.UInt is bytes e = number_breaks d t ty.UInt bytes is refl e
    by_breaks (ty.Enum k) is bytes e = number_breaks d t (ty.Enum k) bytes is refl e

  pub stop_breaks : (room : ℕ) (d : Declared) (t : Ty) → Breaks d t (value_at room d t)
  unfolding value_at
  stop_breaks zero d t bytes e = absurd (not_plain (value_at zero d t bytes) refl e)
  stop_breaks (suc room) d t bytes e = by_breaks d (value_at room d) (value_sound room d) (λ t. stop_breaks room d t) t (out-Ty t) refl bytes e
