-- Maps in which reading gets stuck.
use Rattle.std.proofs.Common.{◌≡◌, ◌≤◌, inl, inr, ℕ, zero, suc, Bool, true, false, ◌==◌, cond, Option, Some, None, List, [], ◌∷◌, length, map, drop, Ok, Err, refl, sym, ap, ◌∙◌, subst, arith}
use Rattle.std.proofs.lemmas.List.{nil_from_length}
use Rattle.facts.specs.ResultSteps.{◌>>=◌}
use Rattle.idl_lex.specs.Bytes.{begins}
use Rattle.tars_model.specs.Declarations.{Declared}
use Rattle.tars_model.specs.Schemas.{IsSchema}
use Rattle.std.specs.List.{insert}
use Rattle.tars_model.specs.Values.{Key, key_of, entry_key}
use Rattle.tars_model.specs.declared.value.Pair.{Pair}
use Rattle.tars_model.specs.declared.ty.Ty.{Ty, out-Ty}
use Rattle.tars_model.specs.declared.ty.Ty.TheOpen as ty
use Rattle.tars_model.specs.declared.value.Value.{Value, out-Value}
use Rattle.tars_model.specs.declared.value.Value.TheVariants as values
use Rattle.value_text.specs.Answers.{IsEnd}
use Rattle.value_text.specs.ReadSteps.{Read, sign_at, turn_at}
use Rattle.value_text.specs.ValueSteps.{place_at, as_entry, free_place, entry_at, entries_then, entries_at, map_inside, map_at}
use Rattle.value_text.specs.Spelling.{past_gap, FORM, ALL, EntriesBy, EntryBy, SpellsBy}
use Rattle.value_text.specs.Spelling as spelling
use Rattle.value_text.specs.declared.value_fault.ValueWhy.TheVariants.{Unexpected, TwiceKey}
use Rattle.value_text.proofs.Signs.{read_ok, turn_stands, sign_stands, true_is_not_false, past_gap_shorter}
use Rattle.value_text.proofs.Sizes.{value_shorter, entry_shorter}
use Rattle.value_text.proofs.Sound.{Sound}
use Rattle.value_text.proofs.MapSound.{entry_sound}
use Rattle.value_text.proofs.Opening.{entries_open}
use Rattle.value_text.proofs.Moving.Shapes.{shape_at, MapInside}
use Rattle.value_text.proofs.Stopping.Languages.{Language, Stuck, Filled, Then, Word, Either, this, that, stuck_in_other, stuck_at_end, stuck_as, filled_as}
use Rattle.value_text.proofs.Stopping.Lists.{Sticks}
use Rattle.value_text.proofs.Stopping.Passing.{Opens, Ends, sign_opens, sign_ends, formed_opens, Formed, filled_after_value, formed_some, no_closing_no_gap, stuck_after_value, stuck_in_value, Turn, turn_filled, turn_ends, stuck_before_turn, stuck_after_comma}
use Rattle.value_text.proofs.Stopping.Signs.{Past, filled_sign, filled_past_gap, stuck_past_gap, stop, stops_so, Stops, before, after, step_stops, others_stop, Sign, sign_refused, stuck_before_sign, stuck_after_sign, is_gap}

abbrev placed : ℕ → Value → Value → ℕ × Pair
placed at k v = (at, as_entry k v)

module _ (d : Declared) (key to : Ty) where
  abbrev Entries : Language
  Entries bytes rest = (ps : List Pair) × EntriesBy FORM d key to ps bytes rest

  -- an entry's value, and what comes after it
  abbrev ValueOn : Language
  ValueOn = Then (Formed d to) (Turn 125 Entries)

  -- what comes after its key
  abbrev Colon : Language
  Colon = Past (Sign 58 ValueOn)

  abbrev EntriesParts : Language
  EntriesParts = Then (Formed d key) Colon

  entries_whole : (bytes rest : List ℕ) → EntriesParts bytes rest → Entries bytes rest
  entries_whole bytes rest t = by_turn t.second.second.second
    where
      by_turn : Turn 125 Entries t.second.second.between rest → Entries bytes rest
      by_turn (this closes) = (
        as_entry t.first.0 t.second.second.first.0 ∷ [],
        spelling.last_entry t.second.second.between (spelling.entry t.first.0 t.second.second.first.0 t.between t.second.between refl t.first.1 t.second.first t.second.second.first.1) closes,
      )
      by_turn (that s) = (
        as_entry t.first.0 t.second.second.first.0 ∷ s.second.0,
        spelling.more_entries t.second.second.between s.between (spelling.entry t.first.0 t.second.second.first.0 t.between t.second.between refl t.first.1 t.second.first t.second.second.first.1) s.first s.second.1,
      )

  entry_parts : {p : Pair} {bytes next rest : List ℕ} → EntryBy FORM d key to p bytes next → Turn 125 Entries next rest → EntriesParts bytes rest
  entry_parts {next = next} (spelling.entry k v colon start p_is key_is sign value_is) turn =
      record { between = colon; first = (k, key_is); second = record { between = start; first = sign; second = record { between = next; first = (v, value_is); second = turn } } }

  entries_parts : {ps : List Pair} {bytes rest : List ℕ} → EntriesBy FORM d key to ps bytes rest → EntriesParts bytes rest
  entries_parts (spelling.last_entry next is closes) = entry_parts is (this closes)
  entries_parts (spelling.more_entries {ps = ps} next inside is comma others) = entry_parts is (that (record { between = inside; first = comma; second = (ps, others) }))

  entries_opens : Opens Entries
  entries_opens bytes rest es = no_closing_no_gap bytes (entries_open es.1)

  entries_some : (rest : List ℕ) → Entries [] rest → ⊥
  entries_some rest es = let p = entries_parts es.1 in formed_some d key p.between p.first

  as_entries : {bytes left : List ℕ} → Stuck IsEnd EntriesParts bytes left → Stuck IsEnd Entries bytes left
  as_entries s = stuck_as EntriesParts Entries (λ tail ends. ends) entries_whole (λ b r es. entries_parts es.1) s

  value_opens : Opens ValueOn
  value_opens bytes rest t = formed_opens d to bytes t.between t.first

  colon_ends : Ends Colon
  colon_ends = sign_ends 58 ValueOn refl

  turn_here : Filled IsEnd (Turn 125 Entries)
  turn_here = turn_filled 125 Entries refl

  value_filled : IsSchema d → Filled IsEnd ValueOn
  value_filled schema = filled_after_value (Turn 125 Entries) (turn_ends 125 Entries refl) d schema to turn_here

  colon_filled : IsSchema d → Filled IsEnd Colon
  colon_filled schema = filled_past_gap (Sign 58 ValueOn) (sign_opens 58 ValueOn refl) (filled_sign 58 ValueOn value_opens (value_filled schema))

  entries_filled : IsSchema d → Filled IsEnd Entries
  entries_filled schema = filled_as EntriesParts Entries entries_whole (filled_after_value Colon colon_ends d schema key (colon_filled schema))

  -- after a colon the value gets stuck, or what comes after it
  after_colon : {bytes left : List ℕ} (start : List ℕ) → past_gap bytes ≡ 58 ∷ start → Stuck IsEnd ValueOn (past_gap start) left → Stuck IsEnd Colon bytes left
  after_colon start sign s = stuck_past_gap (Sign 58 ValueOn) (sign_opens 58 ValueOn refl) (stuck_after_sign 58 ValueOn value_opens start sign s)

  after_entry : {p : Pair} {bytes next left : List ℕ} → EntryBy ALL d key to p bytes next → Stuck IsEnd (Turn 125 Entries) next left → Stuck IsEnd EntriesParts bytes left
  after_entry (spelling.entry k v colon start p_is key_is sign value_is) s =
      stuck_after_value Colon colon_ends key_is (after_colon start sign (stuck_after_value (Turn 125 Entries) (turn_ends 125 Entries refl) value_is s))

  key_is_free : (o : Option ℕ) (bytes left : List ℕ) → free_place o bytes ≡ Err (stop left Unexpected) → ⊥
  key_is_free (Some at) bytes left e = cc
  key_is_free None bytes left e = differ (stops_so {A = ℕ} bytes left TwiceKey Unexpected e).1
    where
      differ : TwiceKey ≡ Unexpected → ⊥
      differ e = cc

  module _ (schema : IsSchema d) (room : ℕ) (f g : List ℕ → Read Value) (sound_key : Sound d key f) (sound_value : Sound d to g) (key_sticks : Sticks d key room f) (value_sticks : Sticks d to room g) where
    stuck_in_entry : (keys : List Key) (bytes left : List ℕ) → length bytes ≤ room → entry_at f g keys bytes ≡ Err (stop left Unexpected) → Stuck IsEnd EntriesParts bytes left
    unfolding entry_at
    stuck_in_entry keys bytes left within e = by_key (step_stops (f bytes) (λ k. free_place (place_at (key_of (out-Value k.0)) keys) bytes >>= λ i. sign_at 58 (past_gap k.1) >>= λ start. g start >>= λ v. read_ok (placed i k.0 v.0) v.1) (stop left Unexpected) e)
      where
        by_value : (k : Value) (colon : List ℕ) → SpellsBy ALL d key k bytes colon → (start inside : List ℕ) → past_gap colon ≡ 58 ∷ inside → past_gap inside ≡ start → g start ≡ Err (stop left Unexpected) → Stuck IsEnd EntriesParts bytes left
        by_value k colon is start inside sign gap e =
            let less = value_shorter is in
            let gap_out = past_gap_shorter colon in
            let sign_len = ap length sign in
            let gap_in = past_gap_shorter inside in
            let start_len = ap length gap in
            stuck_after_value Colon colon_ends is
            (after_colon inside sign
            (stuck_in_value (Turn 125 Entries) (turn_ends 125 Entries refl) turn_here (subst (λ (b : List ℕ). Stuck IsEnd (Formed d to) b left) (sym gap) (value_sticks start left (omega arith) e))))

        by_colon : (k : Value) (colon : List ℕ) → SpellsBy ALL d key k bytes colon → (at : ℕ) → Stops (sign_at 58 (past_gap colon)) (λ start. g start >>= λ v. read_ok (placed at k v.0) v.1) (stop left Unexpected) → Stuck IsEnd EntriesParts bytes left
        by_colon k colon is at (before e) =
            stuck_after_value Colon colon_ends is
            (stuck_past_gap (Sign 58 ValueOn) (sign_opens 58 ValueOn refl) (stuck_before_sign 58 ValueOn value_opens (value_filled schema) (sign_refused 58 (past_gap colon) left Unexpected e)))
        by_colon k colon is at (after start read e) =
            let sign = sign_stands 58 (past_gap colon) start read in
            by_value k colon is start sign.0 sign.1 sign.2 (others_stop (g start) (placed at k) left Unexpected e)

        by_place : (k : Value) (colon : List ℕ) → SpellsBy ALL d key k bytes colon → Stops (free_place (place_at (key_of (out-Value k)) keys) bytes) (λ i. sign_at 58 (past_gap colon) >>= λ start. g start >>= λ v. read_ok (placed i k v.0) v.1) (stop left Unexpected) → Stuck IsEnd EntriesParts bytes left
        by_place k colon is (before e) = absurd (key_is_free (place_at (key_of (out-Value k)) keys) bytes left e)
        by_place k colon is (after at free e) = by_colon k colon is at (step_stops (sign_at 58 (past_gap colon)) (λ start. g start >>= λ v. read_ok (placed at k v.0) v.1) (stop left Unexpected) e)

        by_key : Stops (f bytes) (λ k. free_place (place_at (key_of (out-Value k.0)) keys) bytes >>= λ i. sign_at 58 (past_gap k.1) >>= λ start. g start >>= λ v. read_ok (placed i k.0 v.0) v.1) (stop left Unexpected) → Stuck IsEnd EntriesParts bytes left
        by_key (before e) = stuck_in_value Colon colon_ends (colon_filled schema) (key_sticks bytes left within e)
        by_key (after k read e) =
            by_place k.0 k.1 (sound_key bytes k.0 k.1 read) (step_stops (free_place (place_at (key_of (out-Value k.0)) keys) bytes) (λ i. sign_at 58 (past_gap k.1) >>= λ start. g start >>= λ v. read_ok (placed i k.0 v.0) v.1) (stop left Unexpected) e)

    stuck_in_entries : (count : ℕ) (pairs : List Pair) (bytes left : List ℕ) → length bytes ≤ count → length bytes ≤ room → entries_at f g count pairs bytes ≡ Err (stop left Unexpected) → Stuck IsEnd Entries bytes left
    unfolding entries_at
    stuck_in_entries zero pairs bytes left few within e =
        let none = nil_from_length bytes (omega arith) in
        subst (Stuck IsEnd Entries bytes) (stops_so {A = List Pair × List ℕ} bytes left Unexpected Unexpected e).0
        (subst (λ (b : List ℕ). Stuck IsEnd Entries b b) (sym none) (stuck_at_end Entries entries_some (entries_filled schema)))
    stuck_in_entries (suc count) pairs bytes left few within e =
        as_entries (by_entry (step_stops (entry_at f g (map entry_key pairs) bytes) (λ x. turn_at 125 x.1 >>= λ turn. entries_then turn.0 turn.1 (insert pairs x.0.0 x.0.1) (entries_at f g count (insert pairs x.0.0 x.0.1) turn.1)) (stop left Unexpected) e)
        (λ more next fewer inner. stuck_in_entries count more next left fewer inner))
      where
        Deeper : Type 0
        Deeper = (more : List Pair) (next : List ℕ) → length next ≤ count → length next ≤ room → entries_at f g count more next ≡ Err (stop left Unexpected) → Stuck IsEnd Entries next left

        by_comma : (at : ℕ) (p : Pair) (next : List ℕ) → EntryBy ALL d key to p bytes next → (last : Bool) (start : List ℕ) → turn_at 125 next ≡ Ok (last, start) → Deeper
            → entries_then last start (insert pairs at p) (entries_at f g count (insert pairs at p) start) ≡ Err (stop left Unexpected) → Stuck IsEnd EntriesParts bytes left
        by_comma at p next is true start turn deeper e = absurd cc
        by_comma at p next is false start turn deeper e =
            let comma = turn_stands 125 next start false turn in
            let less = entry_shorter is in
            let gap = past_gap_shorter next in
            let comma_len = ap length comma.1 in
            let gap_in = past_gap_shorter comma.0 in
            let start_len = ap length comma.2 in
            after_entry is
            (stuck_after_comma 125 Entries refl entries_opens refl next comma.0 left comma.1
            (subst (λ (b : List ℕ). Stuck IsEnd Entries b left) (sym comma.2) (deeper (insert pairs at p) start (omega arith) (omega arith) e)))

        by_turn : (at : ℕ) (p : Pair) (next : List ℕ) → EntryBy ALL d key to p bytes next → Deeper
            → Stops (turn_at 125 next) (λ turn. entries_then turn.0 turn.1 (insert pairs at p) (entries_at f g count (insert pairs at p) turn.1)) (stop left Unexpected) → Stuck IsEnd EntriesParts bytes left
        by_turn at p next is deeper (before e) = after_entry is (stuck_before_turn 125 Entries refl next left Unexpected e)
        by_turn at p next is deeper (after turn turns e) = by_comma at p next is turn.0 turn.1 turns deeper e

        by_entry : Stops (entry_at f g (map entry_key pairs) bytes) (λ x. turn_at 125 x.1 >>= λ turn. entries_then turn.0 turn.1 (insert pairs x.0.0 x.0.1) (entries_at f g count (insert pairs x.0.0 x.0.1) turn.1)) (stop left Unexpected) → Deeper → Stuck IsEnd EntriesParts bytes left
        by_entry (before e) deeper = stuck_in_entry (map entry_key pairs) bytes left within e
        by_entry (after x read e) deeper =
            by_turn x.0.0 x.0.1 x.1 (entry_sound d key to f g sound_key sound_value pairs x.0.0 x.0.1 bytes x.1 read).entry deeper
            (step_stops (turn_at 125 x.1) (λ turn. entries_then turn.0 turn.1 (insert pairs x.0.0 x.0.1) (entries_at f g count (insert pairs x.0.0 x.0.1) turn.1)) (stop left Unexpected) e)

  -- ---- whole maps

  -- after the brace: no entry, or some
  abbrev Inside : Language
  Inside = Either (Word (125 ∷ [])) Entries

  inside_opens : Opens Inside
  inside_opens bytes rest (this is) = ap (begins is_gap) is
  inside_opens bytes rest (that es) = entries_opens bytes rest es

  inside_filled : Filled IsEnd Inside
  inside_filled = record { filling = 125 ∷ []; fills = λ tail ends. this refl }

  module _ (t : Ty) (is : out-Ty t ≡ ty.Map key to) where
    map_whole : (bytes rest : List ℕ) → Sign 123 Inside bytes rest → Formed d t bytes rest
    map_whole bytes rest s = by_inside s.second
      where
        by_inside : Inside (past_gap s.between) rest → Formed d t bytes rest
        by_inside (this closes) = (values.Map [], spelling.no_entries key to s.between is refl s.first closes)
        by_inside (that es) = (values.Map es.0, spelling.entries key to es.0 es.0 s.between is refl s.first es.1 refl)

    map_parts : (bytes rest : List ℕ) → Formed d t bytes rest → Sign 123 Inside bytes rest
    map_parts bytes rest v = let m = shape_at (ty.Map key to) is v.1 in record { between = m.0; first = m.1; second = by_inside (past_gap m.0) m.2 }
      where
        by_inside : (here : List ℕ) → MapInside d key to here rest → Inside here rest
        by_inside here (inl closes) = this closes
        by_inside here (inr es) = that es

    module _ (schema : IsSchema d) (room : ℕ) (f g : List ℕ → Read Value) (sound_key : Sound d key f) (sound_value : Sound d to g) (key_sticks : Sticks d key room f) (value_sticks : Sticks d to room g) where
      pub stuck_in_map : Sticks d t (suc room) (map_at f g)
      unfolding map_at
      stuck_in_map bytes left within e = stuck_as (Sign 123 Inside) (Formed d t) (λ tail ends. ends) map_whole map_parts (by_sign (step_stops (sign_at 123 bytes) (map_inside f g) (stop left Unexpected) e))
        where
          by_first : (start inside : List ℕ) → bytes ≡ 123 ∷ inside → past_gap inside ≡ start → (closed : Bool) → begins (λ b. b == 125) start ≡ closed
              → cond closed (read_ok (values.Map []) (drop 1 start)) (entries_at f g (length start) [] start >>= λ ps. read_ok (values.Map ps.0) ps.1) ≡ Err (stop left Unexpected) → Stuck IsEnd (Sign 123 Inside) bytes left
          by_first start inside text gap true closes e = absurd cc
          by_first start inside text gap false opens e =
              let gap_in = past_gap_shorter inside in
              let start_len = ap length gap in
              let len = ap length text in
              let entries = stuck_in_entries schema room f g sound_key sound_value key_sticks value_sticks (length start) [] start left (omega arith) (omega arith) (others_stop (entries_at f g (length start) [] start) (λ ps. values.Map ps) left Unexpected e) in
              stuck_after_sign 123 Inside inside_opens inside text
              (subst (λ (b : List ℕ). Stuck IsEnd Inside b left) (sym gap)
              (stuck_in_other (Word (125 ∷ [])) Entries (λ b. b == 125) (λ b r is same. true_is_not_false (sym (ap (begins (λ b. b == 125)) is) ∙ same ∙ opens)) entries))

          by_sign : Stops (sign_at 123 bytes) (map_inside f g) (stop left Unexpected) → Stuck IsEnd (Sign 123 Inside) bytes left
          by_sign (before e) = stuck_before_sign 123 Inside inside_opens inside_filled (sign_refused 123 bytes left Unexpected e)
          by_sign (after start read e) = let sign = sign_stands 123 bytes start read in by_first start sign.0 sign.1 sign.2 (begins (λ b. b == 125) start) refl e
