-- What is read of a map's bytes, and of a value of any type, is spelled by them.
use Rattle.std.proofs.Common.{◌≡◌, ℕ, zero, suc, Bool, true, false, ◌==◌, cond, Option, Some, None, List, [], ◌∷◌, ◌++◌, length, take, drop, map, Ok, refl, sym, ap, ◌∙◌, subst}
use Rattle.std.proofs.lemmas.List.{take-append-drop}
use Rattle.std.specs.List.{insert}
use Rattle.facts.specs.ResultSteps.{◌>>=◌}
use Rattle.facts.proofs.ResultLaws.{bind_gave}
use Rattle.idl_lex.specs.Bytes.{begins}
use Rattle.tars_model.specs.Declarations.{Declared}
use Rattle.tars_model.specs.Types.{TyLayer}
use Rattle.tars_model.specs.Values.{Key, key_of, keys_rise, entry_key, is_byte}
use Rattle.tars_model.specs.declared.ty.Ty.{Ty, out-Ty}
use Rattle.tars_model.specs.declared.ty.Ty.TheOpen as ty
use Rattle.tars_model.specs.declared.value.Pair.{Pair}
use Rattle.tars_model.specs.declared.value.Value.{Value, out-Value}
use Rattle.tars_model.specs.declared.value.Value.TheVariants as values
use Rattle.tars_model.proofs.ToldLaws.{entry_key_is}
use Rattle.value_text.specs.ReadSteps.{Read, sign_at, turn_at, blob_at, number_at}
use Rattle.value_text.specs.ValueSteps.{place_at, as_entry, free_place, entry_at, entries_then, entries_at, map_inside, map_at, list_at, vector_at, value_by, value_at}
use Rattle.value_text.specs.Spelling.{past_gap, Placed, SpellsBy, EntriesBy, EntryBy, ALL}
use Rattle.value_text.specs.Spelling as spelling
use Rattle.value_text.proofs.Signs.{okay_is, read_ok, gives, sign_stands, begins_with, turn_stands}
use Rattle.value_text.proofs.Keys.{Fitting, place_fits, insert_is}
use Rattle.value_text.proofs.Sound.{Sound, truth_sound, number_sound, text_sound, blob_sound, list_sound, struct_sound}

-- an entry, and its place among others
pub record Entered (d : Declared) (key to : Ty) (pairs : List Pair) (at : ℕ) (p : Pair) (bytes rest : List ℕ) : Type 0 where
  pub entry : EntryBy ALL d key to p bytes rest
  pub place : place_at (entry_key p) (map entry_key pairs) ≡ Some at

pub made_key : (k v : Value) → entry_key (as_entry k v) ≡ key_of (out-Value k)
made_key k v = entry_key_is (as_entry k v)

pub free_is : (o : Option ℕ) (left : List ℕ) (at : ℕ) → free_place o left ≡ Ok at → o ≡ Some at
free_is (Some n) left at e = ap (λ (k : ℕ). found k) (okay_is n at e)
  where
    found : ℕ → Option ℕ
    found k = Some k
free_is None left at e = absurd cc

module _ (d : Declared) (key to : Ty) (f g : List ℕ → Read Value) (sound_key : Sound d key f) (sound_value : Sound d to g) where
  pub entry_sound : (pairs : List Pair) (at : ℕ) (p : Pair) (bytes rest : List ℕ) → entry_at f g (map entry_key pairs) bytes ≡ Ok ((at, p), rest) → Entered d key to pairs at p bytes rest
  unfolding entry_at
  entry_sound pairs at p bytes rest e =
      let k = bind_gave (f bytes) (λ k. free_place (place_at (key_of (out-Value k.0)) (map entry_key pairs)) bytes >>= λ i. sign_at 58 (past_gap k.1) >>= λ start. g start >>= λ v. read_ok (i, as_entry k.0 v.0) v.1) ((at, p), rest) e in
      let i = bind_gave (free_place (place_at (key_of (out-Value k.0.0)) (map entry_key pairs)) bytes) (λ i. sign_at 58 (past_gap k.0.1) >>= λ start. g start >>= λ v. read_ok (i, as_entry k.0.0 v.0) v.1) ((at, p), rest) k.2 in
      let start = bind_gave (sign_at 58 (past_gap k.0.1)) (λ start. g start >>= λ v. read_ok (i.0, as_entry k.0.0 v.0) v.1) ((at, p), rest) i.2 in
      let v = bind_gave (g start.0) (λ v. read_ok (i.0, as_entry k.0.0 v.0) v.1) ((at, p), rest) start.2 in
      let one : ℕ × Pair = (i.0, as_entry k.0.0 v.0.0) in
      let two : ℕ × Pair = (at, p) in
      let same = gives one two v.0.1 rest v.2 in
      let sign = sign_stands 58 (past_gap k.0.1) start.0 start.1 in
      entered k.0.0 v.0.0 k.0.1 sign.0 i.0 (sound_key bytes k.0.0 k.0.1 k.1) sign.1
      (subst (λ (b : List ℕ). SpellsBy ALL d to v.0.0 b rest) (sym sign.2) (sound_value start.0 v.0.0 rest (v.1 ∙ ap (read_ok v.0.0) same.1)))
      (free_is (place_at (key_of (out-Value k.0.0)) (map entry_key pairs)) bytes i.0 i.1)
      (ap (λ (x : ℕ × Pair). x.0) same.0) (ap (λ (x : ℕ × Pair). x.1) same.0)
    where
      entered : (k v : Value) (colon start : List ℕ) (i : ℕ) → SpellsBy ALL d key k bytes colon → past_gap colon ≡ 58 ∷ start → SpellsBy ALL d to v (past_gap start) rest
          → place_at (key_of (out-Value k)) (map entry_key pairs) ≡ Some i → i ≡ at → as_entry k v ≡ p → Entered d key to pairs at p bytes rest
      entered k v colon start i key_spells sign value_spells free at_is p_is = record {
        entry = spelling.entry k v colon start (sym p_is) key_spells sign value_spells;
        place = ap (λ (q : Key). place_at q (map entry_key pairs)) (sym (ap entry_key p_is) ∙ made_key k v) ∙ free ∙ ap (λ (n : ℕ). found n) at_is;
      }
        where
          found : ℕ → Option ℕ
          found n = Some n

  entries_sound : (count : ℕ) (before : List Pair) (bytes : List ℕ) (all : List Pair) (rest : List ℕ) → keys_rise (map entry_key before) ≡ true → entries_at f g count before bytes ≡ Ok (all, rest) → (ps : List Pair) × EntriesBy ALL d key to ps bytes rest × Placed before ps all
  unfolding entries_at
  entries_sound zero before bytes all rest rise e = absurd cc
  entries_sound (suc count) before bytes all rest rise e =
      let one = bind_gave (entry_at f g (map entry_key before) bytes) (λ x. turn_at 125 x.1 >>= λ turn. entries_then turn.0 turn.1 (insert before x.0.0 x.0.1) (entries_at f g count (insert before x.0.0 x.0.1) turn.1)) (all, rest) e in
      let turn = bind_gave (turn_at 125 one.0.1) (λ turn. entries_then turn.0 turn.1 (insert before one.0.0.0 one.0.0.1) (entries_at f g count (insert before one.0.0.0 one.0.0.1) turn.1)) (all, rest) one.2 in
      let entered = entry_sound before one.0.0.0 one.0.0.1 bytes one.0.1 one.1 in
      let fits = place_fits one.0.0.1 before one.0.0.0 rise entered.place in
      by_turn one.0.0.0 one.0.0.1 one.0.1 entered.entry fits turn.0.0 turn.0.1 turn.1 (λ b next r is. entries_sound count b next all rest r is) turn.2
    where
      by_turn : (at : ℕ) (p : Pair) (next : List ℕ) → EntryBy ALL d key to p bytes next → Fitting p before at → (last : Bool) (after : List ℕ) → turn_at 125 next ≡ Ok (last, after)
          → ((b : List Pair) (next : List ℕ) → keys_rise (map entry_key b) ≡ true → entries_at f g count b next ≡ Ok (all, rest) → (ps : List Pair) × EntriesBy ALL d key to ps next rest × Placed b ps all)
          → entries_then last after (insert before at p) (entries_at f g count (insert before at p) after) ≡ Ok (all, rest) → (ps : List Pair) × EntriesBy ALL d key to ps bytes rest × Placed before ps all
      by_turn at p next is fits true after turn deeper e =
          let same = gives (insert before at p) all after rest e in
          let put_in = sym (insert_is before at p fits.within) ∙ same.0 in (
            p ∷ [],
            spelling.last_entry next is (turn_stands 125 next after true turn ∙ ap (λ (r : List ℕ). 125 ∷ r) same.1),
            spelling.put (take at before) (drop at before) (sym (take-append-drop at before)) fits.rise (spelling.done (sym put_in)),
          )
      by_turn at p next is fits false after turn deeper e =
          let comma = turn_stands 125 next after false turn in
          let put_in = insert_is before at p fits.within in
          let others = deeper (take at before ++ p ∷ drop at before) after fits.rise (ap (λ (l : List Pair). entries_at f g count l after) (sym put_in) ∙ e) in (
            p ∷ others.0,
            spelling.more_entries next comma.0 is comma.1 (subst (λ (b : List ℕ). EntriesBy ALL d key to others.0 b rest) (sym comma.2) others.1),
            spelling.put (take at before) (drop at before) (sym (take-append-drop at before)) fits.rise others.2,
          )

  map_sound : (t : Ty) → out-Ty t ≡ ty.Map key to → Sound d t (map_at f g)
  unfolding map_at
  map_sound t is bytes v rest e =
      let open_sign = bind_gave (sign_at 123 bytes) (map_inside f g) (v, rest) e in
      let sign = sign_stands 123 bytes open_sign.0 open_sign.1 in
      by_test open_sign.0 sign.0 sign.1 sign.2 (begins (λ b. b == 125) open_sign.0) (begins_with 125 open_sign.0) open_sign.2
    where
      by_test : (start inside : List ℕ) → bytes ≡ 123 ∷ inside → past_gap inside ≡ start → (closed : Bool) → (closed ≡ true → start ≡ 125 ∷ drop 1 start)
          → cond closed (read_ok (values.Map []) (drop 1 start)) (entries_at f g (length start) [] start >>= λ ps. read_ok (values.Map ps.0) ps.1) ≡ Ok (v, rest) → SpellsBy ALL d t v bytes rest
      by_test start inside text gap true closes e =
          let same = gives (values.Map []) v (drop 1 start) rest e in
          spelling.no_entries key to inside is (sym same.0) text (gap ∙ closes refl ∙ ap (λ (r : List ℕ). 125 ∷ r) same.1)
      by_test start inside text gap false closes e =
          let ps = bind_gave (entries_at f g (length start) [] start) (λ ps. read_ok (values.Map ps.0) ps.1) (v, rest) e in
          let same = gives (values.Map ps.0.0) v ps.0.1 rest ps.2 in
          let found = entries_sound (length start) [] start ps.0.0 rest refl (ps.1 ∙ ap (read_ok ps.0.0) same.1) in
          spelling.entries key to found.0 ps.0.0 inside is (sym same.0) text (subst (λ (b : List ℕ). EntriesBy ALL d key to found.0 b rest) (sym gap) found.1) found.2

-- ---- values of any type

module _ (d : Declared) (f : Ty → List ℕ → Read Value) (sound : (t : Ty) → Sound d t (f t)) (t : Ty) where
  vector_sound : (of : Ty) → out-Ty t ≡ ty.Vector of → Sound d t (vector_at f of)
  vector_sound of is bytes v rest e = by_test (is_byte (out-Ty of)) refl e
    where
      by_test : (b : Bool) → is_byte (out-Ty of) ≡ b → cond b (blob_at bytes) (list_at (f of) bytes) ≡ Ok (v, rest) → SpellsBy ALL d t v bytes rest
      by_test true byte e = blob_sound d t of is byte bytes v rest e
      by_test false other e = list_sound d of (f of) (sound of) t is other bytes v rest e

  -- a number's type is named by the layer itself
  plain_sound : (l : TyLayer) → out-Ty t ≡ l → value_by d f l ≡ number_at d l → Sound d t (value_by d f l)
  plain_sound l is number bytes v rest e = number_sound d t bytes v rest (ap (λ (k : TyLayer). number_at d k bytes) is ∙ sym (ap (λ (r : List ℕ → Read Value). r bytes) number) ∙ e)

  by_sound : (l : TyLayer) → out-Ty t ≡ l → Sound d t (value_by d f l)
  by_sound ty.Bool is = truth_sound d t is
  by_sound ty.Text is = text_sound d t is
  by_sound (ty.Vector of) is = vector_sound of is
  by_sound (ty.Map key to) is = map_sound d key to (f key) (f to) (sound key) (sound to) t is
  by_sound (ty.Struct k) is = struct_sound d f sound t k is
  by_sound ty.Byte is = plain_sound ty.Byte is refl
  by_sound ty.Short is = plain_sound ty.Short is refl
  by_sound ty.Int is = plain_sound ty.Int is refl
  by_sound ty.Long is = plain_sound ty.Long is refl
  by_sound ty.UByte is = plain_sound ty.UByte is refl
  by_sound ty.UShort is = plain_sound ty.UShort is refl
  by_sound ty.UInt is = plain_sound ty.UInt is refl
  by_sound (ty.Enum k) is = plain_sound (ty.Enum k) is refl

pub value_sound : (room : ℕ) (d : Declared) (t : Ty) → Sound d t (value_at room d t)
unfolding value_at
value_sound zero d t bytes v rest e = absurd cc
value_sound (suc room) d t bytes v rest e = by_sound d (value_at room d) (value_sound room d) t (out-Ty t) refl bytes v rest e
