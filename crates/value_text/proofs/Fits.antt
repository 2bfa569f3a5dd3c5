-- What is spelled fits its type.
use Rattle.std.proofs.Common.{◌≡◌, ◌<◌, ◌^◌, ℕ, true, false, List, [], length, map, refl, ap, ◌∙◌, arith, length-append, lt-ltb}
use Rattle.std.proofs.lemmas.Bool.{and_from}
use Rattle.std.proofs.lemmas.List.{length-map}
use Rattle.std.specs.List.{list_all}
use Rattle.tars_model.specs.Declarations.{Declared}
use Rattle.tars_model.specs.Types.{TyLayer}
use Rattle.tars_model.specs.Values.{told, told_entry, entry_fits, entry_key, fit_told, fits_text, fits_blob, fits_list, fits_map, fits_struct, is_bool, is_byte, keys_rise}
use Rattle.tars_model.specs.declared.member.Member.{Member}
use Rattle.tars_model.specs.declared.ty.Ty.{Ty, out-Ty}
use Rattle.tars_model.specs.declared.ty.Ty.TheOpen as ty
use Rattle.tars_model.specs.declared.value.Pair.{Pair}
use Rattle.tars_model.specs.declared.value.Value.{Value}
use Rattle.tars_model.proofs.ToldLaws.{told_fits_bool, told_fits_num, told_fits_text, told_fits_blob, told_fits_list, told_fits_map, told_fits_struct, all_told, all_entries, entry_keys, entry_fits_is}
use Rattle.value_text.specs.ValueSteps.{as_entry}
use Rattle.value_text.specs.Spelling.{past_gap, SpellsBy, ElementsBy, EntriesBy, EntryBy, MembersBy, ALL}
use Rattle.value_text.specs.Spelling as spelling
use Rattle.value_text.proofs.Keys.{placed_rise, placed_length, placed_all}
use Rattle.value_text.proofs.Signs.{past_gap_shorter}
use Rattle.value_text.proofs.Sizes.{value_shorter, elements_length, entries_length, entry_shorter, comma_shorter}
use Rattle.value_text.proofs.TextLaws.{text_length, blob_length}

list_fits : (d : Declared) (l : TyLayer) (of : Ty) (vs : List Value) → l ≡ ty.Vector of → is_byte (out-Ty of) ≡ false → length vs < 2 ^ 31 → list_all (λ v. (told v).fits d of) vs ≡ true → fits_list (map told vs) d l ≡ true
list_fits d l of vs is other short all =
    rw (is, other, length-map vs told, all_told d of vs, all, lt-ltb (length vs) (2 ^ 31) short) refl

map_fits : (d : Declared) (l : TyLayer) (key to : Ty) (ps : List Pair) → l ≡ ty.Map key to → length ps < 2 ^ 31 → keys_rise (map entry_key ps) ≡ true → list_all (entry_fits d key to) ps ≡ true → fits_map (map told_entry ps) d l ≡ true
map_fits d l key to ps is short rise all =
    rw (is, length-map ps told_entry, entry_keys ps, all_entries d key to ps, lt-ltb (length ps) (2 ^ 31) short, rise, all) refl

-- texts shorter than 2^32 bytes say values that fit
abbrev Short : List ℕ → Type 0
Short bytes = length bytes < 2 ^ 32

mutual
  pub value_fits : {d : Declared} {t : Ty} {v : Value} {bytes rest : List ℕ} → SpellsBy ALL d t v bytes rest → Short bytes → (told v).fits d t ≡ true
  value_fits {d = d} {t = t} {v = v} (spelling.truth b is v_is text) short = told_fits_bool v d t b v_is ∙ ap is_bool is
  value_fits {d = d} {t = t} {v = v} (spelling.number n fits v_is says) short = told_fits_num v d t n v_is ∙ fits
  value_fits {d = d} {t = t} {v = v} (spelling.text s inside is v_is text inner) short =
      let len = ap length text in
      let less = text_length inner in
      told_fits_text v d t s v_is ∙ ap (fits_text (length s)) is ∙ lt-ltb (length s) (2 ^ 32) (omega arith)
  value_fits {d = d} {t = t} {v = v} (spelling.blob of s inside is byte v_is text inner) short =
      let len = ap length text in
      let less = blob_length inner in
      told_fits_blob v d t s v_is ∙ ap (fits_blob (length s)) is ∙ and_from _ _ byte (lt-ltb (length s) (2 ^ 31) (omega arith))
  value_fits {d = d} {t = t} {v = v} (spelling.no_elements of inside is other v_is text closes) short =
      told_fits_list v d t [] v_is ∙ list_fits d (out-Ty t) of [] is other (omega arith) refl
  value_fits {d = d} {t = t} {v = v} (spelling.elements of vs inside is other v_is text inner) short =
      let len = ap length text in
      let gap = past_gap_shorter inside in
      let less = elements_length inner in
      told_fits_list v d t vs v_is ∙ list_fits d (out-Ty t) of vs is other (omega arith) (elements_fit_all inner (omega arith))
  value_fits {d = d} {t = t} {v = v} (spelling.no_entries key to inside is v_is text closes) short =
      told_fits_map v d t [] v_is ∙ map_fits d (out-Ty t) key to [] is (omega arith) refl refl
  value_fits {d = d} {t = t} {v = v} (spelling.entries key to ps all inside is v_is text inner placed) short =
      let len = ap length text in
      let gap = past_gap_shorter inside in
      let less = entries_length inner in
      let count = placed_length placed in
      told_fits_map v d t all v_is
      ∙ map_fits d (out-Ty t) key to all is (omega arith) (placed_rise placed refl) (placed_all (entry_fits d key to) placed refl (entries_fit_all inner (omega arith)))
  value_fits {d = d} {t = t} {v = v} (spelling.members k vs inside is v_is text inner) short =
      let len = ap length text in
      let gap = past_gap_shorter inside in
      told_fits_struct v d t vs v_is ∙ ap (fits_struct (map told vs) d) is ∙ members_fit inner (omega arith)

  elements_fit_all : {d : Declared} {of : Ty} {vs : List Value} {bytes rest : List ℕ} → ElementsBy ALL d of vs bytes rest → Short bytes → list_all (λ v. (told v).fits d of) vs ≡ true
  elements_fit_all (spelling.last_element next is closes) short = and_from _ _ (value_fits is short) refl
  elements_fit_all (spelling.more_elements next inside is comma others) short =
      let less = value_shorter is in
      let gap = past_gap_shorter next in
      let len = ap length comma in
      let gap_in = past_gap_shorter inside in
      and_from _ _ (value_fits is short) (elements_fit_all others (omega arith))

  entries_fit_all : {d : Declared} {key to : Ty} {ps : List Pair} {bytes rest : List ℕ} → EntriesBy ALL d key to ps bytes rest → Short bytes → list_all (entry_fits d key to) ps ≡ true
  entries_fit_all (spelling.last_entry next is closes) short = and_from _ _ (one_entry_fits is short) refl
  entries_fit_all (spelling.more_entries next inside is comma others) short =
      let less = entry_shorter is in
      let gap = past_gap_shorter next in
      let len = ap length comma in
      let gap_in = past_gap_shorter inside in
      and_from _ _ (one_entry_fits is short) (entries_fit_all others (omega arith))

  one_entry_fits : {d : Declared} {key to : Ty} {p : Pair} {bytes rest : List ℕ} → EntryBy ALL d key to p bytes rest → Short bytes → entry_fits d key to p ≡ true
  one_entry_fits {d = d} {key = key} {to = to} (spelling.entry k v colon start p_is key_is sign value_is) short =
      let less = value_shorter key_is in
      let gap = past_gap_shorter colon in
      let len = ap length sign in
      let gap_in = past_gap_shorter start in
      ap (entry_fits d key to) p_is ∙ entry_fits_is d key to (as_entry k v) ∙ and_from _ _ (value_fits key_is short) (value_fits value_is (omega arith))

  members_fit : {d : Declared} {ms : List Member} {vs : List Value} {bytes rest : List ℕ} → MembersBy ALL d ms vs bytes rest → Short bytes → fit_told d ms (map told vs) ≡ true
  members_fit (spelling.no_members text) short = refl
  members_fit (spelling.more_members {m = m} {ms = ms} equals start next after name sign is comma others) short =
      let name_len = ap length name ∙ length-append m.name equals in
      let gap = past_gap_shorter equals in
      let sign_len = ap length sign in
      let gap_in = past_gap_shorter start in
      let less = value_shorter is in
      let gap_out = past_gap_shorter next in
      let comma_len = comma_shorter ms (past_gap next) after comma in
      and_from _ _ (value_fits is (omega arith)) (members_fit others (omega arith))
