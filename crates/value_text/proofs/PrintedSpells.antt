-- What is printed for a value that fits says this value, where no letter, digit or `_` follows.
use Rattle.std.proofs.Common.{◌≡◌, ◌<◌, ◌^◌, ℕ, zero, suc, ℤ, pos, negsuc, Bool, true, false, not, List, [], ◌∷◌, ◌++◌, codes, length, get_or, map, decimal, refl, sym, ap, ◌∙◌, subst, append_assoc, arith, ltb-true}
use Rattle.std.proofs.lemmas.Bool.{and_parts}
use Rattle.std.proofs.lemmas.Bool.Decides.{nat_tests}
use Rattle.std.proofs.lemmas.Fmt.{digits_decimal, digits_value-decimal, decimal_nonempty, first_decimal, decimal_digit}
use Rattle.std.specs.Fmt.{signed_decimal}
use Rattle.std.specs.List.{list_all}
use Rattle.std.specs.Str.Parse.{digits_value}
use Rattle.idl_lex.specs.Bytes.{begins, is_word_byte}
use Rattle.idl_lex.specs.LexSteps.{run}
use Rattle.tars_model.specs.Declarations.{Declared, members_at}
use Rattle.tars_model.specs.Types.{TyLayer}
use Rattle.tars_model.specs.Values.{Told, told, told_entry, is_bool, is_byte, is_signed, fits_text, fits_blob, fits_list, fits_map, fits_struct, fit_told, entry_fits, entry_key, keys_rise}
use Rattle.tars_model.specs.declared.ty.Ty.{Ty, out-Ty}
use Rattle.tars_model.specs.declared.ty.Ty.TheOpen as ty
use Rattle.tars_model.specs.declared.value.Pair.{Pair, out-Pair, fold_out-Pair}
use Rattle.tars_model.specs.declared.value.Value.{Value, out-Value, map-Value, fold_out-Value}
use Rattle.tars_model.specs.declared.value.Value.TheOpen as value
use Rattle.tars_model.specs.declared.value.Value.TheVariants as values
use Rattle.tars_model.specs.declared.value.Value.TheVariants.{outs-Text, outs-Blob, outs-List, outs-Map, outs-Struct}
use Rattle.tars_model.proofs.ToldLaws.{told_fits_bool, told_fits_num, told_fits_text, told_fits_blob, told_fits_list, all_told, all_entries, entry_keys}
use Rattle.value_text.specs.Answers.{IsEnd}
use Rattle.value_text.specs.Printed.{listed, element_texts, list_text, printing, bytes_layer, bytes_pair, has_bytes, entry_bytes}
use Rattle.value_text.specs.Spelling.{past_gap, is_decimal, is_positive, NaturalSpells, NumberSpells, Placed, SpellsBy, ElementsBy, EntriesBy, EntryBy, MembersBy, ALL}
use Rattle.value_text.specs.Spelling as spelling
use Rattle.value_text.proofs.Induction.{AllOf}
use Rattle.value_text.proofs.NumberLaws.{passing}
use Rattle.value_text.proofs.Layers.{ValueLayer, bool_printed, num_printed, text_printed, blob_printed, list_printed}
use Rattle.value_text.proofs.Moving.Runs.{run_stops, after_stops}
use Rattle.value_text.proofs.Opening.{value_opens, no_gap}
use Rattle.value_text.proofs.PrintedTexts.{quoted_spells, blob_spells}
use Rattle.value_text.proofs.SchemaNames.{Named}
use Rattle.value_text.proofs.Sizes.{long_number}

-- ---- bytes of the parts

pub bytes_at : (v : Value) (l : ValueLayer) → out-Value v ≡ l → has_bytes v ≡ bytes_layer (map-Value Value Pair Bool (Bool × Bool) has_bytes entry_bytes l)
unfolding has_bytes entry_bytes
bytes_at v l e = fold_out-Value Bool (Bool × Bool) bytes_layer bytes_pair v ∙ ap (λ (x : ValueLayer). bytes_layer (map-Value Value Pair Bool (Bool × Bool) has_bytes entry_bytes x)) e

pub entry_bytes_out : (p : Pair) → entry_bytes p ≡ (has_bytes (out-Pair p).key, has_bytes (out-Pair p).value)
unfolding has_bytes entry_bytes
entry_bytes_out p = fold_out-Pair Bool (Bool × Bool) bytes_layer bytes_pair p

-- ---- what fits tells of the type

bool_type : (l : TyLayer) → is_bool l ≡ true → l ≡ ty.Bool
bool_type ty.Bool h = refl
bool_type _ h = absurd cc

text_type : (size : ℕ) (l : TyLayer) → fits_text size l ≡ true → l ≡ ty.Text
text_type size ty.Text h = refl
text_type size _ h = absurd cc

blob_type : (size : ℕ) (l : TyLayer) → fits_blob size l ≡ true → (of : Ty) × (l ≡ ty.Vector of) × (is_byte (out-Ty of) ≡ true)
blob_type size (ty.Vector of) h = (of, refl, (and_parts (is_byte (out-Ty of)) _ h).0)
blob_type size _ h = absurd cc

not_true : (b : Bool) → not b ≡ true → b ≡ false
not_true true h = absurd cc
not_true false h = refl

list_type : (d : Declared) (vs : List Value) (l : TyLayer) → fits_list (map told vs) d l ≡ true → (of : Ty) × (l ≡ ty.Vector of) × (is_byte (out-Ty of) ≡ false) × (list_all (λ v. (told v).fits d of) vs ≡ true)
list_type d vs (ty.Vector of) h =
    let parts = and_parts _ _ h in
    let sized = and_parts (not (is_byte (out-Ty of))) _ parts.0 in
    (of, refl, not_true (is_byte (out-Ty of)) sized.0, sym (all_told d of vs) ∙ parts.1)
list_type d vs _ h = absurd cc

pub map_type : (d : Declared) (ps : List Pair) (l : TyLayer) → fits_map (map told_entry ps) d l ≡ true → (key : Ty) × (to : Ty) × (l ≡ ty.Map key to) × (keys_rise (map entry_key ps) ≡ true) × (list_all (entry_fits d key to) ps ≡ true)
map_type d ps (ty.Map key to) h =
    let parts = and_parts _ _ h in
    let sized = and_parts _ (keys_rise (map (λ (p : Told × Told). p.0.key) (map told_entry ps))) parts.0 in
    (key, to, refl, ap keys_rise (sym (entry_keys ps)) ∙ sized.1, sym (all_entries d key to ps) ∙ parts.1)
map_type d ps _ h = absurd cc

pub struct_type : (d : Declared) (vs : List Value) (l : TyLayer) → fits_struct (map told vs) d l ≡ true → (k : ℕ) × (l ≡ ty.Struct k) × (fit_told d (members_at d k) (map told vs) ≡ true)
struct_type d vs (ty.Struct k) h = (k, refl, h)
struct_type d vs _ h = absurd cc

-- ---- texts one after the other

-- what stands after the first of texts, up to the closing sign
abbrev pub tail : ℕ → List ℕ → List (List ℕ) → List ℕ
tail close rest [] = close ∷ rest
tail close rest (text ∷ texts) = 44 ∷ 32 ∷ (text ++ tail close rest texts)

listed_tail : (close : ℕ) (rest : List ℕ) (texts : List (List ℕ)) → listed (codes ", ") texts ++ close ∷ rest ≡ tail close rest texts
listed_tail close rest [] = refl
listed_tail close rest (text ∷ texts) =
    ap (λ (l : List ℕ). 44 ∷ 32 ∷ l) (append_assoc text (listed (codes ", ") texts) (close ∷ rest) ∙ ap (λ (l : List ℕ). text ++ l) (listed_tail close rest texts))

-- all of them, between an opening and a closing sign
pub whole : (opening close : ℕ) (rest text : List ℕ) (texts : List (List ℕ)) → (opening ∷ (listed [] (text ∷ texts) ++ close ∷ [])) ++ rest ≡ opening ∷ (text ++ tail close rest texts)
whole opening close rest text texts =
    ap (λ (l : List ℕ). opening ∷ l) (append_assoc (text ++ listed (codes ", ") texts) (close ∷ []) rest ∙ append_assoc text (listed (codes ", ") texts) (close ∷ rest)
    ∙ ap (λ (l : List ℕ). text ++ l) (listed_tail close rest texts))

-- ---- values

-- what is printed says the value
abbrev pub Says : Value → Type 0
Says v = (d : Declared) (t : Ty) (rest : List ℕ) → Named d → (told v).fits d t ≡ true → has_bytes v ≡ true → IsEnd rest → SpellsBy ALL d t v (printing v d t ++ rest) rest

abbrev pub SaysAll : List Value → Type 0
SaysAll vs = AllOf Says vs

pub word_no_digit : (b : ℕ) → is_word_byte b ≡ false → is_decimal b ≡ false
word_no_digit b h = grind (arith, nat_tests)

pub no_decimal : (rest : List ℕ) → IsEnd rest → begins is_decimal rest ≡ false
no_decimal [] h = refl
no_decimal (b ∷ rest) h = word_no_digit b h

natural_says : (n : ℕ) (rest : List ℕ) → n < 2 ^ 64 → begins is_decimal rest ≡ false → NaturalSpells n (decimal n ++ rest) rest
natural_says zero rest small stops = spelling.nought refl (ap (λ (l : List ℕ). l ++ rest) (decimal_digit 0 (omega arith)))
natural_says (suc n) rest small stops =
    let passes = digits_decimal passing (suc n) small in
    let value : suc n ≡ digits_value 10 (run is_decimal (decimal (suc n) ++ rest)) = sym (ap (digits_value 10) (run_stops is_decimal (decimal (suc n)) rest passes stops) ∙ digits_value-decimal passing (suc n) small) in
    spelling.positive (first_is (decimal (suc n)) (decimal_nonempty (suc n) small) passes (first_decimal (suc n) (omega arith) small)) value (sym (after_stops is_decimal (decimal (suc n)) rest passes stops))
  where
    high : (b : ℕ) → 48 < b → is_decimal b ≡ true → is_positive b ≡ true
    high b less h = grind (arith, nat_tests)

    first_is : (ds : List ℕ) → 0 < length ds → list_all is_decimal ds ≡ true → 48 < get_or ds 0 0 → begins is_positive (ds ++ rest) ≡ true
    first_is [] some passes large = absurd (omega arith)
    first_is (b ∷ ds) some passes large = high b large (and_parts (is_decimal b) (list_all is_decimal ds) passes).0

decimal_says : (n : ℤ) (rest : List ℕ) → is_signed 63 n ≡ true → begins is_decimal rest ≡ false → NumberSpells n (signed_decimal n ++ rest) rest
decimal_says (pos n) rest long stops = spelling.natural n refl (natural_says n rest (omega (arith, ltb-true n (2 ^ 63) long)) stops)
decimal_says (negsuc n) rest long stops = spelling.negative n (decimal (suc n) ++ rest) refl refl (natural_says (suc n) rest (omega (arith, ltb-true n (2 ^ 63) long)) stops)

pub bool_says : (b : Bool) → Says (values.Bool b)
bool_says b d t rest named fits bytes ends =
    spelling.truth b (bool_type (out-Ty t) (sym (told_fits_bool (values.Bool b) d t b refl) ∙ fits)) refl (ap (λ (l : List ℕ). l ++ rest) (bool_printed (values.Bool b) d t b refl))

pub num_says : (n : ℤ) → Says (values.Num n)
num_says n d t rest named fits bytes ends =
    spelling.number n (sym (told_fits_num (values.Num n) d t n refl) ∙ fits) refl
    (spelling.digits_of (subst (λ (b : List ℕ). NumberSpells n b rest) (ap (λ (l : List ℕ). l ++ rest) (sym (num_printed (values.Num n) d t n refl))) (decimal_says n rest (long_number (out-Ty t) n (sym (told_fits_num (values.Num n) d t n refl) ∙ fits)) (no_decimal rest ends))))

pub text_says : (s : List ℕ) → Says (values.Text s)
text_says s d t rest named fits bytes ends =
    let is = text_type (length s) (out-Ty t) (sym (told_fits_text (values.Text s) d t s refl) ∙ fits) in
    let inner = quoted_spells s rest (sym (bytes_at (values.Text s) (value.Text s) (outs-Text s)) ∙ bytes) in
    spelling.text s inner.0 is refl (ap (λ (l : List ℕ). l ++ rest) (text_printed (values.Text s) d t s refl) ∙ inner.1) inner.2

pub blob_says : (s : List ℕ) → Says (values.Blob s)
blob_says s d t rest named fits bytes ends =
    let is = blob_type (length s) (out-Ty t) (sym (told_fits_blob (values.Blob s) d t s refl) ∙ fits) in
    let inner = blob_spells s rest (sym (bytes_at (values.Blob s) (value.Blob s) (outs-Blob s)) ∙ bytes) ends in
    spelling.blob is.0 s inner.0 is.1 is.2 refl (ap (λ (l : List ℕ). l ++ rest) (blob_printed (values.Blob s) d t s refl) ∙ inner.1) inner.2

-- ---- lists

-- no gap stands before what is spelled
pub gapless : {d : Declared} {t : Ty} {v : Value} {bytes rest : List ℕ} → SpellsBy ALL d t v bytes rest → past_gap bytes ≡ bytes
gapless {bytes = bytes} s = no_gap bytes (value_opens s)

module _ (d : Declared) (of : Ty) (named : Named d) (rest : List ℕ) where
  elements_say : (v : Value) (vs : List Value) → Says v → SaysAll vs → (told v).fits d of ≡ true → list_all (λ v. (told v).fits d of) vs ≡ true → has_bytes v ≡ true → list_all (λ b. b) (map has_bytes vs) ≡ true
      → ElementsBy ALL d of (v ∷ vs) (printing v d of ++ tail 93 rest (element_texts d of (map printing vs))) rest
  elements_say v [] says others fits all bytes all_bytes = spelling.last_element (93 ∷ rest) (says d of (93 ∷ rest) named fits bytes refl) refl
  elements_say v (w ∷ vs) says others fits all bytes all_bytes =
      let next = tail 93 rest (element_texts d of (map printing (w ∷ vs))) in
      let inside = printing w d of ++ tail 93 rest (element_texts d of (map printing vs)) in
      let parts = and_parts ((told w).fits d of) _ all in
      let octets = and_parts (has_bytes w) _ all_bytes in
      let rest_says = elements_say w vs others.0 others.1 parts.0 parts.1 octets.0 octets.1 in
      spelling.more_elements next (32 ∷ inside) (says d of next named fits bytes refl) refl (subst (λ (b : List ℕ). ElementsBy ALL d of (w ∷ vs) b rest) (sym (first_gapless rest_says)) rest_says)
    where
      first_gapless : {vs : List Value} {bytes : List ℕ} → ElementsBy ALL d of vs bytes rest → past_gap bytes ≡ bytes
      first_gapless (spelling.last_element next is closes) = gapless is
      first_gapless (spelling.more_elements next inside is comma others) = gapless is

pub list_says : (vs : List Value) → SaysAll vs → Says (values.List vs)
list_says vs all d t rest named fits bytes ends =
    let is = list_type d vs (out-Ty t) (sym (told_fits_list (values.List vs) d t vs refl) ∙ fits) in
    let shown : printing (values.List vs) d t ≡ list_text (map printing vs) d (ty.Vector is.0) = list_printed (values.List vs) d t vs refl ∙ ap (list_text (map printing vs) d) is.1 in
    let octets : list_all (λ b. b) (map has_bytes vs) ≡ true = sym (bytes_at (values.List vs) (value.List vs) (outs-List vs)) ∙ bytes in
    by_values is.0 vs all is.1 is.2 is.3 octets shown
  where
    by_values : (of : Ty) (us : List Value) → SaysAll us → out-Ty t ≡ ty.Vector of → is_byte (out-Ty of) ≡ false → list_all (λ v. (told v).fits d of) us ≡ true → list_all (λ b. b) (map has_bytes us) ≡ true
        → printing (values.List us) d t ≡ list_text (map printing us) d (ty.Vector of) → SpellsBy ALL d t (values.List us) (printing (values.List us) d t ++ rest) rest
    by_values of [] says is other fit octets shown = spelling.no_elements of (93 ∷ rest) is other refl (ap (λ (l : List ℕ). l ++ rest) shown) refl
    by_values of (v ∷ us) says is other fit octets shown =
        let parts = and_parts ((told v).fits d of) _ fit in
        let each = and_parts (has_bytes v) _ octets in
        let inside = printing v d of ++ tail 93 rest (element_texts d of (map printing us)) in
        let inner = elements_say d of named rest v us says.0 says.1 parts.0 parts.1 each.0 each.1 in
        spelling.elements of (v ∷ us) inside is other refl
        (ap (λ (l : List ℕ). l ++ rest) shown ∙ whole 91 93 rest (printing v d of) (element_texts d of (map printing us)))
        (subst (λ (b : List ℕ). ElementsBy ALL d of (v ∷ us) b rest) (sym (open_gapless inner)) inner)
      where
        open_gapless : {us : List Value} {bytes : List ℕ} → ElementsBy ALL d of us bytes rest → past_gap bytes ≡ bytes
        open_gapless (spelling.last_element next is closes) = gapless is
        open_gapless (spelling.more_elements next inside is comma others) = gapless is
