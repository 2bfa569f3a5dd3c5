-- Numbers: what parsing their text gives, and the readers of numbers.
use Rattle.std.proofs.Common.{◌≡◌, ℕ, ◌^◌, ◌<◌, ◌≤◌, Bool, true, false, nat_abs, cond, eqb, leb, ltb, ◌&&◌, List, [], ◌∷◌, length, get_or, Option, Some, None, Result, Ok, Err, pos, neg_ℤ, ℤ, refl, sym, ap, ◌∙◌, subst, inl, inr, ⊎_elim, ◌⊎◌, zero, suc, arith, rules}
use Rattle.std.specs.Prelude.{IsUtf8}
use Rattle.std.specs.Int.{w32}
use Rattle.std.specs.List.{list_all}
use Rattle.std.specs.Result.{result_ok}
use Rattle.std.specs.Str.{IsAscii}
use Rattle.std.specs.Str.Parse.{digits_value, ParsesUnsigned, ParsesSigned}
use Rattle.std.proofs.lemmas.Bool.{ltb-false, and_parts, and_from, and_right, cond-true, cond-false, leb-true, lt-ltb, le-ltb, cases_lt, le-leb, lt-leb, eqb-true, eq-eqb, cases_Bool}
use Rattle.std.proofs.lemmas.Str.{IsUtf8-from_ascii}
use Rattle.std.proofs.lemmas.Str.Ascii.{IsAscii-nil, IsAscii-cons}
use Rattle.std.proofs.lemmas.Str.Parse.{IsNumeralModel, numerals_by_value, parse_digits, parse_signed_digits, parse_signed_minus}
use Rattle.std.proofs.lemmas.Option.{cond_some}
use Rattle.script_lines.specs.Numbers.{is_digit, is_natural, is_number, number_of, within}
use Rattle.script_lines.specs.Objects.{IsNaturalWithin}
use Rattle.script_lines.specs.ScanSteps.{Gives}
use Rattle.script_lines.specs.NumberSteps.{natural, natural_within, int_of}
use Rattle.tars_model.specs.Ranges.{is_int}
use Rattle.script_lines.specs.ScanSteps.{utf8}
use Rattle.script_lines.proofs.Texts.{utf8_takes}
use Rattle.facts.specs.OptionSteps.{◌>>=◌}
use Rattle.script_lines.specs.Meanings.{code_meant}
use Rattle.script_lines.proofs.Readers.{lacks, lacks_from, IsWhole}

-- digits, in our words
digits : IsNumeralModel (λ ds. list_all is_digit ds ≡ true) (digits_value 10)
digits = numerals_by_value (λ ds. list_all is_digit ds ≡ true) (search rules)

digits_ascii : (bytes : List ℕ) → list_all is_digit bytes ≡ true → IsAscii bytes
digits_ascii [] h = IsAscii-nil
digits_ascii (b ∷ bytes) h =
    let parts = and_parts (is_digit b) (list_all is_digit bytes) h in
    let range = and_parts (leb 48 b) (leb b 57) parts.0 in
    let below : b ≤ 57 = leb-true b 57 range.1 in
    IsAscii-cons b bytes (omega arith) (digits_ascii bytes parts.1)

-- a natural number's text has digits alone
natural_digits : (text : List ℕ) → is_natural text ≡ true → (list_all is_digit text ≡ true) × (0 < length text)
natural_digits [] h = absurd cc
natural_digits (d ∷ ds) h = ((and_parts (list_all is_digit (d ∷ ds)) _ h).0, omega arith)

pub natural_utf8 : (text : List ℕ) → is_natural text ≡ true → IsUtf8 text
natural_utf8 text h = IsUtf8-from_ascii text (digits_ascii text (natural_digits text h).0)

-- what `parse` gives of such a text
pub natural_parsed : {E : Type 0} (text : List ℕ) (r : Result ℕ E) → is_natural text ≡ true → ParsesUnsigned 32 10 text r → Gives (λ n. n) (result_ok r) (natural text)
unfolding natural
natural_parsed {E} text (Ok n) h given =
    let d = natural_digits text h in
    let p = parse_digits digits {E = E} 32 text (Ok n) given d.0 in
    cond-true (is_natural text && ltb (digits_value 10 text) (2 ^ 32)) _ _ (and_from _ _ h (lt-ltb _ _ p.0.1)) ∙ ap Some (sym p.1)
natural_parsed {E} text (Err e) h given =
    let d = natural_digits text h in
    let p = parse_digits digits {E = E} 32 text (Err e) given d.0 in
    cond-false (is_natural text && ltb (digits_value 10 text) (2 ^ 32)) _ _ (and_right _ _ (le-ltb _ _ (⊎_elim (λ lt. absurd (p (d.1, lt))) (λ le. le) (cases_lt (digits_value 10 text) (2 ^ 32)))))

pub natural_read : {E : Type 0} (bytes text : List ℕ) (r : Result ℕ E) (o : Option ℕ) → is_natural bytes ≡ true → utf8 bytes ≡ Some text → ParsesUnsigned 32 10 text r → o ≡ result_ok r → Gives (λ n. n) o (natural bytes)
natural_read {E} bytes text r o h e given is =
    let t : text ≡ bytes = sym (utf8_takes bytes text e).0 in
    rw is (natural_parsed {E = E} bytes r h (subst (λ (t : List ℕ). ParsesUnsigned 32 10 t r) t given))

-- ---- numbers with a sign

number_parts : (c : ℕ) (cs : List ℕ) → is_number (c ∷ cs) ≡ true → ((c ≡ 45) × (is_natural cs ≡ true)) ⊎ ((eqb c 45 ≡ false) × (is_natural (c ∷ cs) ≡ true))
number_parts c cs h =
    elim (cases_Bool (eqb c 45)) [
      | inl minus ↦ inl (eqb-true c 45 minus, (and_parts (is_natural cs) (ltb 48 (get_or cs 0 0)) (sym (cond-true (eqb c 45) (is_natural cs && ltb 48 (get_or cs 0 0)) (is_natural (c ∷ cs)) minus) ∙ h)).0)
      | inr plain ↦ inr (plain, sym (cond-false (eqb c 45) (is_natural cs && ltb 48 (get_or cs 0 0)) (is_natural (c ∷ cs)) plain) ∙ h)
    ]

pub number_utf8 : (text : List ℕ) → is_number text ≡ true → IsUtf8 text
number_utf8 [] h = absurd cc
number_utf8 (c ∷ cs) h =
    elim (number_parts c cs h) [
      | inl minus ↦ IsUtf8-from_ascii (c ∷ cs) (IsAscii-cons c cs (omega arith) (digits_ascii cs (natural_digits cs minus.1).0))
      | inr plain ↦ natural_utf8 (c ∷ cs) plain.1
    ]

int_at : (text : List ℕ) (z : ℤ) → number_of text ≡ z → is_int z ≡ true → int_of text ≡ Some z
unfolding int_of
int_at text z e h = cond-true (is_int (number_of text)) _ _ (ap is_int e ∙ h) ∙ ap Some e

no_int_at : (text : List ℕ) (z : ℤ) → number_of text ≡ z → is_int z ≡ false → int_of text ≡ None
unfolding int_of
no_int_at text z e h = cond-false (is_int (number_of text)) _ _ (ap is_int e ∙ h)

negative_int : (n : ℕ) → n ≤ 2 ^ 31 → is_int (neg_ℤ (pos n)) ≡ true
negative_int zero h = refl
negative_int (suc n) h = lt-ltb n (2 ^ 31) (omega arith)

too_negative : (n : ℕ) → 2 ^ 31 < n → is_int (neg_ℤ (pos n)) ≡ false
too_negative zero h = absurd (omega arith)
too_negative (suc n) h = le-ltb n (2 ^ 31) (omega arith)

pub number_parsed : {E : Type 0} (text : List ℕ) (r : Result ℤ E) → is_number text ≡ true → ParsesSigned w32 10 text r → result_ok r ≡ int_of text
number_parsed [] r h given = absurd cc
number_parsed {E} (c ∷ cs) (Ok z) h given =
    elim (number_parts c cs h) [
      | inl minus ↦
          let p = parse_signed_minus digits {E = E} w32 (c ∷ cs) (Ok z) given minus.0 in
          let is : number_of (c ∷ cs) ≡ neg_ℤ (pos (digits_value 10 cs)) = cond-true (eqb c 45) _ _ (eq-eqb c 45 minus.0) in
          ap Some p.1 ∙ sym (int_at (c ∷ cs) (neg_ℤ (pos (digits_value 10 cs))) is (negative_int (digits_value 10 cs) p.0.2))
      | inr plain ↦
          let p = parse_signed_digits digits {E = E} w32 (c ∷ cs) (Ok z) given (natural_digits (c ∷ cs) plain.1).0 in
          let is : number_of (c ∷ cs) ≡ pos (digits_value 10 (c ∷ cs)) = cond-false (eqb c 45) _ _ plain.0 in
          ap Some p.1 ∙ sym (int_at (c ∷ cs) (pos (digits_value 10 (c ∷ cs))) is (lt-ltb _ _ p.0.1))
    ]
number_parsed {E} (c ∷ cs) (Err e) h given =
    elim (number_parts c cs h) [
      | inl minus ↦
          let d = natural_digits cs minus.1 in
          let p = parse_signed_minus digits {E = E} w32 (c ∷ cs) (Err e) given minus.0 in
          let is : number_of (c ∷ cs) ≡ neg_ℤ (pos (digits_value 10 cs)) = cond-true (eqb c 45) _ _ (eq-eqb c 45 minus.0) in
          let past : 2 ^ 31 < digits_value 10 cs = ⊎_elim (λ lt. lt) (λ le. absurd (p (d.0, d.1, le))) (cases_lt (2 ^ 31) (digits_value 10 cs)) in
          sym (no_int_at (c ∷ cs) (neg_ℤ (pos (digits_value 10 cs))) is (too_negative (digits_value 10 cs) past))
      | inr plain ↦
          let d = natural_digits (c ∷ cs) plain.1 in
          let p = parse_signed_digits digits {E = E} w32 (c ∷ cs) (Err e) given d.0 in
          let is : number_of (c ∷ cs) ≡ pos (digits_value 10 (c ∷ cs)) = cond-false (eqb c 45) _ _ plain.0 in
          let past : 2 ^ 31 ≤ digits_value 10 (c ∷ cs) = ⊎_elim (λ lt. absurd (p (d.1, lt))) (λ le. le) (cases_lt (digits_value 10 (c ∷ cs)) (2 ^ 31)) in
          sym (no_int_at (c ∷ cs) (pos (digits_value 10 (c ∷ cs))) is (le-ltb _ _ past))
    ]

pub number_read : {E : Type 0} (bytes text : List ℕ) (r : Result ℤ E) (o : Option ℤ) → is_number bytes ≡ true → utf8 bytes ≡ Some text → ParsesSigned w32 10 text r → o ≡ result_ok r → o ≡ int_of bytes
number_read {E} bytes text r o h e given is =
    let t : text ≡ bytes = sym (utf8_takes bytes text e).0 in
    is ∙ number_parsed {E = E} bytes r h (subst (λ (t : List ℕ). ParsesSigned w32 10 t r) t given)

-- ---- readers

pub within_whole : (low high : ℕ) → IsWhole (within low high) (λ (text : List ℕ). text) (IsNaturalWithin low high) (digits_value 10)
unfolding within
within_whole low high = record {
  takes = λ bytes v e.
      let c = cond_some (is_natural bytes && (leb low (digits_value 10 bytes) && leb (digits_value 10 bytes) high)) (digits_value 10 bytes) v e in
      let form = and_parts (is_natural bytes) (leb low (digits_value 10 bytes) && leb (digits_value 10 bytes) high) c.0 in
      let ends = and_parts (leb low (digits_value 10 bytes)) (leb (digits_value 10 bytes) high) form.1 in
      (bytes, refl, record { form = form.0; low_end = leb-true _ _ ends.0; high_end = leb-true _ _ ends.1 }, sym c.1);
  again = λ t is. cond-true (is_natural t && (leb low (digits_value 10 t) && leb (digits_value 10 t) high)) _ _ (and_from _ _ is.form (and_from _ _ (le-leb _ _ is.low_end) (le-leb _ _ is.high_end)));
}

-- ---- bytes that stand in no number

pub natural_lacks : (c : ℕ) (text : List ℕ) → is_digit c ≡ false → is_natural text ≡ true → lacks c text ≡ true
natural_lacks c text other h = lacks_from is_digit c text other (natural_digits text h).0

-- ---- ranges

by_range : (low high n : ℕ) (form small : Bool) → high < 2 ^ 32 → ltb n (2 ^ 32) ≡ small
    → (cond (form && small) (Some n) None >>= λ n. cond (leb low n && leb n high) (Some n) None) ≡ cond (form && (leb low n && leb n high)) (Some n) None
by_range low high n false small fits is = refl
by_range low high n true true fits is = refl
by_range low high n true false fits is =
    let past : leb n high ≡ false = lt-leb n high (omega (arith, ltb-false n (2 ^ 32) is)) in
    sym (cond-false (leb low n && leb n high) (Some n) None (and_right (leb low n) (leb n high) past))

-- a range of numbers that a u32 holds
within_is : (low high : ℕ) (text : List ℕ) → high < 2 ^ 32 → natural_within low high text ≡ within low high text
unfolding natural_within natural within
within_is low high text fits = by_range low high (digits_value 10 text) (is_natural text) (ltb (digits_value 10 text) (2 ^ 32)) fits refl

pub within_none : (low high : ℕ) (text : List ℕ) → high < 2 ^ 32 → natural text ≡ None → within low high text ≡ None
unfolding natural_within
within_none low high text fits none = sym (within_is low high text fits) ∙ ap (λ (o : Option ℕ). o >>= λ n. cond (leb low n && leb n high) (Some n) None) none

pub within_some : (low high n : ℕ) (text : List ℕ) → high < 2 ^ 32 → natural text ≡ Some n → within low high text ≡ cond (leb low n && leb n high) (Some n) None
unfolding natural_within
within_some low high n text fits is = sym (within_is low high text fits) ∙ ap (λ (o : Option ℕ). o >>= λ n. cond (leb low n && leb n high) (Some n) None) is

-- ---- return codes

some_int : (text : List ℕ) (z : ℤ) → int_of text ≡ Some z → (is_int (number_of text) ≡ true) × (number_of text ≡ z)
unfolding int_of
some_int text z is = cond_some (is_int (number_of text)) (number_of text) z is

no_int : (b : Bool) (z : ℤ) → cond b (Some z) None ≡ None → b ≡ false
no_int false z e = refl
no_int true z e = cc

pub code_none : (text : List ℕ) → int_of text ≡ None → code_meant text ≡ None
unfolding code_meant int_of
code_none text none =
    cond-false (is_number text && (is_int (number_of text) && ltb 0 (nat_abs (number_of text)))) (Some (number_of text)) None
    (and_right (is_number text) _ (ap (λ (b : Bool). b && ltb 0 (nat_abs (number_of text))) (no_int (is_int (number_of text)) (number_of text) none)))

pub code_some : (text : List ℕ) (z : ℤ) → is_number text ≡ true → int_of text ≡ Some z → code_meant text ≡ cond (ltb 0 (nat_abs z)) (Some z) None
unfolding code_meant
code_some text z form is =
    let i = some_int text z is in
    rw (form, i.0, i.1) refl
