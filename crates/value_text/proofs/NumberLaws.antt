-- The bytes of numbers: what is read is a whole number in decimal digits.
use Rattle.std.proofs.Common.{◌≡◌, ◌≤◌, ◌<◌, ◌+◌, ◌-◌, ◌*◌, ◌^◌, ℕ, zero, suc, ℤ, pos, negsuc, Bool, true, false, ◌==◌, cond, List, [], ◌∷◌, length, take, drop, Ok, refl, sym, ap, ◌∙◌, subst, inl, inr, arith, rules, slice_index, nat_le, nat_lt}
use Rattle.std.proofs.lemmas.Bool.{and_parts, eqb-true}
use Rattle.std.proofs.lemmas.Bool.Decides.{nat_tests}
use Rattle.std.proofs.lemmas.Str.Parse.{IsNumeralModel, numerals_by_value}
use Rattle.std.specs.Char.{digit_value}
use Rattle.std.specs.List.{list_all, prefix_len}
use Rattle.std.specs.Str.Parse.{digits_value}
use Rattle.facts.proofs.ResultLaws.{bind_gave}
use Rattle.idl_lex.specs.Forms.{IsForm, magnitude, is_in_range}
use Rattle.idl_lex.specs.LexSteps.{run, after_run}
use Rattle.idl_lex.specs.Meanings.{whole_number}
use Rattle.idl_lex.specs.declared.kind.Kind.TheVariants as kinds
use Rattle.idl_lex.proofs.Lexing.Numbers.DigitLaws.{le-digits_value_after}
use Rattle.idl_lex.proofs.Lexing.Words.RunLaws.{take_is_run, drop_is_after, run_passes, run_some}
use Rattle.tars_model.specs.Values.{is_signed}
use Rattle.value_text.specs.ReadSteps.{Read, unexpected, natural_len, positive_len, word_of, number_word_at, out_of_range, integer_at, common_len}
use Rattle.value_text.specs.Spelling.{is_decimal, is_positive, NaturalSpells, NumberSpells}
use Rattle.value_text.specs.Spelling as spelling
use Rattle.value_text.proofs.Signs.{read_ok, gives}

pub no_word : (word name : List ℕ) → length word ≤ 0 → common_len word name ≡ 0
no_word [] name h = refl
no_word (b ∷ word) name h = absurd (omega arith)

pub no_name : (word name : List ℕ) → length name ≤ 0 → common_len word name ≡ 0
no_name [] name h = refl
no_name (b ∷ word) [] h = refl
no_name (b ∷ word) (a ∷ name) h = absurd (omega arith)

-- ---- digits

-- one decimal digit or more
pub record Digits (ds : List ℕ) : Type 0 where
  pub some : 0 < length ds
  pub passes : list_all is_decimal ds ≡ true

-- what stands at the start, and the bytes after it
pub record Natural (n : ℕ) (ds bytes rest : List ℕ) : Type 0 where
  pub digits : Digits ds
  pub value : digits_value 10 ds ≡ n
  pub spells : NaturalSpells n bytes rest

is_more : (b : ℕ) → (b == 48) ≡ false → is_decimal b ≡ true → is_positive b ≡ true
is_more b other passes = grind (arith, nat_tests)

pub more_is : (b : ℕ) → is_positive b ≡ true → (is_decimal b ≡ true) × ((b == 48) ≡ false)
more_is b more = (grind (arith, nat_tests), grind (arith, nat_tests))

-- digits that begin with another than 0 make up more than 0
above_0 : (b : ℕ) (ds : List ℕ) → is_positive b ≡ true → 0 < digits_value 10 (b ∷ ds)
above_0 b ds more = let first = le-digits_value_after 10 (0 * 10 + digit_value b) ds (omega arith) in let one = at_least_1 b more in omega arith
  where
    at_least_1 : (b : ℕ) → is_positive b ≡ true → 1 ≤ digit_value b
    at_least_1 b more = grind (arith, nat_tests)

-- so many digits, the first of them no zero
abbrev Run : ℕ → List ℕ → Type 0
Run len bytes = Natural (digits_value 10 (take len bytes)) (take len bytes) bytes (drop len bytes) × (0 < digits_value 10 (take len bytes))

run_natural : (b : ℕ) (bytes : List ℕ) → (b == 48) ≡ false → 0 < prefix_len is_decimal (b ∷ bytes) → Run (prefix_len is_decimal (b ∷ bytes)) (b ∷ bytes)
run_natural b bytes other some = rw (take_is_run is_decimal (b ∷ bytes), drop_is_after is_decimal (b ∷ bytes)) (by_test (is_decimal b) refl)
  where
    by_test : (t : Bool) → is_decimal b ≡ t → Natural (digits_value 10 (run is_decimal (b ∷ bytes))) (run is_decimal (b ∷ bytes)) (b ∷ bytes) (after_run is_decimal (b ∷ bytes)) × (0 < digits_value 10 (run is_decimal (b ∷ bytes)))
    by_test true passes = (
      record {
        digits = record { some = run_some is_decimal (b ∷ bytes) passes; passes = run_passes is_decimal (b ∷ bytes) };
        value = refl;
        spells = spelling.positive (is_more b other passes) refl refl;
      },
      rw passes (above_0 b (run is_decimal bytes) (is_more b other passes)),
    )
    by_test false passes = let none : prefix_len is_decimal (b ∷ bytes) ≡ 0 = rw passes refl in absurd (omega arith)

pub natural_stands : (bytes : List ℕ) → 0 < natural_len bytes → Natural (digits_value 10 (take (natural_len bytes) bytes)) (take (natural_len bytes) bytes) bytes (drop (natural_len bytes) bytes)
natural_stands [] some = absurd (omega arith)
natural_stands (b ∷ bytes) some = by_test (b == 48) refl (eqb-true b 48) some
  where
    by_test : (t : Bool) → (b == 48) ≡ t → (t ≡ true → b ≡ 48) → 0 < cond t 1 (prefix_len is_decimal (b ∷ bytes))
        → Natural (digits_value 10 (take (cond t 1 (prefix_len is_decimal (b ∷ bytes))) (b ∷ bytes))) (take (cond t 1 (prefix_len is_decimal (b ∷ bytes))) (b ∷ bytes)) (b ∷ bytes) (drop (cond t 1 (prefix_len is_decimal (b ∷ bytes))) (b ∷ bytes))
    by_test true e is some = rw (is refl) (record { digits = record { some = omega arith; passes = refl }; value = refl; spells = spelling.nought refl refl })
    by_test false e is some = (run_natural b bytes e some).0

pub positive_stands : (bytes : List ℕ) → 0 < positive_len bytes → Run (positive_len bytes) bytes
positive_stands [] some = absurd (omega arith)
positive_stands (b ∷ bytes) some = by_test (b == 48) refl some
  where
    by_test : (t : Bool) → (b == 48) ≡ t → 0 < cond t 0 (prefix_len is_decimal (b ∷ bytes)) → Run (cond t 0 (prefix_len is_decimal (b ∷ bytes))) (b ∷ bytes)
    by_test true e some = absurd (omega arith)
    by_test false e some = run_natural b bytes e some

-- ---- what they mean

pub passing : IsNumeralModel (λ ds. list_all is_decimal ds ≡ true) (digits_value 10)
passing = numerals_by_value (λ ds. list_all is_decimal ds ≡ true) (search rules)

-- neither a minus nor an `x` is a digit
pub no_sign : (ds : List ℕ) (i : ℕ) → list_all is_decimal ds ≡ true → ((slice_index ds i == 45) ≡ false) × ((slice_index ds i == 120) ≡ false)
no_sign [] i passes = (refl, refl)
no_sign (c ∷ ds) zero passes = (no_minus c (and_parts (is_decimal c) (list_all is_decimal ds) passes).0, no_x c (and_parts (is_decimal c) (list_all is_decimal ds) passes).0)
  where
    no_minus : (c : ℕ) → is_decimal c ≡ true → (c == 45) ≡ false
    no_minus c passes = grind (arith, nat_tests)

    no_x : (c : ℕ) → is_decimal c ≡ true → (c == 120) ≡ false
    no_x c passes = grind (arith, nat_tests)
no_sign (c ∷ ds) (suc i) passes = no_sign ds i (and_parts (is_decimal c) (list_all is_decimal ds) passes).1

magnitude_is : (ds : List ℕ) → list_all is_decimal ds ≡ true → magnitude ds ≡ digits_value 10 ds
magnitude_is ds passes = rw ((no_sign ds 1 passes).1) refl

-- what a word of digits stands for, and whether it has 64 bits
pub plain_means : (ds : List ℕ) (n : ℕ) → Digits ds → digits_value 10 ds ≡ n → (whole_number ds ≡ pos n) × (is_in_range ds ≡ is_signed 63 (pos n))
plain_means ds n is value = rw ((no_sign ds 0 is.passes).0, magnitude_is ds is.passes, value) (refl, within n)
  where
    within : (n : ℕ) → nat_le n (2 ^ 63 - 1) ≡ nat_lt n (2 ^ 63)
    within n = grind (arith, nat_tests)

pub minus_means : (ds : List ℕ) (n : ℕ) → Digits ds → digits_value 10 ds ≡ suc n → (whole_number (45 ∷ ds) ≡ negsuc n) × (is_in_range (45 ∷ ds) ≡ is_signed 63 (negsuc n))
minus_means ds n is value = rw (magnitude_is ds is.passes, value) (refl, within n)
  where
    within : (n : ℕ) → nat_le (suc n) (2 ^ 63) ≡ nat_lt n (2 ^ 63)
    within n = grind (arith, nat_tests)

-- ---- words of numbers

-- a word of digits, maybe after a minus, and the number that it says
pub record Says (bytes word rest : List ℕ) : Type 0 where
  pub form : IsForm kinds.Number word
  pub number : NumberSpells (whole_number word) bytes rest
  pub range : is_in_range word ≡ is_signed 63 (whole_number word)

plain_says : (bytes word rest : List ℕ) (n : ℕ) → Natural n word bytes rest → Says bytes word rest
plain_says bytes word rest n is =
    let means = plain_means word n is.digits is.value in
    record { form = inl (inl (is.digits.some, is.digits.passes)); number = spelling.natural n means.0 is.spells; range = means.1 ∙ ap (is_signed 63) (sym means.0) }

minus_says : (inside ds rest : List ℕ) (n : ℕ) → 0 < n → Natural n ds inside rest → Says (45 ∷ inside) (45 ∷ ds) rest
minus_says inside ds rest zero some is = absurd (omega arith)
minus_says inside ds rest (suc n) some is =
    let means = minus_means ds n is.digits is.value in
    record { form = inr (ds, refl, inl (is.digits.some, is.digits.passes)); number = spelling.negative n inside means.0 refl is.spells; range = means.1 ∙ ap (is_signed 63) (sym means.0) }

some_digits : {A : Type 0} (n : ℕ) (left : List ℕ) (r : Read A) (x : A × List ℕ) → cond (n == 0) (unexpected left) r ≡ Ok x → (0 < n) × (r ≡ Ok x)
some_digits n left r x e = by_test (n == 0) (above n) e
  where
    above : (n : ℕ) → (n == 0) ≡ false → 0 < n
    above n h = grind (arith, nat_tests)

    by_test : (t : Bool) → (t ≡ false → 0 < n) → cond t (unexpected left) r ≡ Ok x → (0 < n) × (r ≡ Ok x)
    by_test true some e = absurd cc
    by_test false some e = (some refl, e)

cut : (k n : ℕ) (bytes word rest : List ℕ) → k ≡ n → word_of k bytes ≡ Ok (word, rest) → (take n bytes ≡ word) × (drop n bytes ≡ rest)
cut k n bytes word rest same e =
    let parts = gives (take k bytes) word (drop k bytes) rest e in
    (ap (λ i. take i bytes) (sym same) ∙ parts.0, ap (λ i. drop i bytes) (sym same) ∙ parts.1)

says : (bytes a word b rest : List ℕ) → a ≡ word → b ≡ rest → Says bytes a b → Says bytes word rest
says bytes a word b rest one two s = subst (λ (w : List ℕ). Says bytes w rest) one (subst (Says bytes a) two s)

pub word_says : (bytes word rest : List ℕ) → number_word_at bytes ≡ Ok (word, rest) → Says bytes word rest
unfolding number_word_at
word_says [] word rest h = absurd cc
word_says (b ∷ bytes) word rest h = by_test (b == 45) (eqb-true b 45) h
  where
    by_test : (t : Bool) → (t ≡ true → b ≡ 45) → cond (cond t (positive_len bytes) (natural_len (b ∷ bytes)) == 0) (unexpected (cond t bytes (b ∷ bytes))) (word_of (length (b ∷ bytes) - length (cond t bytes (b ∷ bytes)) + cond t (positive_len bytes) (natural_len (b ∷ bytes))) (b ∷ bytes)) ≡ Ok (word, rest) → Says (b ∷ bytes) word rest
    by_test true is e =
        let some = some_digits (positive_len bytes) bytes _ (word, rest) e in
        let parts = cut (length (b ∷ bytes) - length bytes + positive_len bytes) (suc (positive_len bytes)) (b ∷ bytes) word rest (omega arith) some.1 in
        let stands = positive_stands bytes some.0 in
        let minus = minus_says bytes (take (positive_len bytes) bytes) (drop (positive_len bytes) bytes) (digits_value 10 (take (positive_len bytes) bytes)) stands.1 stands.0 in
        says (b ∷ bytes) (b ∷ take (positive_len bytes) bytes) word (drop (positive_len bytes) bytes) rest parts.0 parts.1
        (subst (λ (c : ℕ). Says (c ∷ bytes) (c ∷ take (positive_len bytes) bytes) (drop (positive_len bytes) bytes)) (sym (is refl)) minus)
    by_test false is e =
        let some = some_digits (natural_len (b ∷ bytes)) (b ∷ bytes) _ (word, rest) e in
        let len : ℕ = natural_len (b ∷ bytes) in
        let parts = cut (length (b ∷ bytes) - length (b ∷ bytes) + len) len (b ∷ bytes) word rest (omega arith) some.1 in
        says (b ∷ bytes) (take len (b ∷ bytes)) word (drop len (b ∷ bytes)) rest parts.0 parts.1 (plain_says (b ∷ bytes) (take len (b ∷ bytes)) (drop len (b ∷ bytes)) (digits_value 10 (take len (b ∷ bytes))) (natural_stands (b ∷ bytes) some.0))

pub word_form : (bytes word rest : List ℕ) → number_word_at bytes ≡ Ok (word, rest) → IsForm kinds.Number word
word_form bytes word rest h = (word_says bytes word rest h).form

pub number_stands : (n : ℤ) (bytes rest : List ℕ) → integer_at bytes ≡ Ok (n, rest) → NumberSpells n bytes rest
unfolding integer_at
number_stands n bytes rest e =
    let word = bind_gave (number_word_at bytes) (λ w. cond (is_in_range w.0) (read_ok (whole_number w.0) w.1) (out_of_range bytes)) (n, rest) e in
    by_test word.0.0 word.0.1 (word_says bytes word.0.0 word.0.1 word.1) (is_in_range word.0.0) word.2
  where
    by_test : (word after : List ℕ) → Says bytes word after → (t : Bool) → cond t (read_ok (whole_number word) after) (out_of_range bytes) ≡ read_ok n rest → NumberSpells n bytes rest
    by_test word after s true e =
        let same = gives (whole_number word) n after rest e in
        subst (λ (m : ℤ). NumberSpells m bytes rest) same.0 (subst (NumberSpells (whole_number word) bytes) same.1 s.number)
    by_test word after s false e = absurd cc
