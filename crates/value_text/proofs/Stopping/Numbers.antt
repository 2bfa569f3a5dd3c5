-- Numbers in which reading gets stuck.
use Rattle.std.proofs.Common.{◌≡◌, ◌+◌, ◌-◌, ℕ, ℤ, pos, negsuc, Bool, true, false, ◌==◌, ◌||◌, cond, List, [], ◌∷◌, length, take, drop, Err, refl, sym, ap, ◌∙◌, subst, arith}
use Rattle.std.proofs.lemmas.Bool.{eqb-true}
use Rattle.std.proofs.lemmas.Bool.Decides.{nat_tests}
use Rattle.std.specs.List.{prefix_len}
use Rattle.std.specs.Str.Parse.{digits_value}
use Rattle.idl_lex.specs.Bytes.{begins}
use Rattle.idl_lex.specs.Forms.{is_in_range}
use Rattle.idl_lex.specs.Meanings.{whole_number}
use Rattle.value_text.specs.Answers.{IsEnd}
use Rattle.value_text.specs.ReadSteps.{unexpected, out_of_range, natural_len, positive_len, word_of, number_word_at, integer_at}
use Rattle.value_text.specs.Spelling.{is_decimal, is_positive, NaturalSpells, NumberSpells}
use Rattle.value_text.specs.Spelling as spelling
use Rattle.value_text.specs.declared.value_fault.ValueWhy.{ValueWhy}
use Rattle.value_text.specs.declared.value_fault.ValueWhy.TheVariants.{Unexpected, Range}
use Rattle.value_text.proofs.Moving.Runs.{run_stops, after_stops}
use Rattle.value_text.proofs.PrintedSpells.{no_decimal}
use Rattle.value_text.proofs.Signs.{read_ok, true_is_not_false, false_is_not_true}
use Rattle.value_text.proofs.Stopping.Languages.{Language, Stuck, none_of}
use Rattle.value_text.proofs.Stopping.Signs.{stop, stops_so, Stops, before, after, step_stops}

abbrev pub Numbers : Language
Numbers bytes rest = (n : ℤ) × NumberSpells n bytes rest

-- ---- what may follow

pub nought : (tail : List ℕ) → NumberSpells (pos 0) (48 ∷ tail) tail
nought tail = spelling.natural 0 refl (spelling.nought refl refl)

minus_one : (tail : List ℕ) → IsEnd tail → NumberSpells (negsuc 0) (45 ∷ 49 ∷ tail) tail
minus_one tail ends =
    let stops = no_decimal tail ends in
    spelling.negative 0 (49 ∷ tail) refl refl
    (spelling.positive refl (ap (digits_value 10) (sym (run_stops is_decimal (49 ∷ []) tail refl stops))) (sym (after_stops is_decimal (49 ∷ []) tail refl stops)))

-- ---- what a number begins with

digit_first : (b : ℕ) → is_positive b ≡ true → (is_decimal b || b == 45) ≡ true
digit_first b more = grind (arith, nat_tests)

abbrev is_first : ℕ → Bool
is_first b = is_decimal b || b == 45

positive_first : (bytes : List ℕ) → begins is_positive bytes ≡ true → begins is_first bytes ≡ true
positive_first [] more = absurd cc
positive_first (b ∷ bytes) more = digit_first b more

number_first : (n : ℤ) (bytes rest : List ℕ) → NumberSpells n bytes rest → begins is_first bytes ≡ true
number_first n bytes rest (spelling.natural m is (spelling.nought none text)) = ap (begins is_first) text
number_first n bytes rest (spelling.natural m is (spelling.positive more value stops)) = positive_first bytes more
number_first n bytes rest (spelling.negative m inside is text s) = ap (begins is_first) text

-- after a minus
minus_first : (n : ℤ) (bytes rest : List ℕ) → NumberSpells n (45 ∷ bytes) rest → begins is_positive bytes ≡ true
minus_first n bytes rest (spelling.natural m is (spelling.nought none text)) = absurd (true_is_not_false (ap (begins (λ b. b == 45)) text))
minus_first n bytes rest (spelling.natural m is (spelling.positive more value stops)) = absurd (false_is_not_true more)
minus_first n bytes rest (spelling.negative m inside is text (spelling.nought none inner)) = absurd (omega arith)
minus_first n bytes rest (spelling.negative m inside is text (spelling.positive more value stops)) = ap (begins is_positive) (ap (drop 1) text) ∙ more

-- ---- where no digit comes

none_counted : (test : ℕ → Bool) (b : ℕ) (bytes : List ℕ) → prefix_len test (b ∷ bytes) ≡ 0 → test b ≡ false
none_counted test b bytes none = by_test (test b) refl
  where
    by_test : (t : Bool) → test b ≡ t → t ≡ false
    by_test true is = let some : prefix_len test (b ∷ bytes) ≡ 1 + prefix_len test bytes = rw is refl in absurd (omega arith)
    by_test false is = refl

no_positive : (bytes : List ℕ) → positive_len bytes ≡ 0 → begins is_positive bytes ≡ false
no_positive [] none = refl
no_positive (b ∷ bytes) none = by_test (b == 48) refl none
  where
    zero_is_not : (b : ℕ) → (b == 48) ≡ true → is_positive b ≡ false
    zero_is_not b is = grind (arith, nat_tests)

    other_is_not : (b : ℕ) → is_decimal b ≡ false → is_positive b ≡ false
    other_is_not b is = grind (arith, nat_tests)

    by_test : (t : Bool) → (b == 48) ≡ t → cond t 0 (prefix_len is_decimal (b ∷ bytes)) ≡ 0 → is_positive b ≡ false
    by_test true is none = zero_is_not b is
    by_test false is none = other_is_not b (none_counted is_decimal b bytes none)

no_digit : (b : ℕ) (bytes : List ℕ) → natural_len (b ∷ bytes) ≡ 0 → is_decimal b ≡ false
no_digit b bytes none = by_test (b == 48) none
  where
    by_test : (t : Bool) → cond t 1 (prefix_len is_decimal (b ∷ bytes)) ≡ 0 → is_decimal b ≡ false
    by_test true none = absurd (omega arith)
    by_test false none = none_counted is_decimal b bytes none

-- ---- words of numbers

stuck_after_minus : (bytes : List ℕ) → positive_len bytes ≡ 0 → Stuck IsEnd Numbers (45 ∷ bytes) bytes
stuck_after_minus bytes none = record {
  front = 45 ∷ [];
  is = refl;
  more = 49 ∷ [];
  goes_on = λ tail ends. (negsuc 0, minus_one tail ends);
  blocked = λ other rest agree s. none_of is_positive bytes other (no_positive bytes none) agree (minus_first s.0 other rest s.1);
}

stuck_at_digit : (bytes : List ℕ) → begins is_first bytes ≡ false → Stuck IsEnd Numbers bytes bytes
stuck_at_digit bytes none = record {
  front = [];
  is = refl;
  more = 48 ∷ [];
  goes_on = λ tail ends. (pos 0, nought tail);
  blocked = λ other rest agree s. none_of is_first bytes other none agree (number_first s.0 other rest s.1);
}

no_digits_read : {A : Type 0} (n : ℕ) (body left : List ℕ) (why : ValueWhy) (x : A) (rest : List ℕ) → cond (n == 0) (unexpected body) (read_ok x rest) ≡ Err (stop left why) → (n ≡ 0) × (body ≡ left)
no_digits_read {A = A} n body left why x rest e = by_test (n == 0) (eqb-true n 0) e
  where
    by_test : (t : Bool) → (t ≡ true → n ≡ 0) → cond t (unexpected body) (read_ok x rest) ≡ Err (stop left why) → (n ≡ 0) × (body ≡ left)
    by_test true is e = (is refl, (stops_so {A = A × List ℕ} body left Unexpected why e).0)
    by_test false is e = absurd cc

stuck_in_digits : (bytes left : List ℕ) (why : ValueWhy) → number_word_at bytes ≡ Err (stop left why) → Stuck IsEnd Numbers bytes left
unfolding number_word_at
stuck_in_digits [] left why e = subst (Stuck IsEnd Numbers []) (stops_so {A = List ℕ × List ℕ} [] left Unexpected why e).0 (stuck_at_digit [] refl)
stuck_in_digits (b ∷ bytes) left why e = by_minus (b == 45) refl (eqb-true b 45) e
  where
    by_minus : (t : Bool) → (b == 45) ≡ t → (t ≡ true → b ≡ 45) → cond (cond t (positive_len bytes) (natural_len (b ∷ bytes)) == 0) (unexpected (cond t bytes (b ∷ bytes))) (word_of (length (b ∷ bytes) - length (cond t bytes (b ∷ bytes)) + cond t (positive_len bytes) (natural_len (b ∷ bytes))) (b ∷ bytes)) ≡ Err (stop left why) → Stuck IsEnd Numbers (b ∷ bytes) left
    by_minus true test is e =
        let none = no_digits_read (positive_len bytes) bytes left why (take (length (b ∷ bytes) - length bytes + positive_len bytes) (b ∷ bytes)) (drop (length (b ∷ bytes) - length bytes + positive_len bytes) (b ∷ bytes)) e in
        subst (λ (c : ℕ). Stuck IsEnd Numbers (c ∷ bytes) left) (sym (is refl)) (subst (Stuck IsEnd Numbers (45 ∷ bytes)) none.1 (stuck_after_minus bytes none.0))
    by_minus false test is e =
        let len : ℕ = natural_len (b ∷ bytes) in
        let none = no_digits_read len (b ∷ bytes) left why (take (length (b ∷ bytes) - length (b ∷ bytes) + len) (b ∷ bytes)) (drop (length (b ∷ bytes) - length (b ∷ bytes) + len) (b ∷ bytes)) e in
        let other = no_digit b bytes none.0 in
        subst (Stuck IsEnd Numbers (b ∷ bytes)) none.1 (stuck_at_digit (b ∷ bytes) (rw (other, test) refl))

-- a range is no unexpected byte
pub in_range : {A : Type 0} (t : Bool) (x : A) (rest bytes left : List ℕ) → cond t (read_ok x rest) (out_of_range bytes) ≡ Err (stop left Unexpected) → ⊥
in_range true x rest bytes left e = cc
in_range {A = A} false x rest bytes left e = differ (stops_so {A = A × List ℕ} bytes left Range Unexpected e).1
  where
    differ : Range ≡ Unexpected → ⊥
    differ e = cc

-- a number that is read to its end is in range, or stops for its range
pub stuck_in_number : (bytes left : List ℕ) → integer_at bytes ≡ Err (stop left Unexpected) → Stuck IsEnd Numbers bytes left
unfolding integer_at
stuck_in_number bytes left e = by_step (step_stops (number_word_at bytes) (λ w. cond (is_in_range w.0) (read_ok (whole_number w.0) w.1) (out_of_range bytes)) (stop left Unexpected) e)
  where
    by_step : Stops (number_word_at bytes) (λ w. cond (is_in_range w.0) (read_ok (whole_number w.0) w.1) (out_of_range bytes)) (stop left Unexpected) → Stuck IsEnd Numbers bytes left
    by_step (before e) = stuck_in_digits bytes left Unexpected e
    by_step (after w is e) = absurd (in_range (is_in_range w.0) (whole_number w.0) w.1 bytes left e)
