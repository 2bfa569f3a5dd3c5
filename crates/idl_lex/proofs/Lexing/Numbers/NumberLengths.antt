-- Numbers and fractions: no longer one stands where one is found.
use Rattle.std.proofs.Common.{◌≡◌, ℕ, ◌-◌, ◌^◌, ◌<◌, ◌≤◌, Bool, true, cond, eqb, List, [], ◌∷◌, ◌++◌, length, drop, Some, refl, sym, ap, ◌∙◌, subst, inl, inr, arith, append_assoc}
use Rattle.std.proofs.lemmas.Bool.{cases_Bool, and_parts, or_right}
use Rattle.std.specs.List.{list_all}
use Rattle.idl_lex.specs.declared.kind.Kind.{Kind}
use Rattle.idl_lex.specs.declared.kind.Kind.TheVariants as kind
use Rattle.idl_lex.specs.Bytes.{begins}
use Rattle.idl_lex.specs.Forms.{AreDigits, IsWhole, IsPointed, MayBeMinus}
use Rattle.idl_lex.specs.LexSteps.{after_run, hexadecimal_at, begins_part, decimal_at, begins_hexadecimal, unsigned_at, number_at, token_at}
use Rattle.idl_lex.proofs.Lexing.Lexemes.Dominating.{Dominates}
use Rattle.idl_lex.proofs.Lexing.Words.RunLaws.{after_over, after_within}
use Rattle.idl_lex.proofs.Lexing.Numbers.NumberLaws.{is_decimal, is_hex, digit_is_not, digit_no_letter, part_prefix, no_hexadecimal, hexadecimal_short}

-- ---- no longer one stands there

-- the found one leaves no more than a rest
within : (test : ℕ → Bool) (bytes rest : List ℕ) → length bytes ≤ length rest → length (after_run test bytes) ≤ length rest
within test bytes rest h = omega (arith, after_within test bytes)

-- after digits: a fraction leaves less than the digits do
decimal_dominates : (in_range : Bool) (rest : List ℕ) → Dominates (Some (cond (begins_part (after_run is_decimal rest)) (kind.Fraction, true, after_run is_decimal (drop 1 (after_run is_decimal rest))) (kind.Number, in_range, after_run is_decimal rest))) kind.Number rest
decimal_dominates in_range rest =
    elim (cases_Bool (begins_part (after_run is_decimal rest))) [
      | inl part ↦
          let prefix = part_prefix (after_run is_decimal rest) part in
          let shorter : length (after_run is_decimal (drop 1 (after_run is_decimal rest))) < length rest =
          omega (arith, after_within is_decimal rest, after_within is_decimal (drop 1 (after_run is_decimal rest)), ap length prefix.0) in
          rw part (omega arith, λ same. absurd (omega arith))
      | inr other ↦ rw other (within is_decimal rest rest (omega arith), λ _. refl)
    ]

digits_dominate : (most : ℕ) (digits rest : List ℕ) → AreDigits 10 digits → Dominates (unsigned_at most (digits ++ rest)) kind.Number rest
unfolding unsigned_at hexadecimal_at decimal_at
digits_dominate most [] rest is = absurd (omega (arith, is.0))
digits_dominate most (d ∷ digits) rest is =
    let all = and_parts (is_decimal d) (list_all is_decimal digits) is.1 in
    elim (cases_Bool (begins_hexadecimal (d ∷ (digits ++ rest)))) [
      | inl hex ↦ rw hex (within is_hex (drop 2 (d ∷ (digits ++ rest))) rest (hexadecimal_short d digits rest all.1 hex), λ _. refl)
      | inr other ↦ rw (other, all.0, after_over is_decimal digits rest all.1) (decimal_dominates _ rest)
    ]

hexadecimal_dominates : (most : ℕ) (digits rest : List ℕ) → AreDigits 16 digits → Dominates (unsigned_at most (48 ∷ 120 ∷ (digits ++ rest))) kind.Number rest
unfolding unsigned_at hexadecimal_at
hexadecimal_dominates most [] rest is = absurd (omega (arith, is.0))
hexadecimal_dominates most (h ∷ digits) rest is =
    let all = and_parts (is_hex h) (list_all is_hex digits) is.1 in
    rw all.0 (rw (after_over is_hex digits rest all.1) (within is_hex rest rest (omega arith)), λ _. refl)

fraction_dominates : (most : ℕ) (whole part rest : List ℕ) → AreDigits 10 whole → AreDigits 10 part → Dominates (unsigned_at most (whole ++ (46 ∷ (part ++ rest)))) kind.Fraction rest
unfolding unsigned_at decimal_at
fraction_dominates most [] part rest whole_is part_is = absurd (omega (arith, whole_is.0))
fraction_dominates most whole [] rest whole_is part_is = absurd (omega (arith, part_is.0))
fraction_dominates most (d ∷ whole) (p ∷ part) rest whole_is part_is =
    let all = and_parts (is_decimal d) (list_all is_decimal whole) whole_is.1 in
    let digits = and_parts (is_decimal p) (list_all is_decimal part) part_is.1 in
    let body = 46 ∷ (p ∷ (part ++ rest)) in
    let other = no_hexadecimal d whole body all.1 refl in
    rw (other, all.0, after_over is_decimal whole body all.1, digits.0, after_over is_decimal part rest digits.1) (within is_decimal rest rest (omega arith), λ _. refl)

-- a number or fraction without its minus
abbrev pub UnsignedShape : Kind → List ℕ → Type 0
UnsignedShape kind.Number body = IsWhole body
UnsignedShape kind.Fraction body = IsPointed body
UnsignedShape _ body = ⊥

unsigned_dominates : (most : ℕ) (k : Kind) (body rest : List ℕ) → UnsignedShape k body → Dominates (unsigned_at most (body ++ rest)) k rest
unsigned_dominates most kind.Number body rest (inl digits) = digits_dominate most body rest digits
unsigned_dominates most kind.Number body rest (inr hex) =
    subst (λ (t : List ℕ). Dominates (unsigned_at most (t ++ rest)) kind.Number rest) (sym hex.1) (hexadecimal_dominates most hex.0 rest hex.2)
unsigned_dominates most kind.Fraction body rest is =
    let grouped : body ++ rest ≡ is.0 ++ (46 ∷ (is.1 ++ rest)) = ap (λ (t : List ℕ). t ++ rest) is.2 ∙ append_assoc is.0 (46 ∷ is.1) rest in
    subst (λ (t : List ℕ). Dominates (unsigned_at most t) kind.Fraction rest) (sym grouped) (fraction_dominates most is.0 is.1 rest is.3 is.4)
unsigned_dominates most _ body rest is = absurd is

-- the first byte of a number without its minus
digits_first : (digits : List ℕ) → AreDigits 10 digits → begins is_decimal digits ≡ true
digits_first [] is = absurd (omega (arith, is.0))
digits_first (d ∷ digits) is = (and_parts (is_decimal d) (list_all is_decimal digits) is.1).0

first_of_append : (test : ℕ → Bool) (whole rest : List ℕ) → begins test whole ≡ true → begins test (whole ++ rest) ≡ true
first_of_append test [] rest h = absurd (cc)
first_of_append test (b ∷ whole) rest h = h

first_digit : (k : Kind) (body : List ℕ) → UnsignedShape k body → begins is_decimal body ≡ true
first_digit kind.Number body (inl digits) = digits_first body digits
first_digit kind.Number body (inr hex) = rw hex.1 refl
first_digit kind.Fraction body is = rw is.2 (first_of_append is_decimal is.0 (46 ∷ is.1) (digits_first is.0 is.3))
first_digit _ body is = absurd is

plain_dominates : (k : Kind) (word rest : List ℕ) → UnsignedShape k word → begins is_decimal word ≡ true → Dominates (token_at (word ++ rest)) k rest
unfolding token_at number_at
plain_dominates k [] rest is digit = absurd (cc)
plain_dominates k (d ∷ word) rest is digit =
    rw (digit_no_letter d digit, or_right (eqb d 45) (is_decimal d) digit, digit_is_not d 45 digit (inl (omega arith))) (unsigned_dominates (2 ^ 63 - 1) k (d ∷ word) rest is)

minus_dominates : (k : Kind) (body rest : List ℕ) → UnsignedShape k body → Dominates (token_at (45 ∷ (body ++ rest))) k rest
unfolding token_at number_at
minus_dominates k body rest is = unsigned_dominates (2 ^ 63) k body rest is

-- a number or fraction at the start is no longer than the token that is found
pub number_dominates : (k : Kind) (word rest : List ℕ) → MayBeMinus (UnsignedShape k) word → Dominates (token_at (word ++ rest)) k rest
number_dominates k word rest (inl is) = plain_dominates k word rest is (first_digit k word is)
number_dominates k word rest (inr minus) =
    subst (λ (t : List ℕ). Dominates (token_at (t ++ rest)) k rest) (sym minus.1) (minus_dominates k minus.0 rest minus.2)
