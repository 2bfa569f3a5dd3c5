-- The shortest kind that holds a number.
use Rattle.std.proofs.Common.{◌≡◌, ◌^◌, ◌<◌, ℕ, true, false, cond, eqb, ltb-true, ltb-false, ℤ, pos, negsuc, refl, sym, ap, arith}
use Rattle.std.specs.Prelude.{FitsSigned}
use Rattle.std.specs.Int.{w8, w16, w32, w64}
use Rattle.std.proofs.lemmas.Bool.{cond_both}
use Rattle.wire_words.specs.Tree.{WireNumber, zero_tag, int1, int2, int4, int8}
use Rattle.wire_words.specs.Spelling.{fits_bits, shortest}
use Rattle.tars_wire.specs.Left.{value_of_number}
use Rattle.tars_wire.specs.Spelled.{IsSize}
use Rattle.tars_wire.specs.Writable.{IsInKind}
use Rattle.tars_wire.proofs.TestLemmas.{eqb_fact}

-- ---- the kind that is chosen

pub data IsShortest (n : ℤ) : WireNumber → Type 0 where
  in_none : n ≡ pos 0 → IsShortest n zero_tag
  in_one : fits_bits 128 n ≡ true → IsShortest n (int1 n)
  in_two : fits_bits 128 n ≡ false → fits_bits 32768 n ≡ true → IsShortest n (int2 n)
  in_four : fits_bits 128 n ≡ false → fits_bits 32768 n ≡ false → fits_bits 2147483648 n ≡ true → IsShortest n (int4 n)
  in_eight : fits_bits 128 n ≡ false → fits_bits 32768 n ≡ false → fits_bits 2147483648 n ≡ false → IsShortest n (int8 n)

abbrev larger_kinds : ℤ → WireNumber
larger_kinds n = cond (fits_bits 128 n) (int1 n) (cond (fits_bits 32768 n) (int2 n) (cond (fits_bits 2147483648 n) (int4 n) (int8 n)))

larger_is : (n : ℤ) → IsShortest n (larger_kinds n)
larger_is n =
    cond_both (fits_bits 128 n) _ _ (IsShortest n) in_one (λ past_one.
    cond_both (fits_bits 32768 n) _ _ (IsShortest n) (in_two past_one) (λ past_two.
    cond_both (fits_bits 2147483648 n) _ _ (IsShortest n) (in_four past_one past_two) (in_eight past_one past_two)))

pub shortest_is : (n : ℤ) → IsShortest n (shortest n)
unfolding shortest
shortest_is (pos n) = cond_both (eqb n 0) zero_tag (larger_kinds (pos n)) (IsShortest (pos n)) (λ is. in_none (ap pos (eqb_fact n 0 is))) (λ other. larger_is (pos n))
shortest_is (negsuc n) = larger_is (negsuc n)

-- ---- the number that stands in it

value_is : {n : ℤ} {number : WireNumber} → IsShortest n number → value_of_number number ≡ n
value_is (in_none is) = sym is
value_is (in_one fits) = refl
value_is (in_two past_one fits) = refl
value_is (in_four past_one past_two fits) = refl
value_is (in_eight past_one past_two past_four) = refl

pub shortest_value : (n : ℤ) → value_of_number (shortest n) ≡ n
shortest_value n = value_is (shortest_is n)

fits_8 : (n : ℤ) → fits_bits 128 n ≡ true → FitsSigned w8 n
unfolding fits_bits
fits_8 (pos n) e = record { sfits = ltb-true n 128 e }
fits_8 (negsuc n) e = record { sfits = ltb-true n 128 e }

fits_16 : (n : ℤ) → fits_bits 32768 n ≡ true → FitsSigned w16 n
unfolding fits_bits
fits_16 (pos n) e = record { sfits = ltb-true n 32768 e }
fits_16 (negsuc n) e = record { sfits = ltb-true n 32768 e }

fits_32 : (n : ℤ) → fits_bits 2147483648 n ≡ true → FitsSigned w32 n
unfolding fits_bits
fits_32 (pos n) e = record { sfits = ltb-true n 2147483648 e }
fits_32 (negsuc n) e = record { sfits = ltb-true n 2147483648 e }

in_kind : {n : ℤ} {number : WireNumber} → FitsSigned w64 n → IsShortest n number → IsInKind number
in_kind {n} wide (in_none is) = tt
in_kind {n} wide (in_one fits) = fits_8 n fits
in_kind {n} wide (in_two past_one fits) = fits_16 n fits
in_kind {n} wide (in_four past_one past_two fits) = fits_32 n fits
in_kind {n} wide (in_eight past_one past_two past_four) = wide

pub shortest_in_kind : (n : ℤ) → FitsSigned w64 n → IsInKind (shortest n)
shortest_in_kind n wide = in_kind wide (shortest_is n)

-- ---- sizes

zero_is : (n : ℕ) → pos n ≡ pos 0 → n ≡ 0
zero_is n e = cc

is_past : (n : ℕ) → n < 2 ^ 31 → fits_bits 2147483648 (pos n) ≡ false → ⊥
unfolding fits_bits
is_past n short e = let past = ltb-false n 2147483648 e in omega arith

is_size : (n : ℕ) {number : WireNumber} → n < 2 ^ 31 → IsShortest (pos n) number → IsSize number n
is_size n short (in_none is) = zero_is n is
is_size n short (in_one fits) = refl
is_size n short (in_two past_one fits) = refl
is_size n short (in_four past_one past_two fits) = refl
is_size n short (in_eight past_one past_two past_four) = is_past n short past_four

pub size_is : (n : ℕ) → n < 2 ^ 31 → IsSize (shortest (pos n)) n
size_is n short = is_size n short (shortest_is (pos n))
