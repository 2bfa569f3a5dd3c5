-- Numbers that the code can read.
use Rattle.std.proofs.Common.{◌≡◌, ◌^◌, ◌-◌, ◌==◌, drop, ℕ, ℤ, zero, suc, pos, negsuc, Bool, true, false, cond, Option, Some, None, is_some, List, unwrap_or, refl, arith}
use Rattle.std.proofs.lemmas.Bool.Decides.{nat_tests}
use Rattle.std.specs.Prelude.{nat_le, slice_index, IfSome}
use Rattle.tars_model.specs.Values.{is_signed, is_unsigned}
use Rattle.idl_lex.specs.Forms.{magnitude, is_in_range}
use Rattle.idl_lex.specs.Meanings.{negative, whole_number}

negative_within : (n : ℕ) → is_signed 63 (negative n) ≡ true → nat_le n (2 ^ 63) ≡ true
negative_within zero e = refl
negative_within (suc n) e = e

pub in_range : (bytes : List ℕ) → is_signed 63 (whole_number bytes) ≡ true → is_in_range bytes ≡ true
in_range bytes e = by_sign (slice_index bytes 0 == 45) e
  where
    by_sign : (b : Bool) → is_signed 63 (cond b (negative (magnitude (drop 1 bytes))) (pos (magnitude bytes))) ≡ true
        → cond b (nat_le (magnitude (drop 1 bytes)) (2 ^ 63)) (nat_le (magnitude bytes) (2 ^ 63 - 1)) ≡ true
    by_sign true e = negative_within (magnitude (drop 1 bytes)) e
    by_sign false e = grind (arith, nat_tests)

pub the_number : (o : Option ℤ) (n : ℤ) (d : ℤ) → is_some o ≡ true → IfSome o (λ m. m ≡ n) → unwrap_or o d ≡ n
the_number (Some m) n d some is = is
the_number None n d some is = absurd cc

pub byte_is_long : (z : ℤ) → is_unsigned 8 z ≡ true → is_signed 63 z ≡ true
byte_is_long (pos n) e = grind (arith, nat_tests)
byte_is_long (negsuc n) e = absurd cc
