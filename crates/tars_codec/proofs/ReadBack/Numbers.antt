-- A number or a bool is read again from the shortest kind that holds it.
use Rattle.std.proofs.Common.{◌≡◌, ◌≤◌, ◌<◌, ◌^◌, ℕ, Bool, true, false, ltb-true, ℤ, pos, negsuc, Some, Ok, refl, arith}
use Rattle.std.specs.Prelude.{FitsSigned}
use Rattle.std.specs.Int.{w64}
use Rattle.std.proofs.lemmas.Bool.Decides.{nat_tests}
use Rattle.wire_words.specs.Tree.{WireNumber}
use Rattle.wire_words.specs.Spelling.{fits_bits, shortest}
use Rattle.tars_model.specs.Types.{TyLayer}
use Rattle.tars_model.specs.Values.{is_signed, is_unsigned, is_number_of, is_bool}
use Rattle.tars_model.specs.declared.ty.Ty.TheOpen as ty
use Rattle.tars_model.specs.declared.value.Value.TheVariants as values
use Rattle.tars_wire.proofs.Writing.Shortest.{IsShortest, in_none, in_one, in_two, in_four, in_eight, shortest_is, shortest_value}
use Rattle.tars_decode.specs.Reads.{bytes_of, most_bytes, in_range, number_value, is_within, number_as}
use Rattle.tars_codec.specs.Written.{bool_number}

-- ---- in how many bytes it stands

one_byte : {n : ℤ} {number : WireNumber} → IsShortest n number → fits_bits 128 n ≡ true → is_within (bytes_of number) (Some 1) ≡ true
one_byte (in_none is) e = refl
one_byte (in_one fits) e = refl
one_byte (in_two past_one fits) e = absurd cc
one_byte (in_four past_one past_two fits) e = absurd cc
one_byte (in_eight past_one past_two past_four) e = absurd cc

two_bytes : {n : ℤ} {number : WireNumber} → IsShortest n number → fits_bits 32768 n ≡ true → is_within (bytes_of number) (Some 2) ≡ true
two_bytes (in_none is) e = refl
two_bytes (in_one fits) e = refl
two_bytes (in_two past_one fits) e = refl
two_bytes (in_four past_one past_two fits) e = absurd cc
two_bytes (in_eight past_one past_two past_four) e = absurd cc

four_bytes : {n : ℤ} {number : WireNumber} → IsShortest n number → fits_bits 2147483648 n ≡ true → is_within (bytes_of number) (Some 4) ≡ true
four_bytes (in_none is) e = refl
four_bytes (in_one fits) e = refl
four_bytes (in_two past_one fits) e = refl
four_bytes (in_four past_one past_two fits) e = refl
four_bytes (in_eight past_one past_two past_four) e = absurd cc

eight_bytes : {n : ℤ} {number : WireNumber} → IsShortest n number → is_within (bytes_of number) (Some 8) ≡ true
eight_bytes (in_none is) = refl
eight_bytes (in_one fits) = refl
eight_bytes (in_two past_one fits) = refl
eight_bytes (in_four past_one past_two fits) = refl
eight_bytes (in_eight past_one past_two past_four) = refl

signed_bits : (bits : ℕ) (n : ℤ) → is_signed bits n ≡ true → fits_bits (2 ^ bits) n ≡ true
unfolding fits_bits
signed_bits bits (pos n) e = e
signed_bits bits (negsuc n) e = e

unsigned_byte : (n : ℤ) → is_unsigned 8 n ≡ true → fits_bits 32768 n ≡ true
unfolding fits_bits
unsigned_byte (pos n) e = grind (arith, nat_tests)
unsigned_byte (negsuc n) e = absurd cc

unsigned_short : (n : ℤ) → is_unsigned 16 n ≡ true → fits_bits 2147483648 n ≡ true
unfolding fits_bits
unsigned_short (pos n) e = grind (arith, nat_tests)
unsigned_short (negsuc n) e = absurd cc

-- ---- what is read

number_is : (l : TyLayer) (n : ℤ) → is_within (bytes_of (shortest n)) (most_bytes l) ≡ true → in_range l n ≡ true → number_value l n ≡ values.Num n → number_as (shortest n) l ≡ Ok (values.Num n)
number_is l n within range is = rw (within, shortest_value n, range, is) refl

pub num_again : (l : TyLayer) (n : ℤ) → is_number_of l n ≡ true → number_as (shortest n) l ≡ Ok (values.Num n)
num_again ty.Byte n e = number_is ty.Byte n (one_byte (shortest_is n) (signed_bits 7 n e)) refl refl
num_again ty.Short n e = number_is ty.Short n (two_bytes (shortest_is n) (signed_bits 15 n e)) refl refl
num_again ty.Int n e = number_is ty.Int n (four_bytes (shortest_is n) (signed_bits 31 n e)) refl refl
num_again ty.Long n e = number_is ty.Long n (eight_bytes (shortest_is n)) refl refl
num_again ty.UByte n e = number_is ty.UByte n (two_bytes (shortest_is n) (unsigned_byte n e)) e refl
num_again ty.UShort n e = number_is ty.UShort n (four_bytes (shortest_is n) (unsigned_short n e)) e refl
num_again ty.UInt n e = number_is ty.UInt n (eight_bytes (shortest_is n)) e refl
num_again (ty.Enum number) n e = number_is (ty.Enum number) n (four_bytes (shortest_is n) (signed_bits 31 n e)) refl refl
num_again _ n e = absurd cc

pub bool_again : (l : TyLayer) (b : Bool) → is_bool l ≡ true → number_as (shortest (bool_number b)) l ≡ Ok (values.Bool b)
unfolding shortest fits_bits
bool_again ty.Bool true e = refl
bool_again ty.Bool false e = refl
bool_again _ b e = absurd cc

-- ---- all numbers stand in 64 bits

signed_wide : (bits : ℕ) (n : ℤ) → 2 ^ bits ≤ 2 ^ 63 → is_signed bits n ≡ true → FitsSigned w64 n
signed_wide bits (pos n) small e = let below : n < 2 ^ bits = ltb-true n (2 ^ bits) e in record { sfits = omega arith }
signed_wide bits (negsuc n) small e = let below : n < 2 ^ bits = ltb-true n (2 ^ bits) e in record { sfits = omega arith }

unsigned_wide : (bits : ℕ) (n : ℤ) → 2 ^ bits ≤ 2 ^ 63 → is_unsigned bits n ≡ true → FitsSigned w64 n
unsigned_wide bits (pos n) small e = let below : n < 2 ^ bits = ltb-true n (2 ^ bits) e in record { sfits = omega arith }
unsigned_wide bits (negsuc n) small e = absurd cc

pub num_wide : (l : TyLayer) (n : ℤ) → is_number_of l n ≡ true → FitsSigned w64 n
num_wide ty.Byte n e = signed_wide 7 n (omega arith) e
num_wide ty.Short n e = signed_wide 15 n (omega arith) e
num_wide ty.Int n e = signed_wide 31 n (omega arith) e
num_wide ty.Long n e = signed_wide 63 n (omega arith) e
num_wide ty.UByte n e = unsigned_wide 8 n (omega arith) e
num_wide ty.UShort n e = unsigned_wide 16 n (omega arith) e
num_wide ty.UInt n e = unsigned_wide 32 n (omega arith) e
num_wide (ty.Enum number) n e = signed_wide 31 n (omega arith) e
num_wide _ n e = absurd cc

pub bool_wide : (b : Bool) → FitsSigned w64 (bool_number b)
bool_wide true = record { sfits = omega arith }
bool_wide false = record { sfits = omega arith }
