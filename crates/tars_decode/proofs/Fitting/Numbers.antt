-- A number that is read is in the range of its type.
use Rattle.std.proofs.Common.{◌≡◌, ◌<◌, ◌≤◌, ◌^◌, ◌-◌, ℕ, suc, Bool, true, false, cond, ltb, ℤ, pos, negsuc, List, Some, Ok, refl, sym, ap, ◌∙◌, arith}
use Rattle.std.specs.Int.{w8, w16, w32, w64, from_be_bytes, cast_signed}
use Rattle.std.proofs.lemmas.Bool.{lt-ltb}
use Rattle.std.proofs.lemmas.Bool.Decides.{nat_tests}
use Rattle.wire_words.specs.Tree.{WireNumber, zero_tag, int1, int2, int4, int8}
use Rattle.tars_model.specs.Declarations.{Declared}
use Rattle.tars_model.specs.Types.{TyLayer}
use Rattle.tars_model.specs.Values.{told, is_signed, is_number_of, is_bool}
use Rattle.tars_model.specs.declared.ty.Ty.{Ty, out-Ty}
use Rattle.tars_model.specs.declared.ty.Ty.TheOpen as ty
use Rattle.tars_model.specs.declared.value.Value.{Value}
use Rattle.tars_model.specs.declared.value.Value.TheVariants as values
use Rattle.tars_model.proofs.ToldLaws.{told_fits_bool, told_fits_num}
use Rattle.tars_wire.specs.declared.wire_type.WireType.{WireType}
use Rattle.tars_wire.specs.Left.{value_of_number}
use Rattle.tars_wire.specs.Spelled.{Number, is_zero_tag, is_int1, is_int2, is_int4, is_int8}
use Rattle.tars_decode.specs.declared.refuse.Misfit.TheVariants.{WrongType, Range}
use Rattle.tars_decode.specs.Reads.{Read, misfit, bytes_of, most_bytes, in_range, number_value, is_within, number_as}

-- ---- what a kind holds

negative : (a b : ℕ) → a - suc b < a → ltb (a - suc b) a ≡ true
negative a b h = lt-ltb (a - suc b) a h

signed_8 : (n : ℕ) → is_signed 7 (cast_signed w8 n) ≡ true
signed_8 n = go (ltb n 128) refl
  where
    go : (b : Bool) → ltb n 128 ≡ b → is_signed 7 (cond b (pos n) (negsuc (256 - suc n))) ≡ true
    go true e = e
    go false e = grind (arith, nat_tests)

signed_16 : (n : ℕ) → is_signed 15 (cast_signed w16 n) ≡ true
signed_16 n = go (ltb n 32768) refl
  where
    go : (b : Bool) → ltb n 32768 ≡ b → is_signed 15 (cond b (pos n) (negsuc (65536 - suc n))) ≡ true
    go true e = e
    go false e = grind (arith, nat_tests)

signed_32 : (n : ℕ) → is_signed 31 (cast_signed w32 n) ≡ true
signed_32 n = go (ltb n 2147483648) refl
  where
    go : (b : Bool) → ltb n 2147483648 ≡ b → is_signed 31 (cond b (pos n) (negsuc (4294967296 - suc n))) ≡ true
    go true e = e
    go false e = grind (arith, nat_tests)

signed_64 : (n : ℕ) → is_signed 63 (cast_signed w64 n) ≡ true
signed_64 n = go (ltb n 9223372036854775808) refl
  where
    go : (b : Bool) → ltb n 9223372036854775808 ≡ b → is_signed 63 (cond b (pos n) (negsuc (18446744073709551616 - suc n))) ≡ true
    go true e = e
    go false e = grind (arith, nat_tests)

-- the bits of a kind beside its sign
abbrev kind_bits : WireNumber → ℕ
kind_bits zero_tag = 7
kind_bits (int1 n) = 7
kind_bits (int2 n) = 15
kind_bits (int4 n) = 31
kind_bits (int8 n) = 63

in_kind : {type : WireType} {n : WireNumber} {w rest : List ℕ} → Number type n w rest → is_signed (kind_bits n) (value_of_number n) ≡ true
in_kind is_zero_tag = refl
in_kind (is_int1 {bytes = bytes} bs e) = signed_8 (from_be_bytes w8 bytes)
in_kind (is_int2 {bytes = bytes} bs e) = signed_16 (from_be_bytes w16 bytes)
in_kind (is_int4 {bytes = bytes} bs e) = signed_32 (from_be_bytes w32 bytes)
in_kind (is_int8 {bytes = bytes} bs e) = signed_64 (from_be_bytes w64 bytes)

-- what fewer bits hold, more do
less : (n a b : ℕ) → a ≤ b → ltb n a ≡ true → ltb n b ≡ true
less n a b le e = grind (arith, nat_tests)

wider : (a b : ℕ) (z : ℤ) → 2 ^ a ≤ 2 ^ b → is_signed a z ≡ true → is_signed b z ≡ true
wider a b (pos n) le e = less n (2 ^ a) (2 ^ b) le e
wider a b (negsuc n) le e = less n (2 ^ a) (2 ^ b) le e

in_one : (n : WireNumber) → is_signed (kind_bits n) (value_of_number n) ≡ true → is_within (bytes_of n) (Some 1) ≡ true → is_signed 7 (value_of_number n) ≡ true
in_one zero_tag e f = refl
in_one (int1 z) e f = e
in_one (int2 z) e f = absurd cc
in_one (int4 z) e f = absurd cc
in_one (int8 z) e f = absurd cc

in_two : (n : WireNumber) → is_signed (kind_bits n) (value_of_number n) ≡ true → is_within (bytes_of n) (Some 2) ≡ true → is_signed 15 (value_of_number n) ≡ true
in_two zero_tag e f = refl
in_two (int1 z) e f = wider 7 15 z (omega arith) e
in_two (int2 z) e f = e
in_two (int4 z) e f = absurd cc
in_two (int8 z) e f = absurd cc

in_four : (n : WireNumber) → is_signed (kind_bits n) (value_of_number n) ≡ true → is_within (bytes_of n) (Some 4) ≡ true → is_signed 31 (value_of_number n) ≡ true
in_four zero_tag e f = refl
in_four (int1 z) e f = wider 7 31 z (omega arith) e
in_four (int2 z) e f = wider 15 31 z (omega arith) e
in_four (int4 z) e f = e
in_four (int8 z) e f = absurd cc

in_eight : (n : WireNumber) → is_signed (kind_bits n) (value_of_number n) ≡ true → is_signed 63 (value_of_number n) ≡ true
in_eight zero_tag e = refl
in_eight (int1 z) e = wider 7 63 z (omega arith) e
in_eight (int2 z) e = wider 15 63 z (omega arith) e
in_eight (int4 z) e = wider 31 63 z (omega arith) e
in_eight (int8 z) e = e

-- ---- what a type holds

abbrev ok_value : Value → Read Value
ok_value v = Ok v

ok_is : (x y : Value) → ok_value x ≡ ok_value y → x ≡ y
ok_is x y e = cc

tests_are : (b c : Bool) (v x : Value) → cond b (cond c (Ok v) (misfit Range)) (misfit WrongType) ≡ ok_value x → (b ≡ true) × (c ≡ true) × (v ≡ x)
tests_are true true v x e = (refl, refl, ok_is v x e)
tests_are true false v x e = absurd cc
tests_are false c v x e = absurd cc

module _ (n : WireNumber) (in_bits : is_signed (kind_bits n) (value_of_number n) ≡ true) (d : Declared) (t : Ty) (x : Value) where
  fits_number : (l : TyLayer) → out-Ty t ≡ l → values.Num (value_of_number n) ≡ x → is_number_of l (value_of_number n) ≡ true → (told x).fits d t ≡ true
  fits_number l is e good = told_fits_num x d t (value_of_number n) (sym e) ∙ (ap (λ k. is_number_of k (value_of_number n)) is ∙ good)

  by_layer : (l : TyLayer) → out-Ty t ≡ l → is_within (bytes_of n) (most_bytes l) ≡ true → in_range l (value_of_number n) ≡ true → number_value l (value_of_number n) ≡ x → (told x).fits d t ≡ true
  by_layer ty.Bool is within range e = told_fits_bool x d t _ (sym e) ∙ ap is_bool is
  by_layer ty.Byte is within range e = fits_number ty.Byte is e (in_one n in_bits within)
  by_layer ty.Short is within range e = fits_number ty.Short is e (in_two n in_bits within)
  by_layer ty.Int is within range e = fits_number ty.Int is e (in_four n in_bits within)
  by_layer ty.Long is within range e = fits_number ty.Long is e (in_eight n in_bits)
  by_layer ty.UByte is within range e = fits_number ty.UByte is e range
  by_layer ty.UShort is within range e = fits_number ty.UShort is e range
  by_layer ty.UInt is within range e = fits_number ty.UInt is e range
  by_layer (ty.Enum k) is within range e = fits_number (ty.Enum k) is e (in_four n in_bits within)
  by_layer ty.Text is within range e = absurd cc
  by_layer (ty.Struct k) is within range e = absurd cc
  by_layer (ty.Vector of) is within range e = absurd cc
  by_layer (ty.Map key to) is within range e = absurd cc

pub number_fits : {type : WireType} {n : WireNumber} {w rest : List ℕ} → Number type n w rest → (d : Declared) (t : Ty) (x : Value) → number_as n (out-Ty t) ≡ Ok x → (told x).fits d t ≡ true
number_fits {type} {n} number d t x e =
    let h = tests_are (is_within (bytes_of n) (most_bytes (out-Ty t))) (in_range (out-Ty t) (value_of_number n)) (number_value (out-Ty t) (value_of_number n)) x e in
    by_layer n (in_kind number) d t x (out-Ty t) refl h.0 h.1 h.2
