-- What the shortest form of a number says under a type, by the number alone.
use Rattle.std.proofs.Common.{◌≡◌, ◌<◌, ◌^◌, ℕ, Bool, true, false, cond, ◌&&◌, ltb, leb, ℤ, pos, negsuc, Some, Ok, refl, sym, ap, ◌∙◌, arith}
use Rattle.std.proofs.lemmas.Bool.Decides.{nat_tests}
use Rattle.wire_words.specs.Tree.{WireNumber, zero_tag, int1, int2, int4, int8}
use Rattle.wire_words.specs.Spelling.{fits_bits, shortest}
use Rattle.tars_model.specs.Types.{TyLayer}
use Rattle.tars_model.specs.Values.{is_signed, is_unsigned, is_number_of}
use Rattle.tars_model.specs.declared.ty.Ty.TheOpen as ty
use Rattle.tars_wire.specs.Left.{value_of_number}
use Rattle.tars_decode.specs.Reads.{misfit, bytes_of, most_bytes, in_range, number_value, is_within, is_zero, number_as}
use Rattle.tars_decode.specs.declared.refuse.Misfit.TheVariants.{WrongType, Range}
use Rattle.tars_model.specs.declared.value.Value.{Value}
use Rattle.tars_versions.specs.Projected.{takes, shortest_bytes, number_under}

-- ---- the shortest form

kind_by : (a b c e : Bool) → ℤ → WireNumber
kind_by a b c e n = cond a zero_tag (cond b (int1 n) (cond c (int2 n) (cond e (int4 n) (int8 n))))

size_by : Bool → Bool → Bool → Bool → ℕ
size_by a b c e = cond a 0 (cond b 1 (cond c 2 (cond e 4 8)))

value_by : (a b c e : Bool) (n : ℤ) → (a ≡ true → n ≡ pos 0) → value_of_number (kind_by a b c e n) ≡ n
unfolding kind_by
value_by true b c e n zero = sym (zero refl)
value_by false true c e n zero = refl
value_by false false true e n zero = refl
value_by false false false true n zero = refl
value_by false false false false n zero = refl

bytes_by : (a b c e : Bool) (n : ℤ) → bytes_of (kind_by a b c e n) ≡ size_by a b c e
unfolding kind_by size_by
bytes_by true b c e n = refl
bytes_by false true c e n = refl
bytes_by false false true e n = refl
bytes_by false false false true n = refl
bytes_by false false false false n = refl

shortest_is : (n : ℤ) → shortest n ≡ kind_by (is_zero n) (is_signed 7 n) (is_signed 15 n) (is_signed 31 n) n
unfolding shortest fits_bits kind_by
shortest_is (pos n) = refl
shortest_is (negsuc n) = refl

zero_is : (n : ℤ) → is_zero n ≡ true → n ≡ pos 0
zero_is (pos n) e = ap pos (grind (arith, nat_tests))
zero_is (negsuc n) e = absurd cc

value_is : (n : ℤ) → value_of_number (shortest n) ≡ n
value_is n = ap value_of_number (shortest_is n) ∙ value_by (is_zero n) (is_signed 7 n) (is_signed 15 n) (is_signed 31 n) n (zero_is n)

bytes_are : (n : ℤ) → bytes_of (shortest n) ≡ shortest_bytes n
unfolding size_by
bytes_are n = ap bytes_of (shortest_is n) ∙ bytes_by (is_zero n) (is_signed 7 n) (is_signed 15 n) (is_signed 31 n) n

-- ---- how wide it is

below_too : (n a b : ℕ) → a < b → ltb n a ≡ true → ltb n b ≡ true
below_too n a b lt e = grind (arith, nat_tests)

-- what fewer bits hold, more do
pub wider : (a b : ℕ) (n : ℤ) → 2 ^ a < 2 ^ b → is_signed a n ≡ true → is_signed b n ≡ true
wider a b (pos n) lt e = below_too n (2 ^ a) (2 ^ b) lt e
wider a b (negsuc n) lt e = below_too n (2 ^ a) (2 ^ b) lt e

zero_fits : (n : ℤ) → is_zero n ≡ true → is_signed 7 n ≡ true
zero_fits n e = ap (is_signed 7) (zero_is n e)

within_one : (a b c e : Bool) → (a ≡ true → b ≡ true) → leb (size_by a b c e) 1 ≡ b
unfolding size_by
within_one true b c e zero = sym (zero refl)
within_one false true c e zero = refl
within_one false false true e zero = refl
within_one false false false true zero = refl
within_one false false false false zero = refl

within_two : (a b c e : Bool) → (a ≡ true → b ≡ true) → (b ≡ true → c ≡ true) → leb (size_by a b c e) 2 ≡ c
unfolding size_by
within_two true b c e zero one = sym (one (zero refl))
within_two false true c e zero one = sym (one refl)
within_two false false true e zero one = refl
within_two false false false true zero one = refl
within_two false false false false zero one = refl

within_four : (a b c e : Bool) → (a ≡ true → b ≡ true) → (b ≡ true → c ≡ true) → (c ≡ true → e ≡ true) → leb (size_by a b c e) 4 ≡ e
unfolding size_by
within_four true b c e zero one two = sym (two (one (zero refl)))
within_four false true c e zero one two = sym (two (one refl))
within_four false false true e zero one two = sym (two refl)
within_four false false false true zero one two = refl
within_four false false false false zero one two = refl

within_eight : (a b c e : Bool) → leb (size_by a b c e) 8 ≡ true
unfolding size_by
within_eight true b c e = refl
within_eight false true c e = refl
within_eight false false true e = refl
within_eight false false false true = refl
within_eight false false false false = refl

-- so many bytes hold it
pub holds_one : (n : ℤ) → is_within (shortest_bytes n) (Some 1) ≡ is_signed 7 n
unfolding size_by
holds_one n = within_one (is_zero n) (is_signed 7 n) (is_signed 15 n) (is_signed 31 n) (zero_fits n)

pub holds_two : (n : ℤ) → is_within (shortest_bytes n) (Some 2) ≡ is_signed 15 n
unfolding size_by
holds_two n = within_two (is_zero n) (is_signed 7 n) (is_signed 15 n) (is_signed 31 n) (zero_fits n) (wider 7 15 n (omega arith))

pub holds_four : (n : ℤ) → is_within (shortest_bytes n) (Some 4) ≡ is_signed 31 n
unfolding size_by
holds_four n = within_four (is_zero n) (is_signed 7 n) (is_signed 15 n) (is_signed 31 n) (zero_fits n) (wider 7 15 n (omega arith)) (wider 15 31 n (omega arith))

pub holds_eight : (n : ℤ) → is_within (shortest_bytes n) (Some 8) ≡ true
unfolding size_by
holds_eight n = within_eight (is_zero n) (is_signed 7 n) (is_signed 15 n) (is_signed 31 n)

-- ---- what it says

read_by : (within range taken : Bool) (v : Value) → taken ≡ (within && range) → cond within (cond range (Ok v) (misfit Range)) (misfit WrongType) ≡ cond taken (Ok v) (cond within (misfit Range) (misfit WrongType))
read_by true true taken v e = rw e refl
read_by true false taken v e = rw e refl
read_by false range taken v e = rw e refl

and_true : (b : Bool) → b ≡ (b && true)
and_true true = refl
and_true false = refl

unsigned_signed : (a b : ℕ) (n : ℤ) → 2 ^ a < 2 ^ b → is_unsigned a n ≡ (is_signed b n && is_unsigned a n)
unsigned_signed a b (pos n) lt = go (ltb n (2 ^ a)) (below_too n (2 ^ a) (2 ^ b) lt)
  where
    go : (x : Bool) → (x ≡ true → ltb n (2 ^ b) ≡ true) → x ≡ (ltb n (2 ^ b) && x)
    go true more = rw (more refl) refl
    go false more = by_test (ltb n (2 ^ b))
      where
        by_test : (y : Bool) → false ≡ (y && false)
        by_test true = refl
        by_test false = refl
unsigned_signed a b (negsuc n) lt = by_test (is_signed b (negsuc n))
  where
    by_test : (y : Bool) → false ≡ (y && false)
    by_test true = refl
    by_test false = refl

-- a type takes a number where it reads the shortest form and has the number
taken_is : (n : ℤ) (l : TyLayer) → is_signed 63 n ≡ true → takes l n ≡ (is_within (shortest_bytes n) (most_bytes l) && in_range l n)
taken_is n ty.Bool long = rw (holds_one n) (and_true (is_signed 7 n))
taken_is n ty.Byte long = rw (holds_one n) (and_true (is_signed 7 n))
taken_is n ty.Short long = rw (holds_two n) (and_true (is_signed 15 n))
taken_is n ty.Int long = rw (holds_four n) (and_true (is_signed 31 n))
taken_is n ty.Long long = rw (holds_eight n) long
taken_is n ty.UByte long = rw (holds_two n) (unsigned_signed 8 15 n (omega arith))
taken_is n ty.UShort long = rw (holds_four n) (unsigned_signed 16 31 n (omega arith))
taken_is n ty.UInt long = rw (holds_eight n) refl
taken_is n (ty.Enum k) long = rw (holds_four n) (and_true (is_signed 31 n))
taken_is n ty.Text long = refl
taken_is n (ty.Struct k) long = refl
taken_is n (ty.Vector of) long = refl
taken_is n (ty.Map key to) long = refl

pub number_said : (n : ℤ) (l : TyLayer) → is_signed 63 n ≡ true → number_as (shortest n) l ≡ number_under n l
number_said n l long =
    rw (bytes_are n, value_is n) (read_by (is_within (shortest_bytes n) (most_bytes l)) (in_range l n) (takes l n) (number_value l n) (taken_is n l long))

-- ---- the numbers of all types are longs

unsigned_long : (a : ℕ) (n : ℤ) → 2 ^ a < 2 ^ 63 → is_unsigned a n ≡ true → is_signed 63 n ≡ true
unsigned_long a (pos n) lt e = below_too n (2 ^ a) (2 ^ 63) lt e
unsigned_long a (negsuc n) lt e = absurd cc

pub numbers_are_longs : (l : TyLayer) (n : ℤ) → is_number_of l n ≡ true → is_signed 63 n ≡ true
numbers_are_longs ty.Byte n e = wider 7 63 n (omega arith) e
numbers_are_longs ty.Short n e = wider 15 63 n (omega arith) e
numbers_are_longs ty.Int n e = wider 31 63 n (omega arith) e
numbers_are_longs ty.Long n e = e
numbers_are_longs ty.UByte n e = unsigned_long 8 n (omega arith) e
numbers_are_longs ty.UShort n e = unsigned_long 16 n (omega arith) e
numbers_are_longs ty.UInt n e = unsigned_long 32 n (omega arith) e
numbers_are_longs (ty.Enum k) n e = wider 31 63 n (omega arith) e
numbers_are_longs ty.Bool n e = absurd cc
numbers_are_longs ty.Text n e = absurd cc
numbers_are_longs (ty.Struct k) n e = absurd cc
numbers_are_longs (ty.Vector of) n e = absurd cc
numbers_are_longs (ty.Map key to) n e = absurd cc
