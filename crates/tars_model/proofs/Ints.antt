-- The test for an int, both ways.
use Rattle.std.proofs.Common.{◌≡◌, ℤ, pos, negsuc, ◌<◌, ◌^◌, true, arith, ltb-true, lt-ltb}
use Rattle.std.proofs.lemmas.Int.{ints}
use Rattle.tars_model.specs.Ranges.{IsInt, is_int}

pub int_test : (z : ℤ) → is_int z ≡ true → IsInt z
int_test (pos n) h = let small : n < 2 ^ 31 = ltb-true n (2 ^ 31) h in (omega (arith, ints), omega (arith, ints))
int_test (negsuc n) h = let small : n < 2 ^ 31 = ltb-true n (2 ^ 31) h in (omega (arith, ints), omega (arith, ints))

pub int_passes : (z : ℤ) → IsInt z → is_int z ≡ true
int_passes (pos n) h = lt-ltb n (2 ^ 31) (omega (arith, ints, h.1))
int_passes (negsuc n) h = lt-ltb n (2 ^ 31) (omega (arith, ints, h.0))
