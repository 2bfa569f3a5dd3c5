-- Which kind is the shortest that holds a number, by the types that the number fits. A number that is
-- cast stands as what is left of it in 64 bits.
use Rattle.std.proofs.Common.{◌≡◌, ℕ, ◌^◌, ◌<◌, ◌≤◌, cond, ltb, ℤ, pos, negsuc, refl, inl, inr, arith}
use Rattle.std.specs.Prelude.{FitsSigned}
use Rattle.std.specs.Int.{Width, w8, w16, w32, w64, cast_unsigned, cast_signed}
use Rattle.std.proofs.lemmas.Bool.{cases_lt, lt-ltb, le-ltb, ne_eqb}
use Rattle.std.proofs.lemmas.Int.{to_z-of_z}
use mir.Val.{hbits}
use Rattle.wire_words.specs.Tree.{WireNumber, zero_tag, int1, int2, int4, int8}
use Rattle.wire_words.specs.Spelling.{fits_bits, shortest}

-- how far a number is from 0, or from -1
abbrev mag : ℤ → ℕ
mag (pos n) = n
mag (negsuc n) = n

fits_from : (w : Width) (n : ℤ) → mag n < 2 ^ hbits w → FitsSigned w n
fits_from w (pos n) lt = record { sfits = lt }
fits_from w (negsuc n) lt = record { sfits = lt }

mag_below : (w : Width) (n : ℤ) → FitsSigned w n → mag n < 2 ^ hbits w
mag_below w (pos n) fits = fits.sfits
mag_below w (negsuc n) fits = fits.sfits

-- the kinds but the zero tag
abbrev kinds : ℤ → WireNumber
kinds n = cond (ltb (mag n) 128) (int1 n) (cond (ltb (mag n) 32768) (int2 n) (cond (ltb (mag n) 2147483648) (int4 n) (int8 n)))

shortest_kinds : (n : ℤ) → (cast_unsigned w64 n ≡ 0 → ⊥) → shortest n ≡ kinds n
unfolding shortest fits_bits
shortest_kinds (pos n) other = rw (ne_eqb n 0 other) refl
shortest_kinds (negsuc n) other = refl

pub is_zero : (n : ℤ) → FitsSigned w64 n → cast_unsigned w64 n ≡ 0 → n ≡ pos 0
is_zero (pos n) wide is = rw is refl
is_zero (negsuc n) wide is = absurd (omega (arith, wide.sfits))

pub shortest_zero : (n : ℤ) → FitsSigned w64 n → cast_unsigned w64 n ≡ 0 → shortest n ≡ zero_tag
unfolding shortest
shortest_zero n wide is = rw (is_zero n wide is) refl

-- ---- numbers that are cast

-- a 64-bit number, as a cast reads it
abbrev in64 : ℤ → ℤ
in64 n = cast_signed w64 (cast_unsigned w64 n)

below : (w : Width) (n : ℤ) → FitsSigned w64 n → FitsSigned w (in64 n) → mag n < 2 ^ hbits w
below w n wide fits = mag_below w n (rw (to_z-of_z w64 n wide) at fits)

past : (w : Width) (n : ℤ) → FitsSigned w64 n → (FitsSigned w (in64 n) → ⊥) → 2 ^ hbits w ≤ mag n
past w n wide none =
    elim (cases_lt (mag n) (2 ^ hbits w)) [
      | inl lt ↦ absurd (none (rw (to_z-of_z w64 n wide) (fits_from w n lt)))
      | inr le ↦ le
    ]

-- a narrower number, as a cast reads it
narrow : (w : Width) (n m : ℤ) → FitsSigned w64 n → FitsSigned w (in64 n) → m ≡ in64 n → cast_signed w (cast_unsigned w m) ≡ n
narrow w n m wide fits is =
    rw (is, to_z-of_z w64 n wide) (to_z-of_z w n (rw (to_z-of_z w64 n wide) at fits))

pub shortest_int1 : (n m : ℤ) → FitsSigned w64 n → (cast_unsigned w64 n ≡ 0 → ⊥) → FitsSigned w8 (in64 n) → m ≡ in64 n → shortest n ≡ int1 (cast_signed w8 (cast_unsigned w8 m))
shortest_int1 n m wide other fits is =
    rw (narrow w8 n m wide fits is, shortest_kinds n other, lt-ltb (mag n) 128 (below w8 n wide fits)) refl

pub shortest_int2 : (n m : ℤ) → FitsSigned w64 n → (cast_unsigned w64 n ≡ 0 → ⊥) → (FitsSigned w8 (in64 n) → ⊥) → FitsSigned w16 (in64 n) → m ≡ in64 n → shortest n ≡ int2 (cast_signed w16 (cast_unsigned w16 m))
shortest_int2 n m wide other no8 fits is =
    rw (narrow w16 n m wide fits is, shortest_kinds n other, le-ltb (mag n) 128 (past w8 n wide no8), lt-ltb (mag n) 32768 (below w16 n wide fits)) refl

pub shortest_int4 : (n m : ℤ) → FitsSigned w64 n → (cast_unsigned w64 n ≡ 0 → ⊥) → (FitsSigned w8 (in64 n) → ⊥) → (FitsSigned w16 (in64 n) → ⊥) → FitsSigned w32 (in64 n) → m ≡ in64 n → shortest n ≡ int4 (cast_signed w32 (cast_unsigned w32 m))
shortest_int4 n m wide other no8 no16 fits is =
    rw (narrow w32 n m wide fits is, shortest_kinds n other, le-ltb (mag n) 128 (past w8 n wide no8), le-ltb (mag n) 32768 (past w16 n wide no16), lt-ltb (mag n) 2147483648 (below w32 n wide fits)) refl

pub shortest_int8 : (n : ℤ) → FitsSigned w64 n → (cast_unsigned w64 n ≡ 0 → ⊥) → (FitsSigned w8 (in64 n) → ⊥) → (FitsSigned w16 (in64 n) → ⊥) → (FitsSigned w32 (in64 n) → ⊥) → shortest n ≡ int8 (in64 n)
shortest_int8 n wide other no8 no16 no32 =
    rw (to_z-of_z w64 n wide, shortest_kinds n other, le-ltb (mag n) 128 (past w8 n wide no8), le-ltb (mag n) 32768 (past w16 n wide no16), le-ltb (mag n) 2147483648 (past w32 n wide no32)) refl
