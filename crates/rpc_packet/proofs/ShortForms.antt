-- The shortest form of an int.
use Rattle.std.proofs.Common.{◌≡◌, ◌∙◌, ℤ, pos, negsuc, FitsSigned, refl, sym, ap, subst, arith}
use Rattle.std.specs.Int.{w8, w16, w32, w64, cast_unsigned, cast_signed}
use Rattle.std.proofs.lemmas.Int.{to_z-of_z}
use Rattle.wire_words.specs.Tree.{zero_tag, int1, int2, int4}
use Rattle.wire_words.specs.Spelling.{shortest}
use Rattle.tars_codec.proofs.Shortest.{is_zero, shortest_int1, shortest_int2, shortest_int4}

-- an int, as a cast reads it
abbrev in32 : ℤ → ℤ
in32 n = cast_signed w32 (cast_unsigned w32 n)

is_zero_int : (n : ℤ) → FitsSigned w32 n → cast_unsigned w32 n ≡ 0 → n ≡ pos 0
is_zero_int (pos n) int is = rw is refl
is_zero_int (negsuc n) int is = absurd (omega (arith, int.sfits))

wide : (n : ℤ) → FitsSigned w32 n → FitsSigned w64 n
wide (pos n) int = record { sfits = omega (arith, int.sfits) }
wide (negsuc n) int = record { sfits = omega (arith, int.sfits) }

pub int_zero : (n : ℤ) → FitsSigned w32 n → cast_unsigned w32 n ≡ 0 → shortest n ≡ zero_tag
unfolding shortest
int_zero n int is = rw (is_zero_int n int is) refl

module _ (n : ℤ) (int : FitsSigned w32 n) (other : cast_unsigned w32 n ≡ 0 → ⊥) where
  both_casts : cast_signed w64 (cast_unsigned w64 n) ≡ in32 n
  both_casts = to_z-of_z w64 n (wide n int) ∙ sym (to_z-of_z w32 n int)

  other_wide : cast_unsigned w64 n ≡ 0 → ⊥
  other_wide is = other (ap (cast_unsigned w32) (is_zero n (wide n int) is))

  pub int_of_byte : (m : ℤ) → FitsSigned w8 (in32 n) → m ≡ in32 n → shortest n ≡ int1 (cast_signed w8 (cast_unsigned w8 m))
  int_of_byte m fits is = shortest_int1 n m (wide n int) other_wide (subst (FitsSigned w8) (sym both_casts) fits) (is ∙ sym both_casts)

  pub int_of_short : (m : ℤ) → (FitsSigned w8 (in32 n) → ⊥) → FitsSigned w16 (in32 n) → m ≡ in32 n → shortest n ≡ int2 (cast_signed w16 (cast_unsigned w16 m))
  int_of_short m no_byte fits is =
      shortest_int2 n m (wide n int) other_wide (λ fits. no_byte (subst (FitsSigned w8) both_casts fits))
      (subst (FitsSigned w16) (sym both_casts) fits) (is ∙ sym both_casts)

  pub int_of_int : (FitsSigned w8 (in32 n) → ⊥) → (FitsSigned w16 (in32 n) → ⊥) → shortest n ≡ int4 (in32 n)
  int_of_int no_byte no_short =
      shortest_int4 n n (wide n int) other_wide (λ fits. no_byte (subst (FitsSigned w8) both_casts fits)) (λ fits. no_short (subst (FitsSigned w16) both_casts fits))
      (subst (FitsSigned w32) (sym (both_casts ∙ to_z-of_z w32 n int)) int) (sym (both_casts ∙ to_z-of_z w32 n int))
