-- What a byte is in a text, by what stands before it.
use Rattle.std.proofs.Common.{◌≡◌, ℕ, ◌+◌, ◌*◌, Bool, true, false, Option, Some, None, refl, arith}
use Rattle.std.proofs.lemmas.Bool.Decides.{nat_tests}
use Rattle.std.specs.Char.{digit_value}
use Rattle.hex_text.specs.HexText.{is_blank, is_hexadecimal}
use Rattle.hex_text.specs.HexSteps.{part_of}
use Rattle.hex_text.specs.declared.part.Part.{Part}
use Rattle.hex_text.specs.declared.part.Part.TheVariants.{Blank, High, Byte}

blank_is_none : (c : ℕ) → is_blank c ≡ true → is_hexadecimal c ≡ false
blank_is_none c is = grind (arith, nat_tests)

pub blank_outside : (c : ℕ) → is_blank c ≡ true → part_of None c ≡ Some Blank
unfolding part_of
blank_outside c is = rw (blank_is_none c is, is) refl

pub digit_outside : (c : ℕ) → is_hexadecimal c ≡ true → part_of None c ≡ Some (High (digit_value c))
unfolding part_of
digit_outside c is = rw is refl

pub digit_inside : (high c : ℕ) → is_hexadecimal c ≡ true → part_of (Some high) c ≡ Some (Byte (16 * high + digit_value c))
unfolding part_of
digit_inside high c is = rw is refl

-- each way in which a byte is some part, or none
pub data Sees : Option ℕ → ℕ → Option Part → Type 0 where
  sees_blank : {c : ℕ} → is_blank c ≡ true → Sees None c (Some Blank)
  sees_high : {c : ℕ} → is_hexadecimal c ≡ true → Sees None c (Some (High (digit_value c)))
  sees_byte : {high c : ℕ} → is_hexadecimal c ≡ true → Sees (Some high) c (Some (Byte (16 * high + digit_value c)))
  sees_none : {high : Option ℕ} {c : ℕ} → Sees high c None

pub sees : (high : Option ℕ) (c : ℕ) → Sees high c (part_of high c)
unfolding part_of
sees None c = by_digit (is_hexadecimal c) refl (is_blank c) refl
  where
    by_digit : (d : Bool) → is_hexadecimal c ≡ d → (b : Bool) → is_blank c ≡ b → Sees None c (part_of None c)
    by_digit true digit b e = rw digit (sees_high digit)
    by_digit false digit true blank = rw (digit, blank) (sees_blank blank)
    by_digit false digit false blank = rw (digit, blank) sees_none
sees (Some high) c = by_digit (is_hexadecimal c) refl
  where
    by_digit : (d : Bool) → is_hexadecimal c ≡ d → Sees (Some high) c (part_of (Some high) c)
    by_digit true digit = rw digit (sees_byte digit)
    by_digit false digit = rw digit sees_none
