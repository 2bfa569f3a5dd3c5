-- A text in quotes has its form, and spells the bytes that it was written for.
use Rattle.std.proofs.Common.{◌≡◌, ◌<◌, ◌+◌, ◌*◌, ◌/◌, ◌%◌, ℕ, zero, suc, Bool, true, false, ◌==◌, ◌&&◌, ◌||◌, nat_le, List, [], ◌∷◌, ◌++◌, refl, sym, subst, inl, inr, arith, slice_index, append_assoc, flat_map, eq-or-lt_of_le, le_of_suc-le-suc}
use Rattle.std.proofs.lemmas.Bool.{cases_Bool, eqb-true, and_parts}
use Rattle.std.proofs.lemmas.Bool.Decides.{nat_tests}
use Rattle.std.specs.Char.{is_digit, digit_value}
use Rattle.std.specs.List.{AllByRecursion}
use Rattle.hex.specs.Hex.{encode_with, upper_digits}
use Rattle.canonical_text.specs.Canonical.{byte_text, quoted}
use Rattle.idl_lex.specs.Bytes.{is_plain, is_escaped, escaped}
use Rattle.idl_lex.specs.Texts.{UnitSpells, UnitsSpell, TextSpells}
use Rattle.idl_lex.specs.Texts.UnitSpells.{plain, short, hex}
use Rattle.idl_lex.specs.Texts.UnitsSpell.{none, more}

-- each number below passes
abbrev all_below : ℕ → (ℕ → Bool) → Bool
all_below zero test = true
all_below (suc n) test = test n && all_below n test

passes_below : (n d : ℕ) (test : ℕ → Bool) → all_below n test ≡ true → d < n → test d ≡ true
passes_below zero d test all less = absurd (omega arith)
passes_below (suc n) d test all less =
    let parts = and_parts (test n) (all_below n test) all in
    elim (eq-or-lt_of_le (le_of_suc-le-suc less)) [
      | inl same ↦ subst (λ k. test k ≡ true) (sym same) parts.0
      | inr below ↦ passes_below n d test parts.1 below
    ]

-- the digit of a number is a digit of that number
is_hex_digit : ℕ → Bool
is_hex_digit d = is_digit (slice_index upper_digits d) 16 && (digit_value (slice_index upper_digits d) == d)

hex_digit : (d : ℕ) → d < 16 → (is_digit (slice_index upper_digits d) 16 ≡ true) × (digit_value (slice_index upper_digits d) ≡ d)
unfolding is_hex_digit
hex_digit d small =
    let parts = and_parts (is_digit (slice_index upper_digits d) 16) (digit_value (slice_index upper_digits d) == d) (passes_below 16 d is_hex_digit refl small) in
    (parts.0, eqb-true _ _ parts.1)

two_digits : (b high low : ℕ) → high ≡ b / 16 → low ≡ b % 16 → (0 * 16 + high) * 16 + low ≡ b
two_digits b high low h l = omega arith

hex_spells : (b : ℕ) (rest : List ℕ) → b < 256 → UnitSpells b (92 ∷ 120 ∷ slice_index upper_digits (b / 16) ∷ slice_index upper_digits (b % 16) ∷ rest) rest
hex_spells b rest small =
    let high = hex_digit (b / 16) (omega arith) in
    let low = hex_digit (b % 16) (omega arith) in
    subst (λ n. UnitSpells n (92 ∷ 120 ∷ slice_index upper_digits (b / 16) ∷ slice_index upper_digits (b % 16) ∷ rest) rest)
    (two_digits b (digit_value (slice_index upper_digits (b / 16))) (digit_value (slice_index upper_digits (b % 16))) high.1 low.1)
    (hex refl refl high.0 low.0)

marked_spells : (b : ℕ) (rest : List ℕ) → (b == 34 || b == 92) ≡ true → UnitSpells b (92 ∷ b ∷ rest) rest
marked_spells b rest is = subst (λ n. UnitSpells n (92 ∷ b ∷ rest) rest) (itself b is) (short refl (marks b is))
  where
    itself : (b : ℕ) → (b == 34 || b == 92) ≡ true → escaped b ≡ b
    itself b is = grind (arith, nat_tests)

    marks : (b : ℕ) → (b == 34 || b == 92) ≡ true → is_escaped b ≡ true
    marks b is = grind (arith, nat_tests)

plain_byte : (b : ℕ) → (b == 34 || b == 92) ≡ false → (nat_le 32 b && nat_le b 126) ≡ true → is_plain b ≡ true
plain_byte b other seen = grind (arith, nat_tests)

unit_spells : (b : ℕ) (rest : List ℕ) → b < 256 → UnitSpells b (byte_text b ++ rest) rest
unfolding byte_text encode_with
unit_spells b rest small =
    elim (cases_Bool (b == 34 || b == 92)) [
      | inl is ↦ rw is (marked_spells b rest is)
      | inr other ↦
          elim (cases_Bool (nat_le 32 b && nat_le b 126)) [
            | inl seen ↦ rw (other, seen) (plain (plain_byte b other seen))
            | inr unseen ↦ rw (other, unseen) (hex_spells b rest small)
          ]
    ]

units_spell : (bytes rest : List ℕ) → AllByRecursion (λ b. b < 256) bytes → UnitsSpell bytes (flat_map byte_text bytes ++ rest) rest
units_spell [] rest all = none
units_spell (b ∷ bytes) rest all =
    subst (λ t. UnitsSpell (b ∷ bytes) t rest) (sym (append_assoc (byte_text b) (flat_map byte_text bytes) rest))
    (more (unit_spells b (flat_map byte_text bytes ++ rest) all.0) (units_spell bytes rest all.1))

pub quoted_spells : (bytes : List ℕ) → AllByRecursion (λ b. b < 256) bytes → TextSpells bytes (quoted bytes) []
unfolding quoted
quoted_spells bytes all = (flat_map byte_text bytes ++ 34 ∷ [], refl, units_spell bytes (34 ∷ []) all)
