-- What bytes a text spells in hexadecimal digits, and the fault of one that spells none (docs/SCRIPTS.md, "Hexadecimal
-- text").
use Rattle.std.specs.Prelude.{◌≡◌, ℕ, ◌+◌, ◌*◌, ◌==◌, Bool, true, ◌||◌, List, [], ◌∷◌}
use Rattle.std.specs.Char.{is_digit, digit_value}
use Rattle.longest_prefix.specs.Prefixes.{FaultAt}

-- a space or a line feed
abbrev pub is_blank : ℕ → Bool
is_blank c = c == 32 || c == 10

-- a digit of either case
abbrev pub is_hexadecimal : ℕ → Bool
is_hexadecimal c = is_digit c 16

-- The text spells these bytes, each in two digits. Spaces and line feeds may stand anywhere but between the two.
pub data HexSpells : List ℕ → List ℕ → Type 0 where
  nothing : HexSpells [] []
  blank : {c : ℕ} {bytes text : List ℕ} → is_blank c ≡ true → HexSpells bytes text → HexSpells bytes (c ∷ text)
  pair :
      {byte high low : ℕ} {bytes text : List ℕ} → is_hexadecimal high ≡ true → is_hexadecimal low ≡ true
      → byte ≡ 16 * digit_value high + digit_value low → HexSpells bytes text
      → HexSpells (byte ∷ bytes) (high ∷ low ∷ text)

-- a text that spells some bytes
abbrev pub IsHexText : List ℕ → Type 0
IsHexText text = (bytes : List ℕ) × HexSpells bytes text

-- The text spells no bytes. The offset is the length of its longest prefix that some text goes on from which does.
pub record IsHexFault (text : List ℕ) (at : ℕ) : Type 0 where
  pub no_text : IsHexText text → ⊥
  pub place : FaultAt IsHexText text at

abbrev pub HasHexFault : List ℕ → Type 0
HasHexFault text = (at : ℕ) × IsHexFault text at
