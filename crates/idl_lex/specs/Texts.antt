-- What stands between the quotes of a text, and the bytes that it spells (docs/IDL.md, "Texts").
use Rattle.std.specs.Prelude.{◌≡◌, ℕ, true, List, [], ◌∷◌}
use Rattle.std.specs.Char.{is_digit}
use Rattle.std.specs.Str.Parse.{digits_value}
use Rattle.idl_lex.specs.Bytes.{is_backslash, is_plain, is_escaped, escaped, begins, IsCutOff}

-- The byte that a unit spells, the bytes that begin with the unit, and the bytes after it. A unit is a byte that
-- stands for itself, or an escape: a backslash with `"`, `\`, `n` or `t`, or with `x` and two hexadecimal digits.
pub data UnitSpells : ℕ → List ℕ → List ℕ → Type 0 where
  plain : {b : ℕ} {rest : List ℕ} → is_plain b ≡ true → UnitSpells b (b ∷ rest) rest
  short : {b c : ℕ} {rest : List ℕ} → b ≡ 92 → is_escaped c ≡ true → UnitSpells (escaped c) (b ∷ c ∷ rest) rest
  hex : {b x h l : ℕ} {rest : List ℕ} → b ≡ 92 → x ≡ 120 → is_digit h 16 ≡ true → is_digit l 16 ≡ true → UnitSpells (digits_value 16 (h ∷ l ∷ [])) (b ∷ x ∷ h ∷ l ∷ rest) rest

-- what any number of units spell
pub data UnitsSpell : List ℕ → List ℕ → List ℕ → Type 0 where
  none : {bytes : List ℕ} → UnitsSpell [] bytes bytes
  more : {byte : ℕ} {spelled bytes next rest : List ℕ} → UnitSpells byte bytes next → UnitsSpell spelled next rest → UnitsSpell (byte ∷ spelled) bytes rest

-- the end or a line feed comes here, or in the escape that begins here
pub data IsCut : List ℕ → Type 0 where
  here : {bytes : List ℕ} → IsCutOff bytes → IsCut bytes
  after_backslash : {b : ℕ} {rest : List ℕ} → b ≡ 92 → IsCutOff rest → IsCut (b ∷ rest)
  after_x : {b x : ℕ} {rest : List ℕ} → b ≡ 92 → x ≡ 120 → IsCutOff rest → IsCut (b ∷ x ∷ rest)
  after_digit : {b x h : ℕ} {rest : List ℕ} → b ≡ 92 → x ≡ 120 → is_digit h 16 ≡ true → IsCutOff rest → IsCut (b ∷ x ∷ h ∷ rest)

-- a backslash with which neither an escape begins nor one that is cut
pub record IsSpoilt (bytes : List ℕ) : Type 0 where
  pub backslash : begins is_backslash bytes ≡ true
  pub whole : (byte : ℕ) (rest : List ℕ) → UnitSpells byte bytes rest → ⊥
  pub cut : IsCut bytes → ⊥

-- a text in quotes begins the bytes and spells this: a quote, units, a quote, and then the rest
abbrev pub TextSpells : List ℕ → List ℕ → List ℕ → Type 0
TextSpells spelled bytes rest = (inside : List ℕ) × (bytes ≡ 34 ∷ inside) × UnitsSpell spelled inside (34 ∷ rest)

-- a text in quotes begins the bytes
abbrev pub IsTextPrefix : List ℕ → List ℕ → Type 0
IsTextPrefix bytes rest = (spelled : List ℕ) × TextSpells spelled bytes rest
