-- Classes of bytes (docs/IDL.md, "Tokens").
use Rattle.std.specs.Prelude.{◌≡◌, ◌⊎◌, ℕ, ◌==◌, Bool, true, false, ◌||◌, not, if◌then◌else◌, List, [], ◌∷◌}
use Rattle.std.specs.Char.{is_ascii_alphabetic, is_ascii_alphanumeric}

-- space, tab, carriage return, line feed
abbrev pub is_white : ℕ → Bool
is_white b = b == 32 || b == 9 || b == 13 || b == 10

abbrev pub is_feed : ℕ → Bool
is_feed b = b == 10

abbrev pub is_quote : ℕ → Bool
is_quote b = b == 34

abbrev pub is_backslash : ℕ → Bool
is_backslash b = b == 92

-- a byte of an identifier after its first letter: a letter, a digit or `_`
abbrev pub is_word_byte : ℕ → Bool
is_word_byte b = is_ascii_alphanumeric b || b == 95

-- a letter or `_`, which spoils a number that it follows at once
abbrev pub is_letter_or_low : ℕ → Bool
is_letter_or_low b = is_ascii_alphabetic b || b == 95

-- a byte that stands for itself in a text: no quote, backslash or line feed
abbrev pub is_plain : ℕ → Bool
is_plain b = not (b == 34 || b == 92 || b == 10)

-- a byte that makes an escape with the backslash before it: `"`, `\`, `n`, `t`
abbrev pub is_escaped : ℕ → Bool
is_escaped b = b == 34 || b == 92 || b == 110 || b == 116

-- the byte that it spells then: `n` the line feed, `t` the tab, the others themselves
abbrev pub escaped : ℕ → ℕ
escaped b = if b == 110 then 10 else (if b == 116 then 9 else b)

-- bytes are left, and the first passes
abbrev pub begins : (ℕ → Bool) → List ℕ → Bool
begins test [] = false
begins test (b ∷ rest) = test b

-- nothing, or a line feed
abbrev pub IsCutOff : List ℕ → Type 0
IsCutOff bytes = (bytes ≡ []) ⊎ (begins is_feed bytes ≡ true)
