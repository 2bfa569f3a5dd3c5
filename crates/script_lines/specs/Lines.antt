-- The lines of a script and their words (docs/SCRIPTS.md, "General scripts").
use Rattle.std.specs.Prelude.{◌≡◌, ℕ, ◌+◌, ◌-◌, ◌==◌, Bool, not, if◌then◌else◌, List, [], ◌∷◌, length, take, drop, reverse, Option, None, Some}
use Rattle.std.specs.List.{prefix_len, onto_first}

-- the lines of a text, each without its line feed; the last one may have none
abbrev pub lines_of : List ℕ → List (List ℕ)
lines_of [] = []
lines_of (c ∷ cs) = if c == 10 then [] ∷ lines_of cs else onto_first c (lines_of cs)

-- a line, and the offset of its first byte in the text
pub record TextLine : Type 0 where
  pub at : ℕ
  pub bytes : List ℕ

-- lines, of which the first begins at the offset
abbrev pub placed : ℕ → List (List ℕ) → List TextLine
placed at [] = []
placed at (line ∷ lines) = record { at = at; bytes = line } ∷ placed (at + length line + 1) lines

abbrev pub text_lines : List ℕ → List TextLine
text_lines text = placed 0 (lines_of text)

abbrev pub is_feed : ℕ → Bool
is_feed b = b == 10

abbrev pub is_space : ℕ → Bool
is_space b = b == 32

abbrev pub is_word_byte : ℕ → Bool
is_word_byte b = not (is_space b)

-- without the spaces at the start
abbrev pub after_spaces : List ℕ → List ℕ
after_spaces bytes = drop (prefix_len is_space bytes) bytes

-- without the spaces at the end
abbrev pub before_spaces : List ℕ → List ℕ
before_spaces bytes = take (length bytes - prefix_len is_space (reverse bytes)) bytes

-- a line without the spaces at its ends
unfoldable pub content_of : List ℕ → List ℕ
content_of line = after_spaces (before_spaces line)

-- the first word, which ends before a space, and what stands after it from the next byte that is no space
unfoldable pub next_word : List ℕ → Option (List ℕ × List ℕ)
next_word [] = None
next_word (c ∷ cs) =
    let end = prefix_len is_word_byte (c ∷ cs) in
    Some (take end (c ∷ cs), after_spaces (drop end (c ∷ cs)))

-- the content of a line is these words, and then the rest
abbrev pub IsCut : List ℕ → List (List ℕ) → List ℕ → Type 0
IsCut content [] rest = content ≡ rest
IsCut content (word ∷ words) rest = (after : List ℕ) × (next_word content ≡ Some (word, after)) × IsCut after words rest

-- it is these words, and no more
abbrev pub AreWords : List ℕ → List (List ℕ) → Type 0
AreWords content words = IsCut content words []
