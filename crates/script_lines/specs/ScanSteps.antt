-- For the proofs: how bytes are read from the left, as the functions of src/scan.rt do.
use Rattle.std.specs.Prelude.{◌≡◌, ℕ, Bool, true, false, ◌==◌, if◌then◌else◌, slice_index, List, [], ◌∷◌, length, take, drop, Option, Some, None, position}
use Rattle.std.specs.Str.{bytes_eq, is_utf8}
use Rattle.facts.specs.OptionSteps.{◌>>=◌}
use Rattle.script_lines.specs.Lines.{next_word}

-- what a function returned, seen by view, is what reading gives
abbrev pub Gives : {X Y : Type 0} → (X → Y) → Option X → Option Y → Type 0
Gives view None read = read ≡ None
Gives view (Some x) read = read ≡ Some (view x)

-- a reader of all the bytes
abbrev pub Whole : Type 0 → Type 0
Whole V = List ℕ → Option V

-- a reader of a prefix, which gives the bytes after it too
abbrev pub Prefix : Type 0 → Type 0
Prefix V = List ℕ → Option (V × List ℕ)

-- what stands after the literal
unfoldable pub after : List ℕ → Whole (List ℕ)
after literal bytes = if bytes_eq (take (length literal) bytes) literal then Some (drop (length literal) bytes) else None

-- the word before the first byte that begins the literal, and what stands after the literal there
unfoldable pub word_before : List ℕ → Prefix (List ℕ)
word_before literal bytes = do
  end ← position (λ b. b == slice_index literal 0) bytes
  rest ← after literal (drop end bytes)
  Some (take end bytes, rest)

-- the bytes, if they pass a test
abbrev pub tested : (List ℕ → Bool) → Whole (List ℕ)
tested test bytes = if test bytes then Some bytes else None

-- a prefix, as another reader reads it
abbrev pub within_prefix : {V : Type 0} → Prefix (List ℕ) → Whole V → Prefix V
within_prefix cut read bytes = do
  part ← cut bytes
  v ← read part.0
  Some (v, part.1)

-- a word before the literal, as another reader reads it
abbrev pub before : {V : Type 0} → List ℕ → Whole V → Prefix V
before literal = within_prefix (word_before literal)

-- a prefix, and all that is after it
infixr 8 ◌&>◌
abbrev pub ◌&>◌ : {V W : Type 0} → Prefix V → Whole W → Whole (V × W)
(read &> next) bytes = do
  v ← read bytes
  w ← next v.1
  Some (v.0, w)

-- the bytes, if they are a text
unfoldable pub utf8 : Whole (List ℕ)
utf8 = tested is_utf8

abbrev pub is_empty : List ℕ → Bool
is_empty [] = true
is_empty (b ∷ bytes) = false

-- a word and nothing after it
unfoldable pub only_word : Whole (List ℕ)
only_word bytes = do
  first ← next_word bytes
  if is_empty first.1 then Some first.0 else None

-- two words and nothing after them
unfoldable pub two_words : Whole (List ℕ × List ℕ)
two_words bytes = do
  first ← next_word bytes
  second ← only_word first.1
  Some (first.0, second)

-- bytes, at least one
unfoldable pub something : Whole (List ℕ)
something bytes = if is_empty bytes then None else Some bytes
