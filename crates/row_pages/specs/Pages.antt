-- The page of a row: its text, and `None` once memory has run out.
use Rattle.std.specs.Prelude.{◌≡◌, ◌++◌, ℕ, List, Option, IfSome, IsSomeAnd}

-- Where memory sufficed, the new page is the old one with the text after it.
abbrev pub Adds : Option (List ℕ) → List ℕ → Option (List ℕ) → Type 0
Adds old text new = IfSome new (λ all. IsSomeAnd old (λ before. all ≡ before ++ text))

-- The same of a text that may be unknown.
abbrev pub AddsOutput : Option (List ℕ) → Option (List ℕ) → Option (List ℕ) → Type 0
AddsOutput old output new = IfSome output (λ text. Adds old text new)
