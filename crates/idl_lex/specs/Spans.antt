-- Tokens as slices of their text (docs/IDL.md, "Tokens").
use Rattle.std.specs.Prelude.{ℕ, ◌<◌, ◌≤◌, List, [], ◌∷◌, length, slice_range}
use Rattle.idl_lex.specs.declared.span.Span.{Span}
use Rattle.idl_lex.specs.declared.token.Token.{Token}
use Rattle.idl_lex.specs.Forms.{IsForm}

-- the bytes of a token
abbrev pub span : Token → Span
span t = record { start = t.start; end = t.end }

-- From an offset on the tokens stand one after the other in the text, and the slice of each has the form of its kind.
abbrev pub AreSpans : List ℕ → ℕ → List Token → Type 0
AreSpans text at [] = at ≤ length text
AreSpans text at (token ∷ tokens) =
    (at ≤ token.start) × (token.start < token.end) × IsForm token.kind (slice_range text token.start token.end) × AreSpans text token.end tokens
