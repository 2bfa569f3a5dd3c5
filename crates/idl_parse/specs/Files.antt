-- A file that is read, and the names that its includes give (docs/IDL.md, "Grammar").
use Rattle.std.specs.Prelude.{◌≡◌, ◌<◌, ◌^◌, ℕ, Some, List, [], ◌∷◌, length, slice_get, slice_range}
use Rattle.idl_parse.specs.Grammar.{nesting_limit, IsFile}
use Rattle.idl_lex.specs.Texts.{TextSpells}
use Rattle.idl_lex.specs.Tokens.{Tokens}
use Rattle.idl_lex.specs.declared.span.Span.{Span}
use Rattle.idl_lex.specs.declared.token.Token.{Token}
use Rattle.idl_parse.specs.declared.tree.module.Entry.{Entry}
use Rattle.idl_parse.specs.declared.tree.module.Entry.TheVariants.{Include, Module}

-- what callers see of it
pub record File : Type 0 where
  pub name : List ℕ
  pub text : List ℕ
  pub entries : List Entry

-- the text is a file with these entries: the grammar derives them from its tokens
pub record IsFileText (text : List ℕ) (entries : List Entry) : Type 0 where
  pub tokens : List Token
  pub are : Tokens text tokens
  pub derived : IsFile nesting_limit tokens entries

-- the text in quotes at this span spells these bytes
abbrev pub SpellsAt : List ℕ → Span → List ℕ → Type 0
SpellsAt text span bytes = TextSpells bytes (slice_range text span.start span.end) []

-- where the texts of the includes stand, in the order of the text
abbrev pub include_spans : List Entry → List Span
include_spans [] = []
include_spans (Include span ∷ entries) = span ∷ include_spans entries
include_spans (Module m ∷ entries) = include_spans entries

-- at each of these spans these bytes are spelled
abbrev pub AllSpell : List ℕ → List Span → List (List ℕ) → Type 0
AllSpell text [] [] = Unit {0}
AllSpell text (span ∷ spans) (name ∷ names) = SpellsAt text span name × AllSpell text spans names
AllSpell text _ _ = ⊥

-- the include of this number, from 0, gives this name
abbrev pub IsInclude : File → ℕ → List ℕ → Type 0
IsInclude file k name = (span : Span) × (slice_get (include_spans file.entries) k ≡ Some span) × SpellsAt file.text span name

-- what holds of a file that is read
pub record IsAst (text : List ℕ) (entries : List Entry) (includes : List (List ℕ)) : Type 0 where
  pub short : length text < 2 ^ 32
  pub file : IsFileText text entries
  pub names : AllSpell text (include_spans entries) includes
