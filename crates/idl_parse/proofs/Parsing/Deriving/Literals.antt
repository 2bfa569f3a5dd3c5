-- Names, literals and types of one word, at any depth.
use Rattle.std.proofs.Common.{◌≡◌, ℕ, ◌<◌, true, false, Some, List, [], ◌∷◌, refl}
use Rattle.idl_parse.specs.Depth.{following}
use Rattle.idl_parse.specs.Grammar.{Mark, SpanOf, Ident, Scoped, Array, LiteralOf, BasicOf, UnsignedOf, NamedOf}
use Rattle.idl_parse.specs.KindSteps.{same_kind, holds}
use Rattle.idl_parse.specs.ReadSteps.{span_at, second_at, scoped_at, array_at, named_literal_at, word_literal_at, literal_at, default_at, basic_at, unsigned_at, named_at, flat_at}
use Rattle.idl_parse.specs.Rules.{Gives, ◌⟫◌, Means, Either}
use Rattle.idl_lex.specs.Spans.{span}
use Rattle.idl_parse.specs.Words.{basic_of, unsigned_of, requirement_of, literal_of, scoped_name}
use Rattle.idl_lex.specs.declared.keyword.Keyword.TheVariants as words
use Rattle.idl_lex.specs.declared.kind.Kind.{Kind}
use Rattle.idl_lex.specs.declared.kind.Kind.TheVariants as kinds
use Rattle.idl_lex.specs.declared.sign.Sign.TheVariants.{OpenBracket, CloseBracket, Equals, PathSep}
use Rattle.idl_parse.specs.declared.tree.literal.Literal.TheVariants as literals
use Rattle.idl_parse.specs.declared.tree.literal.LiteralWord.TheVariants as forms
use Rattle.idl_parse.specs.declared.tree.member.Requirement.{Requirement}
use Rattle.idl_parse.specs.declared.tree.member.Requirement.TheVariants as requirements
use Rattle.idl_parse.specs.declared.tree.type_tree.BasicType.TheVariants as basics
use Rattle.idl_parse.specs.declared.tree.type_tree.TypeTree.TheVariants as types
use Rattle.idl_parse.proofs.Parsing.Combining.Choice.{one_kind}
use Rattle.idl_parse.proofs.Parsing.Combining.Combine.{next, done, either, maybe}
use Rattle.idl_parse.proofs.Parsing.Combining.Leaves.{single, one, Meaning, means}
use Rattle.idl_parse.proofs.Parsing.Combining.Readers.{Reads}

abbrev pub literal_words : List Kind
literal_words = kinds.Number ∷ kinds.Fraction ∷ kinds.Text ∷ kinds.Keyword words.True ∷ kinds.Keyword words.False ∷ []

literals_are : (kind : Kind) (x : forms.the_data) → literal_of kind ≡ Some x → holds kind literal_words ≡ true
unfolding holds same_kind
literals_are kinds.Number x is = refl
literals_are kinds.Fraction x is = refl
literals_are kinds.Text x is = refl
literals_are (kinds.Keyword words.True) x is = refl
literals_are (kinds.Keyword words.False) x is = refl
literals_are _ x is = cc

pub literals_flat : (kind : Kind) (x : forms.the_data) (a : ℕ) → literal_of kind ≡ Some x → following kind a ≡ a
literals_flat kinds.Number x a is = refl
literals_flat kinds.Fraction x a is = refl
literals_flat kinds.Text x a is = refl
literals_flat (kinds.Keyword word) x a is = refl
literals_flat _ x a is = cc

literal_meaning : Meaning literal_of literal_words
literal_meaning = record { among = literals_are; keeps_open = literals_flat; some_kind = kinds.Number; some_value = forms.Number; some_means = refl }

abbrev pub basic_words : List Kind
basic_words =
    kinds.Keyword words.Bool ∷ kinds.Keyword words.Byte ∷ kinds.Keyword words.Short ∷ kinds.Keyword words.Int
    ∷ kinds.Keyword words.Long ∷ kinds.Keyword words.Float ∷ kinds.Keyword words.Double ∷ kinds.Keyword words.String ∷ []

basics_are : (kind : Kind) (x : basics.the_data) → basic_of kind ≡ Some x → holds kind basic_words ≡ true
unfolding holds same_kind
basics_are (kinds.Keyword words.Bool) x is = refl
basics_are (kinds.Keyword words.Byte) x is = refl
basics_are (kinds.Keyword words.Short) x is = refl
basics_are (kinds.Keyword words.Int) x is = refl
basics_are (kinds.Keyword words.Long) x is = refl
basics_are (kinds.Keyword words.Float) x is = refl
basics_are (kinds.Keyword words.Double) x is = refl
basics_are (kinds.Keyword words.String) x is = refl
basics_are _ x is = cc

pub basics_flat : (kind : Kind) (x : basics.the_data) (a : ℕ) → basic_of kind ≡ Some x → following kind a ≡ a
basics_flat (kinds.Keyword word) x a is = refl
basics_flat _ x a is = cc

basic_meaning : Meaning basic_of basic_words
basic_meaning = record { among = basics_are; keeps_open = basics_flat; some_kind = kinds.Keyword words.Int; some_value = basics.Int; some_means = refl }

abbrev pub unsigned_words : List Kind
unsigned_words = kinds.Keyword words.Byte ∷ kinds.Keyword words.Short ∷ kinds.Keyword words.Int ∷ []

unsigned_are : (kind : Kind) (x : basics.the_data) → unsigned_of kind ≡ Some x → holds kind unsigned_words ≡ true
unfolding holds same_kind
unsigned_are (kinds.Keyword words.Byte) x is = refl
unsigned_are (kinds.Keyword words.Short) x is = refl
unsigned_are (kinds.Keyword words.Int) x is = refl
unsigned_are _ x is = cc

pub unsigned_flat : (kind : Kind) (x : basics.the_data) (a : ℕ) → unsigned_of kind ≡ Some x → following kind a ≡ a
unsigned_flat (kinds.Keyword word) x a is = refl
unsigned_flat _ x a is = cc

unsigned_meaning : Meaning unsigned_of unsigned_words
unsigned_meaning = record { among = unsigned_are; keeps_open = unsigned_flat; some_kind = kinds.Keyword words.Int; some_value = basics.UnsignedInt; some_means = refl }

abbrev pub requirement_words : List Kind
requirement_words = kinds.Keyword words.Require ∷ kinds.Keyword words.Optional ∷ []

requirements_are : (kind : Kind) (x : Requirement) → requirement_of kind ≡ Some x → holds kind requirement_words ≡ true
unfolding holds same_kind
requirements_are (kinds.Keyword words.Require) x is = refl
requirements_are (kinds.Keyword words.Optional) x is = refl
requirements_are _ x is = cc

pub requirements_flat : (kind : Kind) (x : Requirement) (a : ℕ) → requirement_of kind ≡ Some x → following kind a ≡ a
requirements_flat (kinds.Keyword word) x a is = refl
requirements_flat _ x a is = cc

pub requirement_meaning : Meaning requirement_of requirement_words
requirement_meaning = record { among = requirements_are; keeps_open = requirements_flat; some_kind = kinds.Keyword words.Require; some_value = requirements.Require; some_means = refl }

module _ (k n limit a : ℕ) (within : a < limit) where
  pub spanned : (kind : Kind) → following kind a ≡ a → Reads k n limit a a (single (kind ∷ [])) (SpanOf kind) (λ m. span_at kind)
  unfolding span_at
  spanned kind flat = let r = next refl (one k n limit a a kind within flat) (λ t. done (span t)) in r

  pub name : Reads k n limit a a (single (kinds.Ident ∷ [])) Ident (λ m. span_at kinds.Ident)
  name = spanned kinds.Ident refl

  second : Reads k n limit a a (one_kind (kinds.Sign PathSep) []) (Mark PathSep ⟫ λ _. Ident) (λ m. second_at)
  unfolding second_at
  second = let r = next refl (one k n limit a a (kinds.Sign PathSep) within refl) (λ _. name) in r

  pub scoped : Reads k n limit a a (one_kind kinds.Ident (kinds.Sign PathSep ∷ [])) Scoped (λ m. scoped_at)
  unfolding scoped_at holds same_kind
  scoped = let r = next refl name (λ first. next refl (maybe second) (λ second. done (scoped_name first second))) in r

  pub array : Reads k n limit a a (one_kind (kinds.Sign OpenBracket) []) Array (λ m. array_at)
  unfolding array_at
  array =
      let r = next refl (one k n limit a a (kinds.Sign OpenBracket) within refl) (λ bracket. next refl (spanned kinds.Number refl) (λ number.
      next refl (one k n limit a a (kinds.Sign CloseBracket) within refl) (λ _. done (record { at = bracket.start; length = number })))) in r

  named_literal : Reads k n limit a a (one_kind kinds.Ident (kinds.Sign PathSep ∷ [])) (Scoped ⟫ λ name. Gives (literals.Named name)) (λ m. named_literal_at)
  unfolding named_literal_at holds
  named_literal = let r = next refl scoped (λ name. done (literals.Named name)) in r

  word_literal : Reads k n limit a a (single literal_words) (Means literal_of ⟫ λ word. Gives (literals.Word word.1 (span word.0))) (λ m. word_literal_at)
  unfolding word_literal_at
  word_literal = let r = next refl (means k n limit a literal_of literal_words literal_meaning within) (λ word. done (literals.Word word.1 (span word.0))) in r

  pub literal : Reads k n limit a a (record { first = kinds.Ident ∷ literal_words; follow = kinds.Sign PathSep ∷ []; empty = false }) LiteralOf (λ m. literal_at)
  unfolding literal_at holds same_kind
  literal = let r = either refl named_literal word_literal in r

  pub default : Reads k n limit a a (one_kind (kinds.Sign Equals) (kinds.Sign PathSep ∷ [])) (Mark Equals ⟫ λ _. LiteralOf) (λ m. default_at)
  unfolding default_at
  default = let r = next refl (one k n limit a a (kinds.Sign Equals) within refl) (λ _. literal) in r

  -- ---- types of one word

  basic : Reads k n limit a a (single basic_words) BasicOf (λ m. basic_at)
  unfolding basic_at
  basic = let r = next refl (means k n limit a basic_of basic_words basic_meaning within) (λ word. done (types.Basic word.0.start word.1)) in r

  unsigned : Reads k n limit a a (one_kind (kinds.Keyword words.Unsigned) []) UnsignedOf (λ m. unsigned_at)
  unfolding unsigned_at
  unsigned =
      let r = next refl (one k n limit a a (kinds.Keyword words.Unsigned) within refl) (λ unsigned.
      next refl (means k n limit a unsigned_of unsigned_words unsigned_meaning within) (λ word. done (types.Basic unsigned.start word.1))) in r

  named : Reads k n limit a a (one_kind kinds.Ident (kinds.Sign PathSep ∷ [])) NamedOf (λ m. named_at)
  unfolding named_at holds
  named = let r = next refl scoped (λ name. done (types.Named name)) in r

  pub flat : Reads k n limit a a (record { first = kinds.Keyword words.Unsigned ∷ kinds.Ident ∷ basic_words; follow = kinds.Sign PathSep ∷ []; empty = false }) (Either UnsignedOf (Either NamedOf BasicOf)) (λ m. flat_at)
  unfolding flat_at holds same_kind
  flat = let r = either refl unsigned (either refl named basic) in r
