-- For the proofs: numbers of declarations that fit the code's types.
use Rattle.std.specs.Prelude.{◌≡◌, ℕ, true, List}
use Rattle.tars_model.specs.Values.{is_signed, is_unsigned}
use Rattle.idl_lex.specs.Meanings.{whole_number}
use Rattle.idl_parse.specs.TreeSpans.{IfThere, MemberIn}
use Rattle.idl_lex.specs.declared.span.Span.{Span}
use Rattle.idl_parse.specs.declared.tree.literal.Literal.{Literal}
use Rattle.idl_parse.specs.declared.tree.literal.Literal.TheVariants as literals
use Rattle.idl_parse.specs.declared.tree.literal.LiteralWord.TheVariants as words
use Rattle.idl_parse.specs.declared.tree.member.MemberTree.{MemberTree}
use Rattle.idl_scene.specs.Items.{word}

-- a number of 64 bits
abbrev pub IsLong : List ℕ → Span → Type 0
IsLong text span = is_signed 63 (whole_number (word text span)) ≡ true

abbrev pub LiteralLong : List ℕ → Literal → Type 0
LiteralLong text (literals.Word words.Number span) = IsLong text span
LiteralLong text _ = Unit {0}

-- a member whose tag is a byte
pub record MemberReads (text : List ℕ) (m : MemberTree) : Type 0 where
  pub inside : MemberIn text m
  pub tag : is_unsigned 8 (whole_number (word text m.tag)) ≡ true
  pub default : IfThere (LiteralLong text) m.default
