-- Tokens that mean something by themselves (docs/IDL.md, "Grammar").
use Rattle.std.specs.Prelude.{Option, Some, None}
use Rattle.idl_lex.specs.declared.keyword.Keyword.TheVariants as words
use Rattle.idl_lex.specs.declared.kind.Kind.{Kind}
use Rattle.idl_lex.specs.declared.kind.Kind.TheVariants.{Keyword, Number, Fraction, Text}
use Rattle.idl_lex.specs.declared.span.Span.{Span}
use Rattle.idl_parse.specs.declared.tree.literal.LiteralWord.{LiteralWord}
use Rattle.idl_parse.specs.declared.tree.literal.LiteralWord.TheVariants as forms
use Rattle.idl_parse.specs.declared.tree.member.Requirement.{Requirement}
use Rattle.idl_parse.specs.declared.tree.member.Requirement.TheVariants as requirements
use Rattle.idl_parse.specs.declared.tree.type_tree.BasicType.{BasicType}
use Rattle.idl_parse.specs.declared.tree.type_tree.BasicType.TheVariants as basics
use Rattle.idl_parse.specs.declared.tree.type_tree.ScopedName.{ScopedName}

-- "bool" | "byte" | "short" | "int" | "long" | "float" | "double" | "string"
abbrev pub basic_of : Kind → Option BasicType
basic_of (Keyword words.Bool) = Some basics.Bool
basic_of (Keyword words.Byte) = Some basics.Byte
basic_of (Keyword words.Short) = Some basics.Short
basic_of (Keyword words.Int) = Some basics.Int
basic_of (Keyword words.Long) = Some basics.Long
basic_of (Keyword words.Float) = Some basics.Float
basic_of (Keyword words.Double) = Some basics.Double
basic_of (Keyword words.String) = Some basics.Text
basic_of _ = None

-- "byte" | "short" | "int", after "unsigned"
abbrev pub unsigned_of : Kind → Option BasicType
unsigned_of (Keyword words.Byte) = Some basics.UnsignedByte
unsigned_of (Keyword words.Short) = Some basics.UnsignedShort
unsigned_of (Keyword words.Int) = Some basics.UnsignedInt
unsigned_of _ = None

-- "require" | "optional"
abbrev pub requirement_of : Kind → Option Requirement
requirement_of (Keyword words.Require) = Some requirements.Require
requirement_of (Keyword words.Optional) = Some requirements.Optional
requirement_of _ = None

-- number | fraction | text | "true" | "false"
abbrev pub literal_of : Kind → Option LiteralWord
literal_of Number = Some forms.Number
literal_of Fraction = Some forms.Fraction
literal_of Text = Some forms.Text
literal_of (Keyword words.True) = Some forms.True
literal_of (Keyword words.False) = Some forms.False
literal_of _ = None

-- the name that stands alone, or after `::`
abbrev pub scoped_name : Span → Option Span → ScopedName
scoped_name first None = record { scope = None; name = first }
scoped_name first (Some second) = record { scope = Some first; name = second }
