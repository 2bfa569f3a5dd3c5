-- Literals that fit a type, and the numbers of enumerators (docs/IDL.md, "Rules").
use Rattle.std.specs.Prelude.{ℕ, nat_le, Bool, true, false, ◌&&◌, if◌then◌else◌, ℤ, pos, ◌+ℤ◌, Option, Some, None, List, length, fold}
use Rattle.std.specs.List.{list_any}
use Rattle.std.specs.Str.{bytes_eq}
use Rattle.tars_model.specs.Values.{is_signed, is_unsigned}
use Rattle.idl_lex.specs.Meanings.{whole_number, plain_text}
use Rattle.idl_lex.specs.declared.span.Span.{Span}
use Rattle.idl_parse.specs.declared.tree.decl.EnumItem.{EnumItem}
use Rattle.idl_parse.specs.declared.tree.literal.Literal.{Literal}
use Rattle.idl_parse.specs.declared.tree.literal.Literal.TheVariants.{Word, Named}
use Rattle.idl_parse.specs.declared.tree.literal.LiteralWord.{LiteralWord}
use Rattle.idl_parse.specs.declared.tree.literal.LiteralWord.TheVariants as words
use Rattle.idl_parse.specs.declared.tree.type_tree.BasicType.{BasicType}
use Rattle.idl_parse.specs.declared.tree.type_tree.BasicType.TheVariants as basics
use Rattle.idl_parse.specs.declared.tree.type_tree.ScopedName.{ScopedName}
use Rattle.idl_parse.specs.declared.tree.type_tree.TypeTree.TheOpen as layer
use Rattle.idl_scene.specs.Items.{word}
use Rattle.idl_scene.specs.Known.{Scene, is_enum, enumerators_of}
use Rattle.idl_scene.specs.Types.{TypeLayer, meaning_of, first_of_name}

-- where a literal begins
abbrev pub literal_start : Literal → ℕ
literal_start (Word form span) = span.start
literal_start (Named name) = first_of_name name

-- the numbers of a type that is a word
abbrev pub is_number_of_word : BasicType → ℤ → Bool
is_number_of_word basics.Byte n = is_signed 7 n
is_number_of_word basics.Short n = is_signed 15 n
is_number_of_word basics.Int n = is_signed 31 n
is_number_of_word basics.Long n = is_signed 63 n
is_number_of_word basics.UnsignedByte n = is_unsigned 8 n
is_number_of_word basics.UnsignedShort n = is_unsigned 16 n
is_number_of_word basics.UnsignedInt n = is_unsigned 32 n
is_number_of_word _ n = false

-- a whole number of the type; of an enum those of int
abbrev pub fits_number : Scene → TypeLayer → ℤ → Bool
fits_number s (layer.Basic at basic) n = is_number_of_word basic n
fits_number s (layer.Named name) n = is_enum (meaning_of s name) && is_signed 31 n
fits_number s _ n = false

abbrev pub is_text : TypeLayer → Bool
is_text (layer.Basic at basics.Text) = true
is_text _ = false

abbrev pub is_bool : TypeLayer → Bool
is_bool (layer.Basic at basics.Bool) = true
is_bool _ = false

-- a text of at most so many bytes, if there is a limit
abbrev pub is_short : Option ℕ → List ℕ → Bool
is_short None bytes = true
is_short (Some most) bytes = nat_le (length bytes) most

abbrev pub fits_word : Scene → Option ℕ → TypeLayer → LiteralWord → List ℕ → Bool
fits_word s most ty words.Number bytes = fits_number s ty (whole_number bytes)
fits_word s most ty words.Fraction bytes = false
fits_word s most ty words.Text bytes = is_text ty && is_short most (plain_text bytes)
fits_word s most ty words.True bytes = is_bool ty
fits_word s most ty words.False bytes = is_bool ty

-- an enumerator alone, or after the name of its enum
abbrev pub names_enum : Scene → ScopedName → Option Span → Bool
names_enum s of None = true
names_enum s of (Some scope) = bytes_eq (word s.text scope) (word s.text of.name)

abbrev pub fits_name : Scene → TypeLayer → ScopedName → Bool
fits_name s (layer.Named of) name =
    names_enum s of name.scope && list_any (bytes_eq (word s.text name.name)) (enumerators_of (meaning_of s of))
fits_name s _ name = false

-- A literal that may be given to a type. A text has at most so many bytes, if there is a limit.
abbrev pub fits_literal : Scene → Option ℕ → TypeLayer → Literal → Bool
fits_literal s most ty (Word form span) = fits_word s most ty form (word s.text span)
fits_literal s most ty (Named name) = fits_name s ty name

-- ---- enumerators

-- the number that follows this one; after one that is no int, and so is refused, 0
abbrev pub number_after : ℤ → ℤ
number_after n = if is_signed 31 n then n +ℤ pos 1 else pos 0

-- the number that is written, or else the one that is next
abbrev pub number_at : List ℕ → ℤ → Option Span → ℤ
number_at text next None = next
number_at text next (Some span) = whole_number (word text span)

-- the number that comes next after these enumerators; the first is 0
abbrev pub next_number : List ℕ → List EnumItem → ℤ
next_number text items = fold (λ next (i : EnumItem). number_after (number_at text next i.number)) (pos 0) items

abbrev pub number_of_item : List ℕ → List EnumItem → EnumItem → ℤ
number_of_item text before i = number_at text (next_number text before) i.number

-- where the number stands, or the name if there is none
abbrev pub number_start : EnumItem → Option Span → ℕ
number_start i None = i.name.start
number_start i (Some span) = span.start
