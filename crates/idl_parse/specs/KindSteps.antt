-- For the proofs: kinds of tokens by numbers, to tell them apart.
use Rattle.std.specs.Prelude.{ℕ, ◌==◌, Bool, false, ◌||◌, List, [], ◌∷◌, Option, Some, None}
use Rattle.idl_lex.specs.declared.keyword.Keyword.{Keyword}
use Rattle.idl_lex.specs.declared.keyword.Keyword.TheVariants as words
use Rattle.idl_lex.specs.declared.kind.Kind.{Kind}
use Rattle.idl_lex.specs.declared.kind.Kind.TheVariants as kinds
use Rattle.idl_lex.specs.declared.sign.Sign.{Sign}
use Rattle.idl_lex.specs.declared.sign.Sign.TheVariants as signs
use Rattle.idl_lex.specs.declared.token.Token.{Token}

abbrev pub code_of_word : Keyword → ℕ
code_of_word words.Void = 0
code_of_word words.Struct = 1
code_of_word words.Bool = 2
code_of_word words.Byte = 3
code_of_word words.Short = 4
code_of_word words.Int = 5
code_of_word words.Long = 6
code_of_word words.Float = 7
code_of_word words.Double = 8
code_of_word words.String = 9
code_of_word words.Vector = 10
code_of_word words.Map = 11
code_of_word words.Key = 12
code_of_word words.Routekey = 13
code_of_word words.Module = 14
code_of_word words.Interface = 15
code_of_word words.Out = 16
code_of_word words.Require = 17
code_of_word words.Optional = 18
code_of_word words.False = 19
code_of_word words.True = 20
code_of_word words.Enum = 21
code_of_word words.Const = 22
code_of_word words.Unsigned = 23

abbrev pub code_of_sign : Sign → ℕ
code_of_sign signs.OpenBrace = 24
code_of_sign signs.CloseBrace = 25
code_of_sign signs.OpenParen = 26
code_of_sign signs.CloseParen = 27
code_of_sign signs.OpenBracket = 28
code_of_sign signs.CloseBracket = 29
code_of_sign signs.Less = 30
code_of_sign signs.Greater = 31
code_of_sign signs.Comma = 32
code_of_sign signs.Semicolon = 33
code_of_sign signs.Equals = 34
code_of_sign signs.PathSep = 35

abbrev pub code_of : Kind → ℕ
code_of (kinds.Keyword word) = code_of_word word
code_of (kinds.Sign sign) = code_of_sign sign
code_of kinds.Ident = 36
code_of kinds.Number = 37
code_of kinds.Fraction = 38
code_of kinds.Text = 39
code_of kinds.Include = 40

unfoldable pub same_kind : Kind → Kind → Bool
same_kind a b = code_of a == code_of b

-- the kind is among these
unfoldable pub holds : Kind → List Kind → Bool
holds kind [] = false
holds kind (k ∷ ks) = same_kind kind k || holds kind ks

unfoldable pub first_kind : List Token → Option Kind
first_kind [] = None
first_kind (t ∷ ts) = Some t.kind

-- the first token is of the kind
unfoldable pub begins : Kind → List Token → Bool
begins kind [] = false
begins kind (t ∷ ts) = same_kind t.kind kind
