-- How keywords and signs are written (docs/IDL.md, "Tokens").
use Rattle.std.specs.Prelude.{ℕ, List, codes}
use Rattle.idl_lex.specs.declared.keyword.Keyword.{Keyword}
use Rattle.idl_lex.specs.declared.keyword.Keyword.TheVariants as keyword
use Rattle.idl_lex.specs.declared.sign.Sign.{Sign}
use Rattle.idl_lex.specs.declared.sign.Sign.TheVariants as sign

abbrev pub keyword_text : Keyword → List ℕ
keyword_text keyword.Void = codes "void"
keyword_text keyword.Struct = codes "struct"
keyword_text keyword.Bool = codes "bool"
keyword_text keyword.Byte = codes "byte"
keyword_text keyword.Short = codes "short"
keyword_text keyword.Int = codes "int"
keyword_text keyword.Long = codes "long"
keyword_text keyword.Float = codes "float"
keyword_text keyword.Double = codes "double"
keyword_text keyword.String = codes "string"
keyword_text keyword.Vector = codes "vector"
keyword_text keyword.Map = codes "map"
keyword_text keyword.Key = codes "key"
keyword_text keyword.Routekey = codes "routekey"
keyword_text keyword.Module = codes "module"
keyword_text keyword.Interface = codes "interface"
keyword_text keyword.Out = codes "out"
keyword_text keyword.Require = codes "require"
keyword_text keyword.Optional = codes "optional"
keyword_text keyword.False = codes "false"
keyword_text keyword.True = codes "true"
keyword_text keyword.Enum = codes "enum"
keyword_text keyword.Const = codes "const"
keyword_text keyword.Unsigned = codes "unsigned"

abbrev pub sign_text : Sign → List ℕ
sign_text sign.OpenBrace = codes "{"
sign_text sign.CloseBrace = codes "}"
sign_text sign.OpenParen = codes "("
sign_text sign.CloseParen = codes ")"
sign_text sign.OpenBracket = codes "["
sign_text sign.CloseBracket = codes "]"
sign_text sign.Less = codes "<"
sign_text sign.Greater = codes ">"
sign_text sign.Comma = codes ","
sign_text sign.Semicolon = codes ";"
sign_text sign.Equals = codes "="
sign_text sign.PathSep = codes "::"
