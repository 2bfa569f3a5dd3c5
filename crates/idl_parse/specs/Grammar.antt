-- The grammar of interface files (docs/IDL.md, "Grammar"), a production a definition. `room` is how many
-- types may stand one inside the other.
use Rattle.std.specs.Prelude.{ℕ, zero, suc, Bool, true, false, Option, Some, None, List, [], ◌∷◌}
use Rattle.idl_parse.specs.Rules.{Rel, Gives, ◌⟫◌, One, Means, Either, Maybe, Many}
use Rattle.idl_lex.specs.Spans.{span}
use Rattle.idl_parse.specs.Words.{basic_of, unsigned_of, requirement_of, literal_of, scoped_name}
use Rattle.idl_lex.specs.declared.keyword.Keyword.TheVariants as words
use Rattle.idl_lex.specs.declared.kind.Kind.{Kind}
use Rattle.idl_lex.specs.declared.kind.Kind.TheVariants as kinds
use Rattle.idl_lex.specs.declared.sign.Sign.TheVariants.{OpenBrace, CloseBrace, OpenParen, CloseParen, OpenBracket, CloseBracket, Less, Greater, Comma, Semicolon, Equals, PathSep}
use Rattle.idl_lex.specs.declared.sign.Sign as sign
use Rattle.idl_lex.specs.declared.keyword.Keyword as keyword
use Rattle.idl_lex.specs.declared.span.Span.{Span}
use Rattle.idl_lex.specs.declared.token.Token.{Token}
use Rattle.idl_parse.specs.declared.tree.decl.DeclTree.{DeclTree}
use Rattle.idl_parse.specs.declared.tree.decl.DeclTree.TheVariants as decls
use Rattle.idl_parse.specs.declared.tree.decl.EnumItem.{EnumItem}
use Rattle.idl_parse.specs.declared.tree.func.FuncTree.{FuncTree}
use Rattle.idl_parse.specs.declared.tree.func.ParamTree.{ParamTree}
use Rattle.idl_parse.specs.declared.tree.literal.Literal.{Literal}
use Rattle.idl_parse.specs.declared.tree.literal.Literal.TheVariants as literals
use Rattle.idl_parse.specs.declared.tree.member.ArrayLen.{ArrayLen}
use Rattle.idl_parse.specs.declared.tree.member.MemberTree.{MemberTree}
use Rattle.idl_parse.specs.declared.tree.module.Entry.{Entry}
use Rattle.idl_parse.specs.declared.tree.module.Entry.TheVariants as entries
use Rattle.idl_parse.specs.declared.tree.type_tree.ScopedName.{ScopedName}
use Rattle.idl_parse.specs.declared.tree.type_tree.TypeTree.{TypeTree}
use Rattle.idl_parse.specs.declared.tree.type_tree.TypeTree.TheVariants as types
use Rattle.idl_parse.specs.declared.tree.type_tree.TypedName.{TypedName}

-- how many types may stand one inside the other, the innermost counted
abbrev pub nesting_limit : ℕ
nesting_limit = 16

abbrev pub Word : keyword.Keyword → Rel Token
Word word = One (kinds.Keyword word)

abbrev pub Mark : sign.Sign → Rel Token
Mark sign = One (kinds.Sign sign)

-- the span of a token
abbrev pub SpanOf : Kind → Rel Span
SpanOf kind = One kind ⟫ λ t. Gives (span t)

abbrev pub Ident : Rel Span
Ident = SpanOf kinds.Ident

abbrev pub Number : Rel Span
Number = SpanOf kinds.Number

-- ident [ "::" ident ]
abbrev pub Scoped : Rel ScopedName
Scoped = Ident ⟫ λ first. Maybe (Mark PathSep ⟫ λ _. Ident) ⟫ λ second. Gives (scoped_name first second)

-- "[" number "]"
abbrev pub Array : Rel ArrayLen
Array = Mark OpenBracket ⟫ λ bracket. Number ⟫ λ number. Mark CloseBracket ⟫ λ _. Gives (record { at = bracket.start; length = number })

-- literal = number | fraction | text | "true" | "false" | ident [ "::" ident ]
abbrev pub LiteralOf : Rel Literal
LiteralOf =
    Either (Scoped ⟫ λ name. Gives (literals.Named name))
    (Means literal_of ⟫ λ word. Gives (literals.Word word.1 (span word.0)))

-- type = basic | "vector" "<" type ">" | "map" "<" type "," type ">" | ident [ "::" ident ]
abbrev pub BasicOf : Rel TypeTree
BasicOf = Means basic_of ⟫ λ word. Gives (types.Basic word.0.start word.1)

abbrev pub UnsignedOf : Rel TypeTree
UnsignedOf = Word words.Unsigned ⟫ λ unsigned. Means unsigned_of ⟫ λ word. Gives (types.Basic unsigned.start word.1)

abbrev pub VectorOf : Rel TypeTree → Rel TypeTree
VectorOf Inner =
    Word words.Vector ⟫ λ vector. Mark Less ⟫ λ _. Inner ⟫ λ element. Mark Greater ⟫ λ _.
    Gives (types.Vector vector.start element)

abbrev pub MapOf : Rel TypeTree → Rel TypeTree
MapOf Inner =
    Word words.Map ⟫ λ map. Mark Less ⟫ λ _. Inner ⟫ λ key. Mark Comma ⟫ λ _. Inner ⟫ λ value. Mark Greater ⟫ λ _.
    Gives (types.Map map.start key value)

abbrev pub NamedOf : Rel TypeTree
NamedOf = Scoped ⟫ λ name. Gives (types.Named name)

abbrev pub TypeOf : ℕ → Rel TypeTree
TypeOf zero = λ _ _ _. ⊥
TypeOf (suc room) =
    Either (VectorOf (TypeOf room)) (Either (MapOf (TypeOf room)) (Either UnsignedOf (Either NamedOf BasicOf)))

-- type ident
abbrev pub Typed : ℕ → Rel TypedName
Typed room = TypeOf room ⟫ λ ty. Ident ⟫ λ name. Gives (record { ty = ty; name = name })

-- { P ";" } "}"
abbrev pub Block : {A : Type 0} → Rel A → Rel (List A)
Block P = Many (P ⟫ λ x. Mark Semicolon ⟫ λ _. Gives x) ⟫ λ xs. Mark CloseBrace ⟫ λ _. Gives xs

-- P { "," P }
abbrev pub Listed : {A : Type 0} → Rel A → Rel (List A)
Listed P = P ⟫ λ x. Many (Mark Comma ⟫ λ _. P) ⟫ λ xs. Gives (x ∷ xs)

-- member = number ("require" | "optional") type ident [ "[" number "]" ] [ "=" literal ]
abbrev pub Member : ℕ → Rel MemberTree
Member room =
    Number ⟫ λ tag. Means requirement_of ⟫ λ requirement. Typed room ⟫ λ typed. Maybe Array ⟫ λ array.
    Maybe (Mark Equals ⟫ λ _. LiteralOf) ⟫ λ default.
    Gives (record { tag = tag; requirement = requirement.1; typed = typed; array = array; default = default })

-- struct = "struct" ident "{" { member ";" } "}"
abbrev pub Struct : ℕ → Rel DeclTree
Struct room =
    Word words.Struct ⟫ λ _. Ident ⟫ λ name. Mark OpenBrace ⟫ λ _. Block (Member room) ⟫ λ members.
    Gives (decls.Struct (record { name = name; members = members }))

-- item = ident [ "=" number ]
abbrev pub Item : Rel EnumItem
Item = Ident ⟫ λ name. Maybe (Mark Equals ⟫ λ _. Number) ⟫ λ number. Gives (record { name = name; number = number })

-- enum = "enum" ident "{" [ item { "," item } [ "," ] ] "}"
abbrev pub Items : Rel (List EnumItem)
Items = Either (Listed Item ⟫ λ items. Maybe (Mark Comma) ⟫ λ _. Gives items) (Gives [])

abbrev pub Enum : Rel DeclTree
Enum =
    Word words.Enum ⟫ λ _. Ident ⟫ λ name. Mark OpenBrace ⟫ λ _. Items ⟫ λ items. Mark CloseBrace ⟫ λ _.
    Gives (decls.Enum (record { name = name; items = items }))

-- const = "const" type ident "=" literal
abbrev pub Const : ℕ → Rel DeclTree
Const room =
    Word words.Const ⟫ λ _. Typed room ⟫ λ typed. Mark Equals ⟫ λ _. LiteralOf ⟫ λ value.
    Gives (decls.Const (record { typed = typed; value = value }))

-- key = "key" "[" ident { "," ident } "]"
abbrev pub Key : Rel DeclTree
Key =
    Word words.Key ⟫ λ _. Mark OpenBracket ⟫ λ _. Ident ⟫ λ struct_name. Many (Mark Comma ⟫ λ _. Ident) ⟫ λ members. Mark CloseBracket ⟫ λ _.
    Gives (decls.Key (record { struct_name = struct_name; members = members }))

-- param = [ "routekey" ] [ "out" ] type ident
abbrev pub start_of : Option Token → Option ℕ
start_of None = None
start_of (Some t) = Some t.start

abbrev pub is_there : Option Token → Bool
is_there None = false
is_there (Some t) = true

abbrev pub Param : ℕ → Rel ParamTree
Param room =
    Maybe (Word words.Routekey) ⟫ λ routekey. Maybe (Word words.Out) ⟫ λ out. Typed room ⟫ λ typed.
    Gives (record { routekey = start_of routekey; out = is_there out; typed = typed })

-- func = ("void" | type) ident "(" [ param { "," param } ] ")"
abbrev pub Ret : ℕ → Rel (Option TypeTree)
Ret room = Either (Word words.Void ⟫ λ _. Gives None) (TypeOf room ⟫ λ ty. Gives (Some ty))

abbrev pub Params : ℕ → Rel (List ParamTree)
Params room = Either (Listed (Param room)) (Gives [])

abbrev pub Func : ℕ → Rel FuncTree
Func room =
    Ret room ⟫ λ ret. Ident ⟫ λ name. Mark OpenParen ⟫ λ _. Params room ⟫ λ params. Mark CloseParen ⟫ λ _.
    Gives (record { ret = ret; name = name; params = params })

-- interface = "interface" ident "{" { func ";" } "}"
abbrev pub Interface : ℕ → Rel DeclTree
Interface room =
    Word words.Interface ⟫ λ _. Ident ⟫ λ name. Mark OpenBrace ⟫ λ _. Block (Func room) ⟫ λ funcs.
    Gives (decls.Interface (record { name = name; funcs = funcs }))

-- decl = struct | enum | const | key | interface
abbrev pub Decl : ℕ → Rel DeclTree
Decl room = Either (Struct room) (Either Enum (Either (Const room) (Either Key (Interface room))))

-- module = "module" ident "{" { decl ";" } "}" ";"
abbrev pub Module : ℕ → Rel Entry
Module room =
    Word words.Module ⟫ λ _. Ident ⟫ λ name. Mark OpenBrace ⟫ λ _. Block (Decl room) ⟫ λ decls. Mark Semicolon ⟫ λ _.
    Gives (entries.Module (record { name = name; decls = decls }))

-- file = { "#include" text | module }
abbrev pub EntryOf : ℕ → Rel Entry
EntryOf room = Either (One kinds.Include ⟫ λ _. SpanOf kinds.Text ⟫ λ text. Gives (entries.Include text)) (Module room)

-- The tokens are a file with these entries, in which at most so many types stand one inside the other.
abbrev pub IsFile : ℕ → List Token → List Entry → Type 0
IsFile room tokens entries = Many (EntryOf room) tokens entries []
