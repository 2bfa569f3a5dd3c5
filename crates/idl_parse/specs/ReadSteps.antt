-- For the proofs: how tokens are read from left to right, as the functions of the parser do. Each gives a tree with
-- the tokens after it, or where and why reading stops.
use Rattle.std.specs.Prelude.{◌≡◌, ◌<◌, ℕ, zero, suc, Bool, true, false, if◌then◌else◌, Option, Some, None, Result, Ok, Err, List, [], ◌∷◌, ◌++◌, length}
use Rattle.facts.specs.ResultSteps.{◌>>=◌}
use Rattle.idl_parse.specs.KindSteps.{same_kind, begins}
use Rattle.idl_lex.specs.Spans.{span}
use Rattle.idl_parse.specs.Words.{basic_of, unsigned_of, requirement_of, literal_of, scoped_name}
use Rattle.idl_parse.specs.Grammar.{start_of, is_there}
use Rattle.idl_lex.specs.declared.keyword.Keyword.TheVariants as words
use Rattle.idl_lex.specs.declared.kind.Kind.{Kind}
use Rattle.idl_lex.specs.declared.kind.Kind.TheVariants as kinds
use Rattle.idl_parse.specs.declared.parse_fault.ParseWhy.{ParseWhy}
use Rattle.idl_parse.specs.declared.parse_fault.ParseWhy.TheVariants.{Unexpected, TooDeep}
use Rattle.idl_parse.specs.declared.parser.halt.Halt.{Halt}
use Rattle.idl_parse.specs.declared.parser.halt.Halt.TheVariants as halts
use Rattle.idl_lex.specs.declared.sign.Sign.TheVariants.{OpenBrace, CloseBrace, OpenParen, CloseParen, OpenBracket, CloseBracket, Less, Greater, Comma, Semicolon, Equals, PathSep}
use Rattle.idl_lex.specs.declared.keyword.Keyword.{Keyword}
use Rattle.idl_lex.specs.declared.sign.Sign.{Sign}
use Rattle.idl_lex.specs.declared.span.Span.{Span}
use Rattle.idl_lex.specs.declared.token.Token.{Token}
use Rattle.idl_parse.specs.declared.tree.decl.DeclTree.{DeclTree}
use Rattle.idl_parse.specs.declared.tree.decl.DeclTree.TheVariants as decls
use Rattle.idl_parse.specs.declared.tree.decl.EnumItem.{EnumItem}
use Rattle.idl_parse.specs.declared.tree.func.FuncTree.{FuncTree}
use Rattle.idl_parse.specs.declared.tree.func.ParamTree.{ParamTree}
use Rattle.idl_parse.specs.declared.tree.literal.Literal.{Literal}
use Rattle.idl_parse.specs.declared.tree.literal.Literal.TheVariants as literals
use Rattle.idl_parse.specs.declared.tree.member.ArrayLen.{ArrayLen}
use Rattle.idl_parse.specs.declared.tree.member.MemberTree.{MemberTree}
use Rattle.idl_parse.specs.declared.tree.module.Entry.{Entry}
use Rattle.idl_parse.specs.declared.tree.module.Entry.TheVariants as entries
use Rattle.idl_parse.specs.declared.tree.type_tree.ScopedName.{ScopedName}
use Rattle.idl_parse.specs.declared.tree.type_tree.TypeTree.{TypeTree}
use Rattle.idl_parse.specs.declared.tree.type_tree.TypeTree.TheVariants as types
use Rattle.idl_parse.specs.declared.tree.type_tree.TypedName.{TypedName}

-- the tokens that are left, and why reading stops before them
pub record Stop : Type 0 where
  pub left : List Token
  pub why : ParseWhy

abbrev pub Read : Type 0 → Type 0
Read A = Result (A × List Token) Stop

-- what is read takes a token
abbrev pub Shrinks : {A : Type 0} → (List Token → Read A) → Type 0
Shrinks {A} f = (ts : List Token) (x : A) (rest : List Token) → f ts ≡ Ok (x, rest) → length rest < length ts

-- the reading that stops in this way where these tokens are left, unless memory ran out
abbrev pub Fails : {A : Type 0} → Halt → List Token → Result A Stop → Type 0
Fails halts.Memory left read = Unit {0}
Fails (halts.Grammar why) left read = read ≡ Err (record { left = left; why = why })

-- what a function returned, and the tokens that it left, are what reading gives
abbrev pub Reads : {A : Type 0} → Result A Halt → List Token → Read A → Type 0
Reads (Ok x) after read = read ≡ Ok (x, after)
Reads (Err e) after read = Fails e after read

-- the same where no tokens are left at the end
abbrev pub ReadsAll : {A : Type 0} → Result A Halt → List Token → Result A Stop → Type 0
ReadsAll (Ok x) after read = read ≡ Ok x
ReadsAll (Err e) after read = Fails e after read

-- where the first token is of the kind it is taken, else nothing
abbrev pub Eats : Bool → List Token → Read Token → List Token → Type 0
Eats true after read before = (t : Token) × (read ≡ Ok (t, after))
Eats false after read before = after ≡ before

-- the token that was taken, or the tokens as they were
abbrev pub Takes : Option Token → List Token → Read Token → List Token → Type 0
Takes (Some t) after read before = read ≡ Ok (t, after)
Takes None after read before = after ≡ before

-- the first token, or that there is none
abbrev pub HasFirst : Result Token Halt → List Token → Type 0
HasFirst (Ok t) tokens = (rest : List Token) × (tokens ≡ t ∷ rest)
HasFirst (Err e) tokens = (tokens ≡ []) × (e ≡ halts.Grammar Unexpected)

abbrev pub unexpected : {B : Type 0} → List Token → Result B Stop
unexpected tokens = Err (record { left = tokens; why = Unexpected })

-- one token
unfoldable pub one_at : Kind → List Token → Read Token
one_at kind [] = unexpected []
one_at kind (t ∷ rest) = if same_kind t.kind kind then Ok (t, rest) else unexpected (t ∷ rest)

abbrev pub mark_at : Sign → List Token → Read Token
mark_at sign = one_at (kinds.Sign sign)

unfoldable pub span_at : Kind → List Token → Read Span
span_at kind tokens = do
  t ← one_at kind tokens
  Ok (span t.0, t.1)

abbrev pub meant : {A : Type 0} → Option A → Token → List Token → Read (Token × A)
meant None t rest = unexpected (t ∷ rest)
meant (Some x) t rest = Ok ((t, x), rest)

unfoldable pub means_at : {A : Type 0} → (Kind → Option A) → List Token → Read (Token × A)
means_at meaning [] = unexpected []
means_at meaning (t ∷ rest) = meant (meaning t.kind) t rest

-- where the first token is of the kind, what f reads
abbrev pub maybe_at : {A : Type 0} → Kind → (List Token → Read A) → List Token → Read (Option A)
maybe_at kind f tokens =
    if begins kind tokens then (f tokens >>= λ x. Ok (Some x.0, x.1)) else Ok (None, tokens)

unfoldable pub second_at : List Token → Read Span
second_at tokens = do
  sep ← mark_at PathSep tokens
  span_at kinds.Ident sep.1

unfoldable pub scoped_at : List Token → Read ScopedName
scoped_at tokens = do
  first ← span_at kinds.Ident tokens
  second ← maybe_at (kinds.Sign PathSep) second_at first.1
  Ok (scoped_name first.0 second.0, second.1)

unfoldable pub array_at : List Token → Read ArrayLen
array_at tokens = do
  bracket ← mark_at OpenBracket tokens
  number ← span_at kinds.Number bracket.1
  close ← mark_at CloseBracket number.1
  Ok (record { at = bracket.0.start; length = number.0 }, close.1)

unfoldable pub named_literal_at : List Token → Read Literal
named_literal_at tokens = do
  name ← scoped_at tokens
  Ok (literals.Named name.0, name.1)

unfoldable pub word_literal_at : List Token → Read Literal
word_literal_at tokens = do
  word ← means_at literal_of tokens
  Ok (literals.Word word.0.1 (span word.0.0), word.1)

unfoldable pub literal_at : List Token → Read Literal
literal_at tokens = if begins kinds.Ident tokens then named_literal_at tokens else word_literal_at tokens

-- "=" literal
unfoldable pub default_at : List Token → Read Literal
default_at tokens = do
  equals ← mark_at Equals tokens
  literal_at equals.1

-- ---- types

unfoldable pub basic_at : List Token → Read TypeTree
basic_at tokens = do
  word ← means_at basic_of tokens
  Ok (types.Basic word.0.0.start word.0.1, word.1)

unfoldable pub unsigned_at : List Token → Read TypeTree
unsigned_at tokens = do
  unsigned ← one_at (kinds.Keyword words.Unsigned) tokens
  word ← means_at unsigned_of unsigned.1
  Ok (types.Basic unsigned.0.start word.0.1, word.1)

unfoldable pub named_at : List Token → Read TypeTree
named_at tokens = do
  name ← scoped_at tokens
  Ok (types.Named name.0, name.1)

-- the tokens that begin a type
abbrev pub is_type_start : Kind → Bool
is_type_start kinds.Ident = true
is_type_start (kinds.Keyword words.Bool) = true
is_type_start (kinds.Keyword words.Byte) = true
is_type_start (kinds.Keyword words.Short) = true
is_type_start (kinds.Keyword words.Int) = true
is_type_start (kinds.Keyword words.Long) = true
is_type_start (kinds.Keyword words.Float) = true
is_type_start (kinds.Keyword words.Double) = true
is_type_start (kinds.Keyword words.String) = true
is_type_start (kinds.Keyword words.Vector) = true
is_type_start (kinds.Keyword words.Map) = true
is_type_start (kinds.Keyword words.Unsigned) = true
is_type_start _ = false

unfoldable pub no_room_at : List Token → Read TypeTree
no_room_at [] = unexpected []
no_room_at (t ∷ rest) =
    if is_type_start t.kind then Err (record { left = t ∷ rest; why = TooDeep }) else unexpected (t ∷ rest)

-- a type that is no vector or map
unfoldable pub flat_at : List Token → Read TypeTree
flat_at tokens =
    if begins (kinds.Keyword words.Unsigned) tokens then unsigned_at tokens
    else (if begins kinds.Ident tokens then named_at tokens else basic_at tokens)

-- a sign, and what f reads
abbrev pub after_at : {A : Type 0} → Sign → (List Token → Read A) → List Token → Read A
after_at sign f tokens = do
  mark ← mark_at sign tokens
  f mark.1

unfoldable pub vector_at : (List Token → Read TypeTree) → List Token → Read TypeTree
vector_at inner tokens = do
  vector ← one_at (kinds.Keyword words.Vector) tokens
  element ← after_at Less inner vector.1
  close ← mark_at Greater element.1
  Ok (types.Vector vector.0.start element.0, close.1)

unfoldable pub map_at : (List Token → Read TypeTree) → List Token → Read TypeTree
map_at inner tokens = do
  map ← one_at (kinds.Keyword words.Map) tokens
  key ← after_at Less inner map.1
  value ← after_at Comma inner key.1
  close ← mark_at Greater value.1
  Ok (types.Map map.0.start key.0 value.0, close.1)

-- a type, where inner reads those inside it
unfoldable pub type_with : (List Token → Read TypeTree) → List Token → Read TypeTree
type_with inner tokens =
    if begins (kinds.Keyword words.Vector) tokens then vector_at inner tokens
    else (if begins (kinds.Keyword words.Map) tokens then map_at inner tokens else flat_at tokens)

-- the same by the first token's kind
abbrev pub type_of : Option Kind → (List Token → Read TypeTree) → List Token → Read TypeTree
type_of (Some (kinds.Keyword words.Vector)) inner = vector_at inner
type_of (Some (kinds.Keyword words.Map)) inner = map_at inner
type_of (Some (kinds.Keyword words.Unsigned)) inner = unsigned_at
type_of (Some kinds.Ident) inner = named_at
type_of _ inner = basic_at

unfoldable pub type_at : ℕ → List Token → Read TypeTree
type_at zero = no_room_at
type_at (suc room) = type_with (type_at room)

unfoldable pub typed_at : ℕ → List Token → Read TypedName
typed_at room tokens = do
  ty ← type_at room tokens
  name ← span_at kinds.Ident ty.1
  Ok (record { ty = ty.0; name = name.0 }, name.1)

-- ---- lists. `fuel` is more than there are tokens.

-- a list after what was read before
abbrev pub with_prefix : {A : Type 0} → List A → Read (List A) → Read (List A)
with_prefix prefix read = read >>= λ x. Ok (prefix ++ x.0, x.1)

-- { P } sign
abbrev pub until_in : {A : Type 0} → ℕ → Sign → (List Token → Read A) → List Token → Read (List A)
until_in zero sign f = λ tokens. unexpected tokens
until_in (suc fuel) sign f = λ tokens.
    if begins (kinds.Sign sign) tokens then (mark_at sign tokens >>= λ close. Ok ([], close.1))
    else (f tokens >>= λ x. (until_in fuel sign f x.1 >>= λ xs. Ok (x.0 ∷ xs.0, xs.1)))

unfoldable pub until_at : {A : Type 0} → Sign → (List Token → Read A) → List Token → Read (List A)
until_at sign f tokens = until_in (suc (length tokens)) sign f tokens

-- P ";"
abbrev pub ended_at : {A : Type 0} → (List Token → Read A) → List Token → Read A
ended_at f tokens = do
  x ← f tokens
  end ← mark_at Semicolon x.1
  Ok (x.0, end.1)

-- ---- declarations

-- [ array ] [ "=" literal ]
unfoldable pub member_end_at : List Token → Read (Option ArrayLen × Option Literal)
member_end_at tokens = do
  array ← maybe_at (kinds.Sign OpenBracket) array_at tokens
  default ← maybe_at (kinds.Sign Equals) default_at array.1
  Ok ((array.0, default.0), default.1)

unfoldable pub member_at : ℕ → List Token → Read MemberTree
member_at room tokens = do
  tag ← span_at kinds.Number tokens
  requirement ← means_at requirement_of tag.1
  typed ← typed_at room requirement.1
  end ← member_end_at typed.1
  Ok (record { tag = tag.0; requirement = requirement.0.1; typed = typed.0; array = end.0.0; default = end.0.1 }, end.1)

-- a word, ident "{"
unfoldable pub heading_at : Keyword → List Token → Read Span
heading_at word tokens = do
  first ← one_at (kinds.Keyword word) tokens
  name ← span_at kinds.Ident first.1
  brace ← mark_at OpenBrace name.1
  Ok (name.0, brace.1)

unfoldable pub members_at : ℕ → List Token → Read (List MemberTree)
members_at room tokens = until_at CloseBrace (ended_at (member_at room)) tokens

unfoldable pub struct_at : ℕ → List Token → Read DeclTree
struct_at room tokens = do
  name ← heading_at words.Struct tokens
  members ← members_at room name.1
  Ok (decls.Struct (record { name = name.0; members = members.0 }), members.1)

-- "=" number
unfoldable pub item_number_at : List Token → Read Span
item_number_at tokens = do
  equals ← mark_at Equals tokens
  span_at kinds.Number equals.1

unfoldable pub item_at : List Token → Read EnumItem
item_at tokens = do
  name ← span_at kinds.Ident tokens
  number ← maybe_at (kinds.Sign Equals) item_number_at name.1
  Ok (record { name = name.0; number = number.0 }, number.1)

-- an item with the "," after it, which may be left out before the "}"
unfoldable pub item_comma_at : List Token → Read EnumItem
item_comma_at tokens = do
  item ← item_at tokens
  if begins (kinds.Sign CloseBrace) item.1 then Ok item else (mark_at Comma item.1 >>= λ comma. Ok (item.0, comma.1))

unfoldable pub items_at : List Token → Read (List EnumItem)
items_at tokens = until_at CloseBrace item_comma_at tokens

unfoldable pub enum_at : List Token → Read DeclTree
enum_at tokens = do
  name ← heading_at words.Enum tokens
  items ← items_at name.1
  Ok (decls.Enum (record { name = name.0; items = items.0 }), items.1)

unfoldable pub const_at : ℕ → List Token → Read DeclTree
const_at room tokens = do
  word ← one_at (kinds.Keyword words.Const) tokens
  typed ← typed_at room word.1
  value ← default_at typed.1
  Ok (decls.Const (record { typed = typed.0; value = value.0 }), value.1)

unfoldable pub name_after_at : List Token → Read Span
name_after_at tokens = after_at Comma (span_at kinds.Ident) tokens

unfoldable pub names_at : List Token → Read (List Span)
names_at tokens = until_at CloseBracket name_after_at tokens

unfoldable pub key_at : List Token → Read DeclTree
key_at tokens = do
  word ← one_at (kinds.Keyword words.Key) tokens
  struct_name ← after_at OpenBracket (span_at kinds.Ident) word.1
  members ← names_at struct_name.1
  Ok (decls.Key (record { struct_name = struct_name.0; members = members.0 }), members.1)

unfoldable pub param_at : ℕ → List Token → Read ParamTree
param_at room tokens = do
  routekey ← maybe_at (kinds.Keyword words.Routekey) (one_at (kinds.Keyword words.Routekey)) tokens
  out ← maybe_at (kinds.Keyword words.Out) (one_at (kinds.Keyword words.Out)) routekey.1
  typed ← typed_at room out.1
  Ok (record { routekey = start_of routekey.0; out = is_there out.0; typed = typed.0 }, typed.1)

unfoldable pub param_after_at : ℕ → List Token → Read ParamTree
param_after_at room tokens = after_at Comma (param_at room) tokens

unfoldable pub more_params_at : ℕ → List Token → Read (List ParamTree)
more_params_at room tokens = until_at CloseParen (param_after_at room) tokens

unfoldable pub first_params_at : ℕ → List Token → Read (List ParamTree)
first_params_at room tokens = do
  first ← param_at room tokens
  with_prefix (first.0 ∷ []) (more_params_at room first.1)

unfoldable pub no_params_at : List Token → Read (List ParamTree)
no_params_at tokens = do
  close ← mark_at CloseParen tokens
  Ok ([], close.1)

-- parameters and the ")"
unfoldable pub params_at : ℕ → List Token → Read (List ParamTree)
params_at room tokens = if begins (kinds.Sign CloseParen) tokens then no_params_at tokens else first_params_at room tokens

unfoldable pub void_at : List Token → Read (Option TypeTree)
void_at tokens = do
  word ← one_at (kinds.Keyword words.Void) tokens
  Ok (None, word.1)

unfoldable pub some_type_at : ℕ → List Token → Read (Option TypeTree)
some_type_at room tokens = do
  ty ← type_at room tokens
  Ok (Some ty.0, ty.1)

unfoldable pub ret_at : ℕ → List Token → Read (Option TypeTree)
ret_at room tokens = if begins (kinds.Keyword words.Void) tokens then void_at tokens else some_type_at room tokens

unfoldable pub func_at : ℕ → List Token → Read FuncTree
func_at room tokens = do
  ret ← ret_at room tokens
  name ← span_at kinds.Ident ret.1
  params ← after_at OpenParen (params_at room) name.1
  Ok (record { ret = ret.0; name = name.0; params = params.0 }, params.1)

unfoldable pub funcs_at : ℕ → List Token → Read (List FuncTree)
funcs_at room tokens = until_at CloseBrace (ended_at (func_at room)) tokens

unfoldable pub interface_at : ℕ → List Token → Read DeclTree
interface_at room tokens = do
  name ← heading_at words.Interface tokens
  funcs ← funcs_at room name.1
  Ok (decls.Interface (record { name = name.0; funcs = funcs.0 }), funcs.1)

-- const | key | interface
unfoldable pub other_decl_at : ℕ → List Token → Read DeclTree
other_decl_at room tokens =
    if begins (kinds.Keyword words.Const) tokens then const_at room tokens
    else (if begins (kinds.Keyword words.Key) tokens then key_at tokens else interface_at room tokens)

unfoldable pub decl_at : ℕ → List Token → Read DeclTree
decl_at room tokens =
    if begins (kinds.Keyword words.Struct) tokens then struct_at room tokens
    else (if begins (kinds.Keyword words.Enum) tokens then enum_at tokens else other_decl_at room tokens)

-- the same by the first token's kind
abbrev pub decl_of : Option Kind → ℕ → List Token → Read DeclTree
decl_of (Some (kinds.Keyword words.Struct)) room = struct_at room
decl_of (Some (kinds.Keyword words.Enum)) room = enum_at
decl_of (Some (kinds.Keyword words.Const)) room = const_at room
decl_of (Some (kinds.Keyword words.Key)) room = key_at
decl_of _ room = interface_at room

unfoldable pub decls_at : ℕ → List Token → Read (List DeclTree)
decls_at room tokens = until_at CloseBrace (ended_at (decl_at room)) tokens

-- ---- files

unfoldable pub module_at : ℕ → List Token → Read Entry
module_at room tokens = do
  name ← heading_at words.Module tokens
  decls ← decls_at room name.1
  end ← mark_at Semicolon decls.1
  Ok (entries.Module (record { name = name.0; decls = decls.0 }), end.1)

unfoldable pub include_at : List Token → Read Entry
include_at tokens = do
  word ← one_at kinds.Include tokens
  text ← span_at kinds.Text word.1
  Ok (entries.Include text.0, text.1)

unfoldable pub entry_at : ℕ → List Token → Read Entry
entry_at room tokens = if begins kinds.Include tokens then include_at tokens else module_at room tokens

abbrev pub file_in : ℕ → ℕ → List Token → Result (List Entry) Stop
file_in room zero = λ tokens. unexpected tokens
file_in room (suc fuel) = λ tokens.
    elim tokens [ [] ↦ Ok [] | t ∷ ts ↦ entry_at room (t ∷ ts) >>= λ entry. (file_in room fuel entry.1 >>= λ others. Ok (entry.0 ∷ others)) ]

unfoldable pub file_at : ℕ → List Token → Result (List Entry) Stop
file_at room tokens = file_in room (suc (length tokens)) tokens
