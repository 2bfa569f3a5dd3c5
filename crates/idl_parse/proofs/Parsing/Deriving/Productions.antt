-- Each production is read as the grammar has it.
use Rattle.std.proofs.Common.{◌≡◌, ℕ, suc, true, Option, Some, None, List, [], ◌∷◌, refl, arith}
use Rattle.idl_parse.specs.Depth.{following}
use Rattle.idl_parse.specs.Grammar.{Word, Mark, SpanOf, Ident, Array, LiteralOf, TypeOf, Typed, Block, Member, Struct, Items, Enum, Const, Key, start_of, is_there, Param, Ret, Params, Func, Interface, Decl, Module, EntryOf}
use Rattle.idl_parse.specs.KindSteps.{same_kind, holds}
use Rattle.idl_parse.specs.ReadSteps.{one_at, span_at, type_at, typed_at, ended_at, member_end_at, member_at, heading_at, members_at, struct_at, enum_at, const_at, name_after_at, names_at, key_at, param_at, param_after_at, more_params_at, first_params_at, no_params_at, params_at, void_at, some_type_at, ret_at, func_at, funcs_at, interface_at, other_decl_at, decl_at, decls_at, module_at, include_at, entry_at}
use Rattle.idl_parse.specs.Rules.{Rel, Gives, ◌⟫◌, One, Either, Maybe, Many}
use Rattle.idl_parse.specs.Words.{requirement_of}
use Rattle.idl_lex.specs.declared.keyword.Keyword.{Keyword}
use Rattle.idl_lex.specs.declared.keyword.Keyword.TheVariants as words
use Rattle.idl_lex.specs.declared.kind.Kind.{Kind}
use Rattle.idl_lex.specs.declared.kind.Kind.TheVariants as kinds
use Rattle.idl_lex.specs.declared.sign.Sign.TheVariants.{OpenBrace, CloseBrace, OpenParen, CloseParen, OpenBracket, CloseBracket, Comma, Semicolon, Equals, PathSep}
use Rattle.idl_parse.specs.declared.tree.func.ParamTree.{ParamTree}
use Rattle.idl_parse.specs.declared.tree.literal.Literal.{Literal}
use Rattle.idl_parse.specs.declared.tree.member.ArrayLen.{ArrayLen}
use Rattle.idl_parse.specs.declared.tree.decl.DeclTree.TheVariants as decls
use Rattle.idl_parse.specs.declared.tree.module.Entry.TheVariants as entries
use Rattle.idl_parse.specs.declared.tree.type_tree.TypeTree.{TypeTree}
use Rattle.idl_parse.proofs.Parsing.Combining.Choice.{one_kind}
use Rattle.idl_parse.proofs.Parsing.Combining.Combine.{next, done, either, maybe, regroup}
use Rattle.idl_parse.proofs.Parsing.Repeating.ItemLaws.{items}
use Rattle.idl_parse.proofs.Parsing.Combining.Leaves.{single, one, means}
use Rattle.idl_parse.proofs.Parsing.Deriving.Literals.{requirement_words, requirement_meaning, spanned, array, default}
use Rattle.idl_parse.proofs.Parsing.Combining.Readers.{Reader, Shape, Reads}
use Rattle.idl_parse.proofs.Parsing.Combining.Rearranged.{related, under, closed_there, closed_back, Both, paired_there, paired_back, Heading, headed_there, headed_back, ListedClosed, listed_there, listed_back}
use Rattle.idl_parse.proofs.Parsing.Deriving.TypeLaws.{type_words, type_shape, type_laws}
use Rattle.idl_parse.proofs.Parsing.Repeating.Until.{Until, item_shape, until_shape, until}

-- where no type is open, with room for at least one
abbrev pub AtTop : {A : Type 0} → ℕ → ℕ → Shape → (ℕ → Rel A) → Reader A → Type 0
AtTop k n S D f = Reads k (suc n) (suc n) 0 0 S (D (suc n)) f

token : (k n : ℕ) (kind : Kind) → following kind 0 ≡ 0 → Reads k (suc n) (suc n) 0 0 (single (kind ∷ [])) (One kind) (λ m. one_at kind)
token k n kind flat = one k (suc n) (suc n) 0 0 kind (omega arith) flat

top_span : (k n : ℕ) (kind : Kind) → following kind 0 ≡ 0 → Reads k (suc n) (suc n) 0 0 (single (kind ∷ [])) (SpanOf kind) (λ m. span_at kind)
top_span k n kind flat = spanned k (suc n) (suc n) 0 (omega arith) kind flat

ty : (k n : ℕ) → AtTop k n type_shape TypeOf type_at
ty k n = type_laws k (suc n) (suc n) 0 (omega arith)

typed : (k n : ℕ) → AtTop k n (item_shape type_words []) Typed typed_at
unfolding typed_at holds same_kind
typed k n =
    let r = next refl (ty k n) (λ ty. next refl (top_span k n kinds.Ident refl) (λ name. done (record { ty = ty; name = name }))) in r

-- ---- members

abbrev MemberEnd : Rel (Option ArrayLen × Option Literal)
MemberEnd = Both (Maybe Array) (Maybe (Mark Equals ⟫ λ _. LiteralOf))

member_end : (k n : ℕ) → Reads k (suc n) (suc n) 0 0 (record { first = kinds.Sign OpenBracket ∷ kinds.Sign Equals ∷ []; follow = kinds.Sign PathSep ∷ kinds.Sign Equals ∷ kinds.Sign OpenBracket ∷ []; empty = true }) MemberEnd (λ m. member_end_at)
unfolding member_end_at holds same_kind
member_end k n =
    let r = next refl (maybe (array k (suc n) (suc n) 0 (omega arith))) (λ array. next refl (maybe (default k (suc n) (suc n) 0 (omega arith))) (λ default. done (array, default))) in r

member : (k n : ℕ) → AtTop k n (item_shape (kinds.Number ∷ []) (kinds.Sign PathSep ∷ kinds.Sign Equals ∷ kinds.Sign OpenBracket ∷ [])) Member member_at
unfolding member_at holds same_kind
member k n =
    let r = next refl (top_span k n kinds.Number refl) (λ tag. next refl (means k (suc n) (suc n) 0 requirement_of requirement_words requirement_meaning (omega arith)) (λ requirement.
    next refl (typed k n) (λ typed. related (paired_there (Maybe Array) (Maybe (Mark Equals ⟫ λ _. LiteralOf)) (λ array default. record { tag = tag; requirement = requirement.1; typed = typed; array = array; default = default }))
    (paired_back (Maybe Array) (Maybe (Mark Equals ⟫ λ _. LiteralOf)) (λ array default. record { tag = tag; requirement = requirement.1; typed = typed; array = array; default = default }))
    (next refl (member_end k n) (λ end. done (record { tag = tag; requirement = requirement.1; typed = typed; array = end.0; default = end.1 }))))))
    in r

pub ended_member : (k n : ℕ) → AtTop k n (item_shape (kinds.Number ∷ []) []) (λ room. Member room ⟫ λ x. Mark Semicolon ⟫ λ _. Gives x) (λ m. ended_at (member_at m))
unfolding holds same_kind
ended_member k n = let r = next refl (member k n) (λ x. next refl (token k n (kinds.Sign Semicolon) refl) (λ _. done x)) in r

members : (k n : ℕ) → AtTop k n (until_shape CloseBrace (kinds.Number ∷ [])) (λ room. Block (Member room)) members_at
unfolding members_at holds same_kind
members k n = until CloseBrace (kinds.Number ∷ []) [] (λ room. Member room ⟫ λ x. Mark Semicolon ⟫ λ _. Gives x) (λ m. ended_at (member_at m)) refl refl refl ended_member k n

heading : (k n : ℕ) (word : Keyword) → Reads k (suc n) (suc n) 0 0 (one_kind (kinds.Keyword word) []) (Heading word) (λ m. heading_at word)
unfolding heading_at
heading k n word =
    let r = next refl (token k n (kinds.Keyword word) refl) (λ _. next refl (top_span k n kinds.Ident refl) (λ name. next refl (token k n (kinds.Sign OpenBrace) refl) (λ _. done name))) in r

struct : (k n : ℕ) → AtTop k n (one_kind (kinds.Keyword words.Struct) []) Struct struct_at
unfolding struct_at
struct k n =
    let r = next refl (heading k n words.Struct) (λ name. next refl (members k n) (λ members. done (decls.Struct (record { name = name; members = members })))) in
    related (headed_there words.Struct (λ name. Block (Member (suc n)) ⟫ λ members. Gives (decls.Struct (record { name = name; members = members }))))
    (headed_back words.Struct (λ name. Block (Member (suc n)) ⟫ λ members. Gives (decls.Struct (record { name = name; members = members })))) r

-- ---- enums, constants, keys

enum : (k n : ℕ) → AtTop k n (one_kind (kinds.Keyword words.Enum) []) (λ room. Enum) (λ m. enum_at)
unfolding enum_at
enum k n =
    let r = next refl (heading k n words.Enum) (λ name.
    related (closed_there Items (Mark CloseBrace) (λ items. decls.Enum (record { name = name; items = items }))) (closed_back Items (Mark CloseBrace) (λ items. decls.Enum (record { name = name; items = items })))
    (next refl (items k n) (λ items. done (decls.Enum (record { name = name; items = items }))))) in
    related (headed_there words.Enum (λ name. Items ⟫ λ items. Mark CloseBrace ⟫ λ _. Gives (decls.Enum (record { name = name; items = items }))))
    (headed_back words.Enum (λ name. Items ⟫ λ items. Mark CloseBrace ⟫ λ _. Gives (decls.Enum (record { name = name; items = items })))) r

const : (k n : ℕ) → AtTop k n (one_kind (kinds.Keyword words.Const) (kinds.Sign PathSep ∷ [])) Const (λ m. const_at m)
unfolding const_at holds same_kind
const k n =
    let r = next refl (token k n (kinds.Keyword words.Const) refl) (λ _. next refl (typed k n) (λ typed. regroup (next refl (default k (suc n) (suc n) 0 (omega arith)) (λ value. done (decls.Const (record { typed = typed; value = value })))))) in r

pub name_after : (k n : ℕ) → AtTop k n (item_shape (kinds.Sign Comma ∷ []) []) (λ room. Mark Comma ⟫ λ _. Ident) (λ m. name_after_at)
unfolding name_after_at
name_after k n = let r = next refl (token k n (kinds.Sign Comma) refl) (λ _. top_span k n kinds.Ident refl) in r

names : (k n : ℕ) → AtTop k n (until_shape CloseBracket (kinds.Sign Comma ∷ [])) (λ room. Until CloseBracket (Mark Comma ⟫ λ _. Ident)) (λ m. names_at)
unfolding names_at holds same_kind
names k n = until CloseBracket (kinds.Sign Comma ∷ []) [] (λ room. Mark Comma ⟫ λ _. Ident) (λ m. name_after_at) refl refl refl name_after k n

key : (k n : ℕ) → AtTop k n (one_kind (kinds.Keyword words.Key) []) (λ room. Key) (λ m. key_at)
unfolding key_at holds same_kind
key k n =
    let r = next refl (token k n (kinds.Keyword words.Key) refl) (λ _. regroup (next refl (next refl (token k n (kinds.Sign OpenBracket) refl) (λ _. top_span k n kinds.Ident refl)) (λ struct_name.
    related (closed_there (Many (Mark Comma ⟫ λ _. Ident)) (Mark CloseBracket) (λ members. decls.Key (record { struct_name = struct_name; members = members }))) (closed_back (Many (Mark Comma ⟫ λ _. Ident)) (Mark CloseBracket) (λ members. decls.Key (record { struct_name = struct_name; members = members })))
    (next refl (names k n) (λ members. done (decls.Key (record { struct_name = struct_name; members = members }))))))) in r

-- ---- functions

abbrev param_words : List Kind
param_words = kinds.Keyword words.Routekey ∷ kinds.Keyword words.Out ∷ type_words

param : (k n : ℕ) → AtTop k n (item_shape param_words []) Param param_at
unfolding param_at holds same_kind
param k n =
    let r = next refl (maybe (token k n (kinds.Keyword words.Routekey) refl)) (λ routekey. next refl (maybe (token k n (kinds.Keyword words.Out) refl)) (λ out.
    next refl (typed k n) (λ typed. done (record { routekey = start_of routekey; out = is_there out; typed = typed })))) in r

pub param_after : (k n : ℕ) → AtTop k n (item_shape (kinds.Sign Comma ∷ []) []) (λ room. Mark Comma ⟫ λ _. Param room) param_after_at
unfolding param_after_at
param_after k n = let r = next refl (token k n (kinds.Sign Comma) refl) (λ _. param k n) in r

more_params : (k n : ℕ) → AtTop k n (until_shape CloseParen (kinds.Sign Comma ∷ [])) (λ room. Until CloseParen (Mark Comma ⟫ λ _. Param room)) more_params_at
unfolding more_params_at holds same_kind
more_params k n = until CloseParen (kinds.Sign Comma ∷ []) [] (λ room. Mark Comma ⟫ λ _. Param room) param_after_at refl refl refl param_after k n

first_params : (k n : ℕ) → AtTop k n (item_shape param_words []) (λ room. Param room ⟫ λ x. Until CloseParen (Mark Comma ⟫ λ _. Param room) ⟫ λ xs. Gives (x ∷ xs)) first_params_at
unfolding first_params_at holds same_kind
first_params k n = let r = next refl (param k n) (λ x. next refl (more_params k n) (λ xs. done (x ∷ xs))) in r

no_params : (k n : ℕ) → AtTop k n (one_kind (kinds.Sign CloseParen) []) (λ room. Mark CloseParen ⟫ λ _. Gives {A = List ParamTree} []) (λ m. no_params_at)
unfolding no_params_at
no_params k n = let r = next refl (token k n (kinds.Sign CloseParen) refl) (λ _. done []) in r

params : (k n : ℕ) → AtTop k n (item_shape (kinds.Sign CloseParen ∷ param_words) []) (λ room. ListedClosed CloseParen (Param room)) params_at
unfolding params_at holds same_kind
params k n =
    let r = either refl (no_params k n) (first_params k n) in
    related (listed_there CloseParen (Param (suc n))) (listed_back CloseParen (Param (suc n))) r

void : (k n : ℕ) → AtTop k n (one_kind (kinds.Keyword words.Void) []) (λ room. Word words.Void ⟫ λ _. Gives {A = Option TypeTree} None) (λ m. void_at)
unfolding void_at
void k n = let r = next refl (token k n (kinds.Keyword words.Void) refl) (λ _. done None) in r

some_type : (k n : ℕ) → AtTop k n type_shape (λ room. TypeOf room ⟫ λ ty. Gives (Some ty)) some_type_at
unfolding some_type_at holds same_kind
some_type k n = let r = next refl (ty k n) (λ ty. done (Some ty)) in r

ret : (k n : ℕ) → AtTop k n (item_shape (kinds.Keyword words.Void ∷ type_words) (kinds.Sign PathSep ∷ [])) Ret ret_at
unfolding ret_at holds same_kind
ret k n = let r = either refl (void k n) (some_type k n) in r

func : (k n : ℕ) → AtTop k n (item_shape (kinds.Keyword words.Void ∷ type_words) []) Func func_at
unfolding func_at holds same_kind
func k n =
    let r = next refl (ret k n) (λ ret. next refl (top_span k n kinds.Ident refl) (λ name.
    related (under (Mark OpenParen) (λ _. ListedClosed CloseParen (Param (suc n)) ⟫ λ params. Gives (record { ret = ret; name = name; params = params })) (λ _. Params (suc n) ⟫ λ params. Mark CloseParen ⟫ λ _. Gives (record { ret = ret; name = name; params = params }))
    (λ _. closed_there (Params (suc n)) (Mark CloseParen) (λ params. record { ret = ret; name = name; params = params })))
    (under (Mark OpenParen) (λ _. Params (suc n) ⟫ λ params. Mark CloseParen ⟫ λ _. Gives (record { ret = ret; name = name; params = params })) (λ _. ListedClosed CloseParen (Param (suc n)) ⟫ λ params. Gives (record { ret = ret; name = name; params = params }))
    (λ _. closed_back (Params (suc n)) (Mark CloseParen) (λ params. record { ret = ret; name = name; params = params })))
    (regroup (next refl (next refl (token k n (kinds.Sign OpenParen) refl) (λ _. params k n)) (λ params. done (record { ret = ret; name = name; params = params })))))) in r

pub ended_func : (k n : ℕ) → AtTop k n (item_shape (kinds.Keyword words.Void ∷ type_words) []) (λ room. Func room ⟫ λ x. Mark Semicolon ⟫ λ _. Gives x) (λ m. ended_at (func_at m))
unfolding holds same_kind
ended_func k n = let r = next refl (func k n) (λ x. next refl (token k n (kinds.Sign Semicolon) refl) (λ _. done x)) in r

funcs : (k n : ℕ) → AtTop k n (until_shape CloseBrace (kinds.Keyword words.Void ∷ type_words)) (λ room. Block (Func room)) funcs_at
unfolding funcs_at holds same_kind
funcs k n = until CloseBrace (kinds.Keyword words.Void ∷ type_words) [] (λ room. Func room ⟫ λ x. Mark Semicolon ⟫ λ _. Gives x) (λ m. ended_at (func_at m)) refl refl refl ended_func k n

interface : (k n : ℕ) → AtTop k n (one_kind (kinds.Keyword words.Interface) []) Interface interface_at
unfolding interface_at
interface k n =
    let r = next refl (heading k n words.Interface) (λ name. next refl (funcs k n) (λ funcs. done (decls.Interface (record { name = name; funcs = funcs })))) in
    related (headed_there words.Interface (λ name. Block (Func (suc n)) ⟫ λ funcs. Gives (decls.Interface (record { name = name; funcs = funcs }))))
    (headed_back words.Interface (λ name. Block (Func (suc n)) ⟫ λ funcs. Gives (decls.Interface (record { name = name; funcs = funcs })))) r

-- ---- modules

abbrev pub decl_words : List Kind
decl_words = kinds.Keyword words.Struct ∷ kinds.Keyword words.Enum ∷ kinds.Keyword words.Const ∷ kinds.Keyword words.Key ∷ kinds.Keyword words.Interface ∷ []

other_decl : (k n : ℕ) → AtTop k n (item_shape (kinds.Keyword words.Const ∷ kinds.Keyword words.Key ∷ kinds.Keyword words.Interface ∷ []) (kinds.Sign PathSep ∷ [])) (λ room. Either (Const room) (Either Key (Interface room))) other_decl_at
unfolding other_decl_at holds same_kind
other_decl k n = let r = either refl (const k n) (either refl (key k n) (interface k n)) in r

decl : (k n : ℕ) → AtTop k n (item_shape decl_words (kinds.Sign PathSep ∷ [])) Decl decl_at
unfolding decl_at holds same_kind
decl k n = let r = either refl (struct k n) (either refl (enum k n) (other_decl k n)) in r

pub ended_decl : (k n : ℕ) → AtTop k n (item_shape decl_words []) (λ room. Decl room ⟫ λ x. Mark Semicolon ⟫ λ _. Gives x) (λ m. ended_at (decl_at m))
unfolding holds same_kind
ended_decl k n = let r = next refl (decl k n) (λ x. next refl (token k n (kinds.Sign Semicolon) refl) (λ _. done x)) in r

declarations : (k n : ℕ) → AtTop k n (until_shape CloseBrace decl_words) (λ room. Block (Decl room)) decls_at
unfolding decls_at holds same_kind
declarations k n = until CloseBrace decl_words [] (λ room. Decl room ⟫ λ x. Mark Semicolon ⟫ λ _. Gives x) (λ m. ended_at (decl_at m)) refl refl refl ended_decl k n

«module» : (k n : ℕ) → AtTop k n (one_kind (kinds.Keyword words.Module) []) Module module_at
unfolding module_at
«module» k n =
    let r = next refl (heading k n words.Module) (λ name. next refl (declarations k n) (λ decls. next refl (token k n (kinds.Sign Semicolon) refl) (λ _. done (entries.Module (record { name = name; decls = decls }))))) in
    related (headed_there words.Module (λ name. Block (Decl (suc n)) ⟫ λ decls. Mark Semicolon ⟫ λ _. Gives (entries.Module (record { name = name; decls = decls }))))
    (headed_back words.Module (λ name. Block (Decl (suc n)) ⟫ λ decls. Mark Semicolon ⟫ λ _. Gives (entries.Module (record { name = name; decls = decls })))) r

include : (k n : ℕ) → AtTop k n (one_kind kinds.Include []) (λ room. One kinds.Include ⟫ λ _. SpanOf kinds.Text ⟫ λ text. Gives (entries.Include text)) (λ m. include_at)
unfolding include_at
include k n = let r = next refl (token k n kinds.Include refl) (λ _. next refl (top_span k n kinds.Text refl) (λ text. done (entries.Include text))) in r

pub entry : (k n : ℕ) → AtTop k n (item_shape (kinds.Include ∷ kinds.Keyword words.Module ∷ []) []) EntryOf entry_at
unfolding entry_at holds same_kind
entry k n = let r = either refl (include k n) («module» k n) in r
