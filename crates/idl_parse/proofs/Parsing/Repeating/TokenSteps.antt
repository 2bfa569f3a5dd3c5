-- What is read goes by the first of the tokens that are left.
use Rattle.std.proofs.Common.{◌≡◌, ◌≤◌, ℕ, true, if◌then◌else◌, Some, Ok, List, [], ◌∷◌, length, drop, slice_index_or, refl, arith}
use Rattle.idl_parse.specs.KindSteps.{same_kind, first_kind, begins}
use Rattle.idl_parse.specs.ReadSteps.{Read, one_at, basic_at, unsigned_at, named_at, flat_at, vector_at, map_at, type_with, type_of, struct_at, enum_at, const_at, key_at, interface_at, other_decl_at, decl_at, decl_of}
use Rattle.idl_lex.specs.declared.keyword.Keyword.{Keyword}
use Rattle.idl_lex.specs.declared.keyword.Keyword.TheVariants as words
use Rattle.idl_lex.specs.declared.kind.Kind.{Kind}
use Rattle.idl_lex.specs.declared.kind.Kind.TheVariants as kinds
use Rattle.idl_lex.specs.declared.sign.Sign.{Sign}
use Rattle.idl_lex.specs.declared.sign.Sign.TheVariants as signs
use Rattle.idl_lex.specs.declared.token.Token.{Token}
use Rattle.idl_parse.specs.declared.tree.type_tree.TypeTree.{TypeTree}

pub some_first : (d : Token) (ts : List Token) → 1 ≤ length ts → (rest : List Token) × (ts ≡ slice_index_or ts 0 d ∷ rest)
some_first d [] some = absurd (omega arith)
some_first d (t ∷ ts) some = (ts, refl)

pub eaten : (kind : Kind) (ts : List Token) → begins kind ts ≡ true → (t : Token) × (one_at kind ts ≡ Ok (t, drop 1 ts))
unfolding begins one_at
eaten kind [] b = cc
eaten kind (t ∷ ts) b = (t, rw b refl)

-- the first of four kinds that this one is, or none of them
abbrev among : {A : Type 0} → Kind → Kind × A → Kind × A → Kind × A → Kind × A → A → A
among kind a b c d other =
    if same_kind kind a.0 then a.1 else (if same_kind kind b.0 then b.1 else (if same_kind kind c.0 then c.1 else (if same_kind kind d.0 then d.1 else other)))

decl_of_word : (word : Keyword) (room : ℕ) (ts : List Token) → among (kinds.Keyword word) (kinds.Keyword words.Struct, struct_at room ts) (kinds.Keyword words.Enum, enum_at ts) (kinds.Keyword words.Const, const_at room ts) (kinds.Keyword words.Key, key_at ts) (interface_at room ts) ≡ decl_of (Some (kinds.Keyword word)) room ts
unfolding same_kind
decl_of_word words.Void room ts = refl
decl_of_word _ room ts = refl

decl_of_sign : (sign : Sign) (room : ℕ) (ts : List Token) → among (kinds.Sign sign) (kinds.Keyword words.Struct, struct_at room ts) (kinds.Keyword words.Enum, enum_at ts) (kinds.Keyword words.Const, const_at room ts) (kinds.Keyword words.Key, key_at ts) (interface_at room ts) ≡ interface_at room ts
unfolding same_kind
decl_of_sign signs.Less room ts = refl
decl_of_sign _ room ts = refl

decl_of_kind : (kind : Kind) (room : ℕ) (ts : List Token) → among kind (kinds.Keyword words.Struct, struct_at room ts) (kinds.Keyword words.Enum, enum_at ts) (kinds.Keyword words.Const, const_at room ts) (kinds.Keyword words.Key, key_at ts) (interface_at room ts) ≡ decl_of (Some kind) room ts
unfolding same_kind
decl_of_kind (kinds.Keyword word) room ts = decl_of_word word room ts
decl_of_kind (kinds.Sign sign) room ts = decl_of_sign sign room ts
decl_of_kind _ room ts = refl

pub decl_by_kind : (room : ℕ) (ts : List Token) → decl_at room ts ≡ decl_of (first_kind ts) room ts
unfolding decl_at other_decl_at begins first_kind
decl_by_kind room [] = refl
decl_by_kind room (t ∷ ts) = decl_of_kind t.kind room (t ∷ ts)

type_of_word : (word : Keyword) (inner : List Token → Read TypeTree) (ts : List Token) → among (kinds.Keyword word) (kinds.Keyword words.Vector, vector_at inner ts) (kinds.Keyword words.Map, map_at inner ts) (kinds.Keyword words.Unsigned, unsigned_at ts) (kinds.Ident, named_at ts) (basic_at ts) ≡ type_of (Some (kinds.Keyword word)) inner ts
unfolding same_kind
type_of_word words.Void inner ts = refl
type_of_word _ inner ts = refl

type_of_sign : (sign : Sign) (inner : List Token → Read TypeTree) (ts : List Token) → among (kinds.Sign sign) (kinds.Keyword words.Vector, vector_at inner ts) (kinds.Keyword words.Map, map_at inner ts) (kinds.Keyword words.Unsigned, unsigned_at ts) (kinds.Ident, named_at ts) (basic_at ts) ≡ basic_at ts
unfolding same_kind
type_of_sign signs.Less inner ts = refl
type_of_sign _ inner ts = refl

type_of_kind : (kind : Kind) (inner : List Token → Read TypeTree) (ts : List Token) → among kind (kinds.Keyword words.Vector, vector_at inner ts) (kinds.Keyword words.Map, map_at inner ts) (kinds.Keyword words.Unsigned, unsigned_at ts) (kinds.Ident, named_at ts) (basic_at ts) ≡ type_of (Some kind) inner ts
unfolding same_kind
type_of_kind (kinds.Keyword word) inner ts = type_of_word word inner ts
type_of_kind (kinds.Sign sign) inner ts = type_of_sign sign inner ts
type_of_kind _ inner ts = refl

pub type_by_kind : (inner : List Token → Read TypeTree) (ts : List Token) → type_with inner ts ≡ type_of (first_kind ts) inner ts
unfolding type_with flat_at begins first_kind
type_by_kind inner [] = refl
type_by_kind inner (t ∷ ts) = type_of_kind t.kind inner (t ∷ ts)
