-- The types of a tree stand no deeper in one another than the grammar that derives it lets them.
use Rattle.std.proofs.Common.{◌≡◌, ◌≤◌, ℕ, zero, suc, List, [], ap, ◌∙◌, subst, arith, inl, inr}
use Rattle.std.proofs.lemmas.Bool.Decides.{nat_tests}
use Rattle.std.proofs.lemmas.List.Elements.{All-nil, All-cons}
use Rattle.std.specs.List.{All}
use Rattle.tars_model.specs.Types.{greater}
use Rattle.idl_parse.specs.Grammar.{VectorOf, MapOf, TypeOf, Typed, Block, Listed, Member, Struct, Enum, Const, Key, Param, Ret, Params, Func, Interface, Decl, Module, EntryOf, IsFile}
use Rattle.idl_parse.specs.Nesting.{nesting_layer, tree_nesting, IsNested, MemberNests, ParamNests, FuncNests, DeclNests, EntryNests}
use Rattle.idl_parse.specs.Rules.{Rel, Gives, ◌⟫◌, Either, Many, none, more}
use Rattle.idl_parse.specs.TreeSpans.{IfThere}
use Rattle.idl_lex.specs.declared.token.Token.{Token}
use Rattle.idl_parse.specs.declared.tree.module.Entry.{Entry}
use Rattle.idl_parse.specs.declared.tree.type_tree.BasicType.{BasicType}
use Rattle.idl_parse.specs.declared.tree.type_tree.ScopedName.{ScopedName}
use Rattle.idl_parse.specs.declared.tree.type_tree.TypeTree.{TypeTree, out-TypeTree, map-TypeTree, fold_out-TypeTree}
use Rattle.idl_parse.specs.declared.tree.type_tree.TypeTree.TheOpen as layer
use Rattle.idl_parse.specs.declared.tree.type_tree.TypeTree.TheVariants as types
use Rattle.idl_parse.specs.declared.tree.type_tree.TypeTree.TheVariants.{outs-Basic, outs-Vector, outs-Map, outs-Named}

-- ---- the nesting of each form

nests_at : (t : TypeTree) (l : layer.TypeTree-F TypeTree) → out-TypeTree t ≡ l → tree_nesting t ≡ nesting_layer (map-TypeTree TypeTree ℕ tree_nesting l)
nests_at t l e = fold_out-TypeTree ℕ nesting_layer t ∙ ap (λ l. nesting_layer (map-TypeTree TypeTree ℕ tree_nesting l)) e

pub nests_basic : (at : ℕ) (word : BasicType) → tree_nesting (types.Basic at word) ≡ 1
nests_basic at word = nests_at (types.Basic at word) (layer.Basic at word) (outs-Basic at word)

pub nests_named : (name : ScopedName) → tree_nesting (types.Named name) ≡ 1
nests_named name = nests_at (types.Named name) (layer.Named name) (outs-Named name)

pub nests_vector : (at : ℕ) (element : TypeTree) → tree_nesting (types.Vector at element) ≡ suc (tree_nesting element)
nests_vector at element = nests_at (types.Vector at element) (layer.Vector at element) (outs-Vector at element)

pub nests_map : (at : ℕ) (key value : TypeTree) → tree_nesting (types.Map at key value) ≡ suc (greater (tree_nesting key) (tree_nesting value))
nests_map at key value = nests_at (types.Map at key value) (layer.Map at key value) (outs-Map at key value)

-- ---- what a relation says of its trees

record Says {A : Type 0} (P : Rel A) (E : A → Type 0) : Type 0 where
  says : (tokens : List Token) (x : A) (rest : List Token) → P tokens x rest → E x

any : {A : Type 0} {P : Rel A} → Says P (λ _. Unit {0})
any = record { says = λ tokens x rest p. tt }

after : {A B : Type 0} {P : Rel A} {Q : A → Rel B} {E : A → Type 0} {F : B → Type 0} → Says P E → ((x : A) → E x → Says (Q x) F) → Says (P ⟫ Q) F
after r s = record { says = λ tokens y rest (x, mid, p, q). (s x (r.says tokens x mid p)).says mid y rest q }

gives : {A : Type 0} {x : A} {E : A → Type 0} → E x → Says (Gives x) E
gives {E = E} e = record { says = λ tokens y rest (same, is). subst E same e }

either : {A : Type 0} {P Q : Rel A} {E : A → Type 0} → Says P E → Says Q E → Says (Either P Q) E
either {A = A} {P = P} {Q = Q} {E = E} r s = record { says = by_side }
  where
    by_side : (tokens : List Token) (x : A) (rest : List Token) → Either P Q tokens x rest → E x
    by_side tokens x rest (inl p) = r.says tokens x rest p
    by_side tokens x rest (inr q) = s.says tokens x rest q

many : {A : Type 0} {P : Rel A} {E : A → Type 0} → Says P E → Says (Many P) (All E)
many {A = A} {P = P} {E = E} r = record { says = λ tokens xs rest all. each all }
  where
    each : {tokens rest : List Token} {xs : List A} → Many P tokens xs rest → All E xs
    each none = All-nil E
    each (more {tokens = tokens} {mid = mid} {rest = rest} {x = x} {xs = xs} p ps) = All-cons E x xs (r.says tokens x mid p) (each ps)

block : {A : Type 0} {P : Rel A} {E : A → Type 0} → Says P E → Says (Block P) (All E)
block r = after (many (after r (λ x e. after any (λ _ _. gives e)))) (λ xs es. after any (λ _ _. gives es))

listed : {A : Type 0} {P : Rel A} {E : A → Type 0} → Says P E → Says (Listed P) (All E)
listed {E = E} r = after r (λ x e. after (many (after any (λ _ _. r))) (λ xs es. gives (All-cons E x xs e es)))

-- ---- types

basic_nests : (room at : ℕ) (word : BasicType) → IsNested (suc room) (types.Basic at word)
basic_nests room at word = let one = nests_basic at word in omega arith

named_nests : (room : ℕ) (name : ScopedName) → IsNested (suc room) (types.Named name)
named_nests room name = let one = nests_named name in omega arith

vector_nests : (room at : ℕ) (element : TypeTree) → IsNested room element → IsNested (suc room) (types.Vector at element)
vector_nests room at element inside = let one = nests_vector at element in omega arith

greater_within : (a b most : ℕ) → a ≤ most → b ≤ most → greater a b ≤ most
greater_within a b most x y = grind (arith, nat_tests)

map_nests : (room at : ℕ) (key value : TypeTree) → IsNested room key → IsNested room value → IsNested (suc room) (types.Map at key value)
map_nests room at key value k v =
    let one = nests_map at key value in
    let most = greater_within (tree_nesting key) (tree_nesting value) room k v in
    omega arith

module _ (room : ℕ) (Inner : Rel TypeTree) (inside : Says Inner (IsNested room)) where
  vectors : Says (VectorOf Inner) (IsNested (suc room))
  vectors = after any (λ word _. after any (λ _ _. after inside (λ element e. after any (λ _ _. gives (vector_nests room word.start element e)))))

  maps : Says (MapOf Inner) (IsNested (suc room))
  maps =
      after any (λ word _. after any (λ _ _. after inside (λ key k. after any (λ _ _. after inside (λ value v. after any (λ _ _.
      gives (map_nests room word.start key value k v)))))))

type_nests : (room : ℕ) → Says (TypeOf room) (IsNested room)
type_nests zero = record { says = λ tokens x rest is. absurd is }
type_nests (suc room) =
    either (vectors room (TypeOf room) (type_nests room)) (either (maps room (TypeOf room) (type_nests room))
    (either (after any (λ word _. after any (λ basic _. gives (basic_nests room word.start basic.1))))
    (either (after any (λ name _. gives (named_nests room name))) (after any (λ basic _. gives (basic_nests room basic.0.start basic.1))))))

typed_nests : (room : ℕ) → Says (Typed room) (λ typed. IsNested room typed.ty)
typed_nests room = after (type_nests room) (λ ty e. after any (λ name _. gives e))

-- ---- declarations

module _ (room : ℕ) where
  member : Says (Member room) (MemberNests room)
  member = after any (λ tag _. after any (λ requirement _. after (typed_nests room) (λ typed e. after any (λ array _. after any (λ default _. gives e)))))

  struct : Says (Struct room) (DeclNests room)
  struct = after any (λ _ _. after any (λ name _. after any (λ _ _. after (block member) (λ members e. gives e))))

  enum : Says Enum (DeclNests room)
  enum = after any (λ _ _. after any (λ name _. after any (λ _ _. after any (λ items _. after any (λ _ _. gives tt)))))

  const : Says (Const room) (DeclNests room)
  const = after any (λ _ _. after (typed_nests room) (λ typed e. after any (λ _ _. after any (λ value _. gives e))))

  key : Says Key (DeclNests room)
  key = after any (λ _ _. after any (λ _ _. after any (λ name _. after any (λ members _. after any (λ _ _. gives tt)))))

  param : Says (Param room) (ParamNests room)
  param = after any (λ routekey _. after any (λ out _. after (typed_nests room) (λ typed e. gives e)))

  ret : Says (Ret room) (IfThere (IsNested room))
  ret = either (after any (λ _ _. gives tt)) (after (type_nests room) (λ ty e. gives e))

  params : Says (Params room) (All (ParamNests room))
  params = either (listed param) (gives (All-nil (ParamNests room)))

  func : Says (Func room) (FuncNests room)
  func = after ret (λ ret r. after any (λ name _. after any (λ _ _. after params (λ params ps. after any (λ _ _. gives (r, ps))))))

  interface : Says (Interface room) (DeclNests room)
  interface = after any (λ _ _. after any (λ name _. after any (λ _ _. after (block func) (λ funcs e. gives e))))

  decl : Says (Decl room) (DeclNests room)
  decl = either struct (either enum (either const (either key interface)))

  «module» : Says (Module room) (EntryNests room)
  «module» = after any (λ _ _. after any (λ name _. after any (λ _ _. after (block decl) (λ decls e. after any (λ _ _. gives e)))))

  entry : Says (EntryOf room) (EntryNests room)
  entry = either (after any (λ _ _. after any (λ text _. gives tt))) «module»

-- the types of a file
pub file_nests : (room : ℕ) (tokens : List Token) (entries : List Entry) → IsFile room tokens entries → All (EntryNests room) entries
file_nests room tokens entries file = (many (entry room)).says tokens entries [] file
