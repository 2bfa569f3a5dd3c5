-- What tokens spell, with the tokens after it, and how such relations are joined (docs/IDL.md,
-- "Grammar"). A relation holds of the tokens, the tree that their prefix spells, and the tokens after.
use Rattle.std.specs.Prelude.{◌≡◌, ◌⊎◌, Option, Some, None, List, [], ◌∷◌}
use Rattle.idl_lex.specs.declared.kind.Kind.{Kind}
use Rattle.idl_lex.specs.declared.token.Token.{Token}

abbrev pub Rel : Type 0 → Type 1
Rel A = List Token → A → List Token → Type 0

-- no token, and this tree
abbrev pub Gives : {A : Type 0} → A → Rel A
Gives x tokens tree rest = (x ≡ tree) × (tokens ≡ rest)

-- one after the other
infixr 5 ◌⟫◌
abbrev pub ◌⟫◌ : {A B : Type 0} → Rel A → (A → Rel B) → Rel B
◌⟫◌ {A} {B} P Q tokens tree rest = (x : A) × (mid : List Token) × P tokens x mid × Q x mid tree rest

-- one token of the kind
abbrev pub One : Kind → Rel Token
One kind tokens t rest = (t.kind ≡ kind) × (tokens ≡ t ∷ rest)

-- one token, of a kind that means something
abbrev pub Means : {A : Type 0} → (Kind → Option A) → Rel (Token × A)
Means meaning tokens tree rest = (meaning tree.0.kind ≡ Some tree.1) × (tokens ≡ tree.0 ∷ rest)

-- P | Q
abbrev pub Either : {A : Type 0} → Rel A → Rel A → Rel A
Either P Q tokens x rest = P tokens x rest ⊎ Q tokens x rest

-- [ P ]
abbrev pub Maybe : {A : Type 0} → Rel A → Rel (Option A)
Maybe P = Either (P ⟫ λ x. Gives (Some x)) (Gives None)

-- { P }
pub data Many {A : Type 0} (P : Rel A) : List Token → List A → List Token → Type 0 where
  none : {rest : List Token} → Many P rest [] rest
  more : {tokens mid rest : List Token} {x : A} {xs : List A} → P tokens x mid → Many P mid xs rest → Many P tokens (x ∷ xs) rest
