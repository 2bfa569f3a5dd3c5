-- What ties a reader to a relation of the grammar: it gives what the relation has; where it does not, it
-- stops after the longest prefix that some input of the relation goes on after, at whatever depth.
use Rattle.std.proofs.Common.{◌≡◌, ℕ, suc, ◌<◌, ◌≤◌, Bool, true, false, cond, ◌&&◌, Option, Some, None, Result, Ok, Err, List, [], ◌∷◌, ◌++◌, length, arith}
use Rattle.idl_parse.specs.Depth.{opened, Shallow}
use Rattle.idl_parse.specs.KindSteps.{holds}
use Rattle.idl_parse.specs.ReadSteps.{Stop, Read}
use Rattle.idl_parse.specs.Rules.{Rel}
use Rattle.idl_lex.specs.declared.kind.Kind.{Kind}
use Rattle.idl_parse.specs.declared.parse_fault.ParseWhy.TheVariants.{Unexpected, TooDeep}
use Rattle.idl_lex.specs.declared.token.Token.{Token}

-- a reader, by the room for types inside each other
abbrev pub Reader : Type 0 → Type 0
Reader A = ℕ → List Token → Read A

abbrev pub halted : {B : Type 0} → List Token → Result B Stop
halted left = Err (record { left = left; why = Unexpected })

abbrev pub too_deep : {B : Type 0} → List Token → Result B Stop
too_deep left = Err (record { left = left; why = TooDeep })

-- What tokens a relation begins with, which of those after it would go on with it, and whether it may
-- have no token.
pub record Shape : Type 0 where
  pub first : List Kind
  pub follow : List Kind
  pub empty : Bool

abbrev pub seq : Shape → Shape → Shape
seq S T = record {
  first = S.first ++ cond S.empty T.first [];
  follow = T.follow ++ cond T.empty S.follow [];
  empty = S.empty && T.empty;
}

abbrev pub head_of : List Token → Option Token
head_of [] = None
head_of (t ∷ ts) = Some t

abbrev pub holds_head : List Kind → Option Token → Bool
holds_head kinds None = false
holds_head kinds (Some t) = holds t.kind kinds

-- the first token is of one of the kinds
abbrev pub starts : List Kind → List Token → Bool
starts kinds tokens = holds_head kinds (head_of tokens)

pub data Begun (S : Shape) (tokens rest : List Token) : Type 0 where
  has_some : starts S.first tokens ≡ true → length rest < length tokens → Begun S tokens rest
  has_none : S.empty ≡ true → tokens ≡ rest → Begun S tokens rest

pub data Fresh (S : Shape) (more : List Token) : Type 0 where
  some_more : starts S.first more ≡ true → Fresh S more
  no_more : S.empty ≡ true → more ≡ [] → Fresh S more

-- what was read is read again, whatever follows
pub record Kept {A : Type 0} (n limit a b : ℕ) (S : Shape) (f : Reader A) (tokens : List Token) (x : A) (rest : List Token) : Type 0 where
  pub prefix : List Token
  pub whole : tokens ≡ prefix ++ rest
  pub again : (m : ℕ) → n ≤ m → (more : List Token) → (starts S.follow more ≡ true → head_of more ≡ head_of rest) → f m (prefix ++ more) ≡ Ok (x, more)
  pub shallow : Shallow limit a prefix
  pub open_after : opened a prefix ≡ b

-- the prefix can be completed where there is more room, and no token that stands after it goes on
pub record Stayed {A : Type 0} (n limit a : ℕ) (S : Shape) (f : Reader A) (tokens left : List Token) : Type 0 where
  pub prefix : List Token
  pub whole : tokens ≡ prefix ++ left
  pub more : List Token
  pub value : A
  pub fresh : prefix ≡ [] → Fresh S more
  pub fills : (m : ℕ) → n < m → (tail : List Token) → (starts S.follow tail ≡ true → ⊥) → f m (prefix ++ (more ++ tail)) ≡ Ok (value, tail)
  pub stuck : (t : Token) (l : List Token) → left ≡ t ∷ l → (m : ℕ) → n ≤ m → (others : List Token) → f m (prefix ++ (t ∷ others)) ≡ halted (t ∷ others)
  pub shallow : Shallow limit a prefix

-- a type begins where the limit is reached
pub record Deep {A : Type 0} (n limit a : ℕ) (S : Shape) (f : Reader A) (tokens left : List Token) : Type 0 where
  pub prefix : List Token
  pub next : Token
  pub others : List Token
  pub whole : tokens ≡ prefix ++ left
  pub is : left ≡ next ∷ others
  pub more : List Token
  pub value : A
  pub fills : (m : ℕ) → suc n < m → (tail : List Token) → (starts S.follow tail ≡ true → ⊥) → f m (prefix ++ (next ∷ (more ++ tail))) ≡ Ok (value, tail)
  pub shallow : Shallow limit a prefix
  pub open_after : opened a prefix ≡ limit

-- some input
pub record Filled {A : Type 0} (n : ℕ) (S : Shape) (f : Reader A) : Type 0 where
  pub more : List Token
  pub value : A
  pub fresh : Fresh S more
  pub fills : (m : ℕ) → n < m → (tail : List Token) → (starts S.follow tail ≡ true → ⊥) → f m (more ++ tail) ≡ Ok (value, tail)

-- what does not hang on how many types are open
pub record Core {A : Type 0} (k n : ℕ) (S : Shape) (D : Rel A) (f : Reader A) : Type 0 where
  pub begun : (tokens : List Token) (x : A) (rest : List Token) → length tokens < k → D tokens x rest → Begun S tokens rest
  pub filled : Filled n S f

-- On inputs of fewer than k tokens, with room n, f reads D. It is used where a types are open, and leaves b
-- open, where the limit is so many.
pub record Reads {A : Type 0} (k n limit a b : ℕ) (S : Shape) (D : Rel A) (f : Reader A) : Type 0 where
  pub sound : (tokens : List Token) (x : A) (rest : List Token) → length tokens < k → f n tokens ≡ Ok (x, rest) → D tokens x rest
  pub complete : (tokens : List Token) (x : A) (rest : List Token) → length tokens < k → D tokens x rest → (starts S.follow rest ≡ true → ⊥) → f n tokens ≡ Ok (x, rest)
  pub begun : (tokens : List Token) (x : A) (rest : List Token) → length tokens < k → D tokens x rest → Begun S tokens rest
  pub keeps : (tokens : List Token) (x : A) (rest : List Token) → length tokens < k → f n tokens ≡ Ok (x, rest) → Kept n limit a b S f tokens x rest
  pub stays : (tokens left : List Token) → length tokens < k → f n tokens ≡ halted left → Stayed n limit a S f tokens left
  pub deep : (tokens left : List Token) → length tokens < k → f n tokens ≡ too_deep left → Deep n limit a S f tokens left
  pub filled : Filled n S f

-- ---- the same input, for another reader or by another shape

module _ {A : Type 0} {n limit a : ℕ} {S : Shape} {f : Reader A} (o : ℕ) (T : Shape) (g : Reader A) where
  pub kept_as : {b : ℕ} {tokens : List Token} {x : A} {rest : List Token} (h : Kept n limit a b S f tokens x rest)
      → ((m : ℕ) → o ≤ m → (more : List Token) → (starts T.follow more ≡ true → head_of more ≡ head_of rest) → g m (h.prefix ++ more) ≡ Ok (x, more)) → Kept o limit a b T g tokens x rest
  kept_as h again = record { prefix = h.prefix; whole = h.whole; again = again; shallow = h.shallow; open_after = h.open_after }

  pub stayed_as : {tokens left : List Token} (h : Stayed n limit a S f tokens left) → (h.prefix ≡ [] → Fresh T h.more)
      → ((m : ℕ) → o < m → (tail : List Token) → (starts T.follow tail ≡ true → ⊥) → g m (h.prefix ++ (h.more ++ tail)) ≡ Ok (h.value, tail))
      → ((t : Token) (l : List Token) → left ≡ t ∷ l → (m : ℕ) → o ≤ m → (others : List Token) → g m (h.prefix ++ (t ∷ others)) ≡ halted (t ∷ others)) → Stayed o limit a T g tokens left
  stayed_as h fresh fills stuck = record {
    prefix = h.prefix;
    whole = h.whole;
    more = h.more;
    value = h.value;
    fresh = fresh;
    fills = fills;
    stuck = stuck;
    shallow = h.shallow;
  }

  pub deep_as : {tokens left : List Token} (h : Deep n limit a S f tokens left)
      → ((m : ℕ) → suc o < m → (tail : List Token) → (starts T.follow tail ≡ true → ⊥) → g m (h.prefix ++ (h.next ∷ (h.more ++ tail))) ≡ Ok (h.value, tail)) → Deep o limit a T g tokens left
  deep_as h fills = record {
    prefix = h.prefix;
    next = h.next;
    others = h.others;
    whole = h.whole;
    is = h.is;
    more = h.more;
    value = h.value;
    fills = fills;
    shallow = h.shallow;
    open_after = h.open_after;
  }

pub filled_as : {A : Type 0} {n : ℕ} {S : Shape} {f : Reader A} (o : ℕ) (T : Shape) (g : Reader A) (h : Filled n S f) → Fresh T h.more → ((m : ℕ) → o < m → (tail : List Token) → (starts T.follow tail ≡ true → ⊥) → g m (h.more ++ tail) ≡ Ok (h.value, tail)) → Filled o T g
filled_as o T g h fresh fills = record { more = h.more; value = h.value; fresh = fresh; fills = fills }

-- no input is shorter than nothing
pub of_no_length : {A : Type 0} {n limit a b : ℕ} {S : Shape} {D : Rel A} {f : Reader A} → Filled n S f → Reads 0 n limit a b S D f
of_no_length filled = record {
  sound = λ ts x rest lt. absurd (omega arith);
  complete = λ ts x rest lt. absurd (omega arith);
  begun = λ ts x rest lt. absurd (omega arith);
  keeps = λ ts x rest lt. absurd (omega arith);
  stays = λ ts left lt. absurd (omega arith);
  deep = λ ts left lt. absurd (omega arith);
  filled = filled;
}

pub core_of : {A : Type 0} {k n limit a b : ℕ} {S : Shape} {D : Rel A} {f : Reader A} → Reads k n limit a b S D f → Core k n S D f
core_of r = record { begun = r.begun; filled = r.filled }
