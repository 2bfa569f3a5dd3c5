-- The laws of readers that follow each other, with what is plain from the parts left out.
use Rattle.std.proofs.Common.{◌≡◌, ℕ, ◌<◌, true, Some, None, Ok, List, [], ◌∷◌, ◌++◌, length, refl, arith}
use Rattle.idl_parse.specs.Depth.{following}
use Rattle.idl_parse.specs.KindSteps.{holds}
use Rattle.idl_parse.specs.ReadSteps.{one_at, maybe_at}
use Rattle.idl_parse.specs.Rules.{Rel, Gives, ◌⟫◌, One, Either, Maybe}
use Rattle.idl_lex.specs.declared.kind.Kind.{Kind}
use Rattle.idl_lex.specs.declared.token.Token.{Token}
use Rattle.idl_parse.proofs.Parsing.Combining.Choice.{choose, one_kind, alt, choice}
use Rattle.idl_parse.proofs.Parsing.Combining.Heads.{apart}
use Rattle.idl_parse.proofs.Parsing.Combining.InOrder.{then, in_order, in_order_where_read, core_in_order}
use Rattle.idl_parse.proofs.Parsing.Combining.Leaves.{giving, nothing, gives, single, one}
use Rattle.idl_parse.proofs.Parsing.Combining.Readers.{Reader, Shape, seq, Core, Reads, core_of}
use Rattle.idl_parse.proofs.Parsing.Combining.Regroup.{same_relation}

pub next : {A B : Type 0} {k n limit a b c : ℕ} {S T : Shape} {P : Rel A} {Q : A → Rel B} {f : Reader A} {g : A → Reader B} → apart S.follow T.first ≡ true → Reads k n limit a b S P f → ((x : A) → Reads k n limit b c T (Q x) (g x)) → Reads k n limit a c (seq S T) (P ⟫ Q) (then f g)
next {k = k} {n = n} {limit = limit} {a = a} {b = b} {c = c} {S = S} {T = T} {P = P} {Q = Q} {f = f} {g = g} no_common r s =
    in_order k k n limit a b c S T P Q f g no_common (λ _. omega arith) (omega arith) r s

pub done : {A : Type 0} {k n limit a : ℕ} (x : A) → Reads k n limit a a nothing (Gives x) (giving x)
done {k = k} {n = n} {limit = limit} {a = a} x = gives k n limit a x

pub either : {A : Type 0} {k n limit a b : ℕ} {kind : Kind} {follow : List Kind} {T : Shape} {P Q : Rel A} {f g : Reader A} → apart (kind ∷ []) T.first ≡ true → Reads k n limit a b (one_kind kind follow) P f → Reads k n limit a b T Q g → Reads k n limit a b (alt (one_kind kind follow) T) (Either P Q) (choose kind f g)
either {k = k} {n = n} {limit = limit} {a = a} {b = b} {kind = kind} {follow = follow} {T = T} {P = P} {Q = Q} {f = f} {g = g} no_common r s =
    choice k n limit a b kind follow T P Q f g no_common r s

abbrev pub maybe_shape : Kind → List Kind → Shape
maybe_shape kind follow = record { first = kind ∷ []; follow = (follow ++ []) ++ (kind ∷ []); empty = true }

pub maybe : {A : Type 0} {k n limit a : ℕ} {kind : Kind} {follow : List Kind} {P : Rel A} {f : Reader A} → Reads k n limit a a (one_kind kind follow) P f → Reads k n limit a a (maybe_shape kind follow) (Maybe P) (λ m. maybe_at kind (f m))
unfolding holds
maybe {A} {k = k} {n = n} {limit = limit} {a = a} {kind = kind} {follow = follow} {P = P} {f = f} r =
    let some = in_order k k n limit a a a (one_kind kind follow) nothing P (λ x. Gives (Some x)) f (λ x. giving (Some x)) (apart_nothing follow) (λ _. omega arith) (omega arith) r (λ x. gives k n limit a (Some x)) in
    choice k n limit a a kind follow nothing (P ⟫ λ x. Gives (Some x)) (Gives None) (then f (λ x. giving (Some x))) (giving None) refl some (gives k n limit a None)
  where
    apart_nothing : (kinds : List Kind) → apart kinds [] ≡ true
    apart_nothing [] = refl
    apart_nothing (k ∷ ks) = apart_nothing ks

-- the brackets of ⟫ do not matter
pub regroup : {A B C : Type 0} {k n limit a b : ℕ} {S : Shape} {P : Rel A} {Q : A → Rel B} {R : B → Rel C} {f : Reader C} → Reads k n limit a b S ((P ⟫ Q) ⟫ R) f → Reads k n limit a b S (P ⟫ λ x. Q x ⟫ R) f
regroup {k = k} {n = n} {limit = limit} {a = a} {b = b} {S = S} {P = P} {Q = Q} {R = R} {f = f} r =
    same_relation k n limit a b S ((P ⟫ Q) ⟫ R) (P ⟫ λ x. Q x ⟫ R) f r
    (λ ts z rest (y, mid, (x, first, p, q), s). (x, first, p, (y, mid, q, s)))
    (λ ts z rest (x, first, p, (y, mid, q, s)). (y, mid, (x, first, p, q), s))

-- ---- what does not hang on how many types are open

pub next_core : {A B : Type 0} {k n : ℕ} {S T : Shape} {P : Rel A} {Q : A → Rel B} {f : Reader A} {g : A → Reader B} → apart S.follow T.first ≡ true → Core k n S P f → ((x : A) → Core k n T (Q x) (g x)) → Core k n (seq S T) (P ⟫ Q) (then f g)
next_core {k = k} {n = n} {S = S} {T = T} {P = P} {Q = Q} {f = f} {g = g} no_common r s =
    core_in_order k k n S T P Q f g no_common (λ _. omega arith) (omega arith) r s

pub done_core : {A : Type 0} {k n : ℕ} (x : A) → Core k n nothing (Gives x) (giving x)
done_core {k = k} {n = n} x = core_of (gives k n 0 0 x)

pub one_core : {k n : ℕ} (kind : Kind) → Core k n (single (kind ∷ [])) (One kind) (λ m. one_at kind)
one_core {k = k} {n = n} kind = core_of (one k n 1 0 (following kind 0) kind (omega arith) refl)

pub regroup_core : {A B C : Type 0} {k n : ℕ} {S : Shape} {P : Rel A} {Q : A → Rel B} {R : B → Rel C} {f : Reader C} → Core k n S ((P ⟫ Q) ⟫ R) f → Core k n S (P ⟫ λ x. Q x ⟫ R) f
regroup_core r = record {
  begun = λ ts z rest lt (x, first, p, (y, mid, q, s)). r.begun ts z rest lt (y, mid, (x, first, p, q), s);
  filled = r.filled;
}

-- the second where the first was read
pub next_where : {A B : Type 0} {k n limit a b c : ℕ} {S T : Shape} {P : Rel A} {Q : A → Rel B} {f : Reader A} {g : A → Reader B} → apart S.follow T.first ≡ true → Reads k n limit a b S P f → ((x : A) → Core k n T (Q x) (g x)) → ((x : A) (ts mid : List Token) → length ts < k → f n ts ≡ Ok (x, mid) → Reads k n limit b c T (Q x) (g x)) → Reads k n limit a c (seq S T) (P ⟫ Q) (then f g)
next_where {k = k} {n = n} {limit = limit} {a = a} {b = b} {c = c} {S = S} {T = T} {P = P} {Q = Q} {f = f} {g = g} no_common r core s =
    in_order_where_read k k n limit a b c S T P Q f g no_common (λ _. omega arith) (omega arith) r core s
