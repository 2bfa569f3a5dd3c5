-- { P } and a sign.
use Rattle.std.proofs.Common.{◌≡◌, ℕ, zero, suc, ◌<◌, ◌≤◌, true, false, List, [], ◌∷◌, ◌++◌, length, refl, ap, ◌∙◌, arith, inl, inr}
use Rattle.idl_parse.specs.Depth.{following}
use Rattle.idl_parse.specs.Grammar.{Mark}
use Rattle.idl_parse.specs.ReadSteps.{mark_at, until_at}
use Rattle.idl_parse.specs.Rules.{Rel, Gives, ◌⟫◌, Either, Many, none, more}
use Rattle.idl_lex.specs.declared.kind.Kind.{Kind}
use Rattle.idl_lex.specs.declared.kind.Kind.TheVariants as kinds
use Rattle.idl_lex.specs.declared.sign.Sign.{Sign}
use Rattle.idl_lex.specs.declared.token.Token.{Token}
use Rattle.idl_parse.proofs.Parsing.Combining.Choice.{one_kind, choice, filled_by_first}
use Rattle.idl_parse.proofs.Parsing.Combining.Heads.{apart}
use Rattle.idl_parse.proofs.Parsing.Combining.InOrder.{then, in_order}
use Rattle.idl_parse.proofs.Parsing.Combining.Leaves.{giving, nothing, gives, single, one}
use Rattle.idl_parse.specs.ReadSteps.{Shrinks}
use Rattle.idl_parse.proofs.Parsing.Repeating.Loops.{one_turn, until_turn}
use Rattle.idl_parse.proofs.Parsing.Combining.Readers.{Reader, Shape, seq, Begun, has_some, has_none, Filled, Reads, of_no_length}
use Rattle.idl_parse.proofs.Parsing.Combining.Regroup.{same_relation, same_reader}

abbrev pub Until : {A : Type 0} → Sign → Rel A → Rel (List A)
Until sign P = Many P ⟫ λ xs. Mark sign ⟫ λ _. Gives xs

abbrev pub UntilTurn : {A : Type 0} → Sign → Rel A → Rel (List A)
UntilTurn sign P = Either (Mark sign ⟫ λ _. Gives []) (P ⟫ λ x. Until sign P ⟫ λ xs. Gives (x ∷ xs))

pub turn_there : {A : Type 0} (sign : Sign) (P : Rel A) (ts : List Token) (tree : List A) (rest : List Token) → UntilTurn sign P ts tree rest → Until sign P ts tree rest
turn_there sign P ts tree rest (inl p) = ([], ts, none, p)
turn_there sign P ts tree rest (inr (x, mid, p, (xs, end, (ys, at, many, (t, end', mark, (same, is))), (same', is')))) =
    (x ∷ ys, at, more p many, (t, end', mark, (ap (λ zs. x ∷ zs) same ∙ same', is ∙ is')))

turn_back : {A : Type 0} (sign : Sign) (P : Rel A) (ts : List Token) (tree : List A) (rest : List Token) → Until sign P ts tree rest → UntilTurn sign P ts tree rest
turn_back {A} sign P ts tree rest (xs, at, many, end) = by_many many end
  where
    by_many : {ts : List Token} {xs : List A} {at : List Token} → Many P ts xs at → (Mark sign ⟫ λ _. Gives xs) at tree rest → UntilTurn sign P ts tree rest
    by_many none end = inl end
    by_many (more {xs = xs} p many) (t, end', mark, (same, is)) =
        inr (_, _, p, (xs, end', (xs, _, many, (t, end', mark, (refl, refl))), (same, is)))

-- ---- its reader

abbrev pub item_shape : List Kind → List Kind → Shape
item_shape first follow = record { first = first; follow = follow; empty = false }

abbrev pub until_shape : Sign → List Kind → Shape
until_shape sign first = record { first = kinds.Sign sign ∷ (first ++ []); follow = []; empty = false }

pub shrinks_by : {A : Type 0} (n limit a b : ℕ) (first follow : List Kind) (P : Rel A) (f : Reader A) → ((k : ℕ) → Reads k n limit a b (item_shape first follow) P f) → Shrinks (f n)
shrinks_by n limit a b first follow P f item ts x rest e =
    let r = item (suc (length ts)) in
    let lt : length ts < suc (length ts) = omega arith in
    takes (r.begun ts x rest lt (r.sound ts x rest lt e))
  where
    takes : {ts rest : List Token} → Begun (item_shape first follow) ts rest → length rest < length ts
    takes (has_some st less) = less
    takes (has_none empty is) = cc

module _ {A : Type 0} (sign : Sign) (first follow : List Kind) (P : ℕ → Rel A) (f : Reader A)
    (no_common : apart (kinds.Sign sign ∷ []) (first ++ []) ≡ true)
    (no_common_after : apart follow ((kinds.Sign sign ∷ (first ++ [])) ++ []) ≡ true)
    (flat : following (kinds.Sign sign) 0 ≡ 0)
    (item : (k n : ℕ) → Reads k (suc n) (suc n) 0 0 (item_shape first follow) (P (suc n)) f) where
  shrinks : (m n : ℕ) → suc n ≤ m → Shrinks (f m)
  shrinks zero n le = absurd (omega arith)
  shrinks (suc m) n le = shrinks_by (suc m) (suc m) 0 0 first follow (P (suc m)) f (λ k. item k m)

  closing : (k n : ℕ) → Reads k (suc n) (suc n) 0 0 (one_kind (kinds.Sign sign) []) (Mark sign ⟫ λ _. Gives []) (then (λ m. mark_at sign) (λ _. giving {A = List A} []))
  closing k n =
      in_order k k (suc n) (suc n) 0 0 0 (single (kinds.Sign sign ∷ [])) nothing (Mark sign) (λ _. Gives []) (λ m. mark_at sign) (λ _. giving [])
      refl (λ _. omega arith) (omega arith)
      (one k (suc n) (suc n) 0 0 (kinds.Sign sign) (omega arith) flat) (λ _. gives k (suc n) (suc n) 0 [])

  turn : (k n : ℕ) → Reads k (suc n) (suc n) 0 0 (until_shape sign first) (Until sign (P (suc n))) (λ m. until_at sign (f m)) → Reads (suc k) (suc n) (suc n) 0 0 (until_shape sign first) (Until sign (P (suc n))) (λ m. until_at sign (f m))
  turn k n again =
      same_reader (suc k) (suc n) (suc n) 0 0 (until_shape sign first) (Until sign (P (suc n))) (λ m ts. one_turn sign (f m) (until_at sign (f m)) ts) (λ m. until_at sign (f m))
      (same_relation (suc k) (suc n) (suc n) 0 0 (until_shape sign first) (UntilTurn sign (P (suc n))) (Until sign (P (suc n))) (λ m ts. one_turn sign (f m) (until_at sign (f m)) ts)
      (choice (suc k) (suc n) (suc n) 0 0 (kinds.Sign sign) [] (seq (item_shape first follow) (seq (until_shape sign first) nothing)) (Mark sign ⟫ λ _. Gives []) (P (suc n) ⟫ λ x. Until sign (P (suc n)) ⟫ λ xs. Gives (x ∷ xs)) (then (λ m. mark_at sign) (λ _. giving [])) (then f (λ x. then (λ m. until_at sign (f m)) (λ xs. giving (x ∷ xs))))
      no_common (closing (suc k) n)
      (in_order (suc k) k (suc n) (suc n) 0 0 0 (item_shape first follow) (seq (until_shape sign first) nothing) (P (suc n)) (λ x. Until sign (P (suc n)) ⟫ λ xs. Gives (x ∷ xs)) f (λ x. then (λ m. until_at sign (f m)) (λ xs. giving (x ∷ xs)))
      no_common_after (λ e. absurd (never e)) (omega arith)
      (item (suc k) n)
      (λ x. in_order k k (suc n) (suc n) 0 0 0 (until_shape sign first) nothing (Until sign (P (suc n))) (λ xs. Gives (x ∷ xs)) (λ m. until_at sign (f m)) (λ xs. giving (x ∷ xs))
      refl (λ _. omega arith) (omega arith) again (λ xs. gives k (suc n) (suc n) 0 (x ∷ xs)))))
      (turn_there sign (P (suc n))) (turn_back sign (P (suc n))))
      (λ m le ts. until_turn sign (f m) (shrinks m n le) ts)
    where
      never : false ≡ true → ⊥
      never e = cc

  filled : (n : ℕ) → Filled (suc n) (until_shape sign first) (λ m. until_at sign (f m))
  filled n =
      filled_by_first (suc n) (kinds.Sign sign) [] (first ++ []) false (then (λ m. mark_at sign) (λ _. giving [])) (then f (λ x. then (λ m. until_at sign (f m)) (λ xs. giving (x ∷ xs)))) (λ m. until_at sign (f m))
      (closing 0 n).filled (λ m above ts. until_turn sign (f m) (shrinks m n (omega arith)) ts)

  pub until : (k n : ℕ) → Reads k (suc n) (suc n) 0 0 (until_shape sign first) (Until sign (P (suc n))) (λ m. until_at sign (f m))
  until zero n = of_no_length (filled n)
  until (suc k) n = turn k n (until k n)
