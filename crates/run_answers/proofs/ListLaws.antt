-- What holds of each item of a list, by recursion.
use Rattle.std.proofs.Common.{◌≡◌, ◌<◌, ℕ, zero, suc, Bool, true, false, cond, ltb, List, [], ◌∷◌, length, Some, None, refl, subst, arith, ltb-true}
use Rattle.std.specs.Prelude.{slice_get, slice_index_or, slice_set, position}
use Rattle.std.specs.List.{All, list_all}
use Rattle.std.proofs.lemmas.Bool.{and_parts}
use Rattle.std.proofs.lemmas.List.Elements.{All-head, All-tail}
use Rattle.tars_versions.proofs.Induction.{AllOf}
use Rattle.run_course.proofs.Lists.{some_same, none_some}

pub of_all : {X : Type 0} (P : X → Type 0) (xs : List X) → All P xs → AllOf P xs
of_all P [] all = tt
of_all P (x ∷ xs) all = (All-head P x xs all, of_all P xs (All-tail P x xs all))

pub all_goes : {X : Type 0} (P Q : X → Type 0) → ((x : X) → P x → Q x) → (xs : List X) → AllOf P xs → AllOf Q xs
all_goes P Q goes [] all = tt
all_goes P Q goes (x ∷ xs) all = (goes x all.0, all_goes P Q goes xs all.1)

pub all_at : {X : Type 0} (P : X → Type 0) (xs : List X) (k : ℕ) (x : X) → AllOf P xs → slice_get xs k ≡ Some x → P x
all_at P [] k x all e = absurd (none_some x e)
all_at P (y ∷ xs) zero x all e = subst P (some_same y x e) all.0
all_at P (y ∷ xs) (suc k) x all e = all_at P xs k x all.1 e

pub all_each : {X : Type 0} (P : X → Type 0) (xs : List X) → ((k : ℕ) (x : X) → slice_get xs k ≡ Some x → P x) → AllOf P xs
all_each P [] each = tt
all_each P (x ∷ xs) each = (each 0 x refl, all_each P xs (λ k y e. each (suc k) y e))

pub all_pass : {X : Type 0} (p : X → Bool) (xs : List X) → list_all p xs ≡ true → AllOf (λ x. p x ≡ true) xs
all_pass p [] all = tt
all_pass p (x ∷ xs) all = let parts = and_parts (p x) (list_all p xs) all in (parts.0, all_pass p xs parts.1)

-- ---- places

pub index_or_is : {X : Type 0} (xs : List X) (k : ℕ) (d : X) → k < length xs → slice_get xs k ≡ Some (slice_index_or xs k d)
index_or_is [] k d within = absurd (omega arith)
index_or_is (x ∷ xs) zero d within = refl
index_or_is (x ∷ xs) (suc k) d within = index_or_is xs k d (omega arith)

-- the place of a passing item is one of the list
pub position_within : {X : Type 0} (p : X → Bool) (xs : List X) (k : ℕ) → position p xs ≡ Some k → k < length xs
position_within p xs k e = by_place _ (length xs) e
  where
    by_place : (n all : ℕ) → cond (ltb n all) (Some n) None ≡ Some k → k < all
    by_place n all e = by_test (ltb n all) refl e
      where
        by_test : (b : Bool) → ltb n all ≡ b → cond b (Some n) None ≡ Some k → k < all
        by_test true is g = subst (λ m. m < all) (some_same n k g) (ltb-true n all is)
        by_test false is g = absurd (none_some k g)

-- what is set at a place
pub set_keeps : {X : Type 0} (P : ℕ → X → Type 0) (d : X) (xs : List X) (j : ℕ) (y : X) → P j y → ((k : ℕ) → P k (slice_index_or xs k d)) → (k : ℕ) → P k (slice_index_or (slice_set xs j y) k d)
set_keeps P d [] j y own all k = all k
set_keeps P d (x ∷ xs) zero y own all zero = own
set_keeps P d (x ∷ xs) zero y own all (suc k) = all (suc k)
set_keeps P d (x ∷ xs) (suc j) y own all zero = all zero
set_keeps P d (x ∷ xs) (suc j) y own all (suc k) = set_keeps (λ i x. P (suc i) x) d xs j y own (λ i. all (suc i)) k
