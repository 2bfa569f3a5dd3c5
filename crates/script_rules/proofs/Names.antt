-- Names of which no two are the same.
use Rattle.std.proofs.Common.{◌≡◌, ◌≢◌, ℕ, zero, suc, Some, List, [], ◌∷◌, map, slice_get, refl, sym, ap, ◌∙◌, subst}
use Rattle.std.specs.List.{All}
use Rattle.std.proofs.lemmas.Option.{get_or_from_slice_get, slice_get_within}
use Rattle.tars_model.specs.Names.{AllDiffer}

pub some_is : {A : Type 0} {x y : A} → Some x ≡ Some y → x ≡ y
some_is e = cc

-- what holds of each holds of the one at a place
pub all_at : {X : Type 0} (P : X → Type 0) (xs : List X) (k : ℕ) (x : X) → All P xs → slice_get xs k ≡ Some x → P x
all_at P xs k x all found = subst P (get_or_from_slice_get xs k x x found) (all k x (slice_get_within xs k x found))

module _ {X : Type 0} (name_of : X → List ℕ) where
  name_at : (xs : List X) (k : ℕ) (x : X) → slice_get xs k ≡ Some x → slice_get (map name_of xs) k ≡ Some (name_of x)
  name_at [] k x found = absurd cc
  name_at (y ∷ xs) zero x found = ap (λ (z : X). Some (name_of z)) (some_is found)
  name_at (y ∷ xs) (suc k) x found = name_at xs k x found

  -- the same name is at one place
  pub one_place : (xs : List X) (i j : ℕ) (a b : X) → AllDiffer (map name_of xs) → slice_get xs i ≡ Some a → slice_get xs j ≡ Some b → name_of a ≡ name_of b → i ≡ j
  one_place [] i j a b differ at_i at_j same = absurd cc
  one_place (x ∷ xs) zero zero a b differ at_i at_j same = refl
  one_place (x ∷ xs) zero (suc j) a b differ at_i at_j same =
      absurd (all_at (λ other. other ≢ name_of x) (map name_of xs) j (name_of b) differ.0 (name_at xs j b at_j) (sym same ∙ ap name_of (sym (some_is at_i))))
  one_place (x ∷ xs) (suc i) zero a b differ at_i at_j same =
      absurd (all_at (λ other. other ≢ name_of x) (map name_of xs) i (name_of a) differ.0 (name_at xs i a at_i) (same ∙ ap name_of (sym (some_is at_j))))
  one_place (x ∷ xs) (suc i) (suc j) a b differ at_i at_j same = ap suc (one_place xs i j a b differ.1 at_i at_j same)
