-- Laws of two lists that go together.
use Rattle.std.proofs.Common.{◌≡◌, List, [], ◌∷◌, map, refl, ap, ◌∙◌}
use Rattle.std.specs.List.{AllByRecursion}
use Rattle.canonical_tree.specs.Says.{Pairwise}

module _ {A B : Type 0} where
  pub pairs_with : (P : A → Type 0) (R Q : A → B → Type 0) → ((a : A) (b : B) → P a → R a b → Q a b) → (xs : List A) (ys : List B) → AllByRecursion P xs → Pairwise R xs ys → Pairwise Q xs ys
  pairs_with P R Q both [] [] each pairs = tt
  pairs_with P R Q both (x ∷ xs) (y ∷ ys) each pairs = (both x y each.0 pairs.0, pairs_with P R Q both xs ys each.1 pairs.1)
  pairs_with P R Q both [] (y ∷ ys) each pairs = absurd pairs
  pairs_with P R Q both (x ∷ xs) [] each pairs = absurd pairs

  pub pairs_right : (R : A → B → Type 0) (P : B → Type 0) → ((a : A) (b : B) → R a b → P b) → (xs : List A) (ys : List B) → Pairwise R xs ys → AllByRecursion P ys
  pairs_right R P says [] [] pairs = tt
  pairs_right R P says (x ∷ xs) (y ∷ ys) pairs = (says x y pairs.0, pairs_right R P says xs ys pairs.1)
  pairs_right R P says [] (y ∷ ys) pairs = absurd pairs
  pairs_right R P says (x ∷ xs) [] pairs = absurd pairs

  pub pairs_map : {C : Type 0} (R : A → B → Type 0) (f : B → C) (g : A → C) → ((a : A) (b : B) → R a b → f b ≡ g a) → (xs : List A) (ys : List B) → Pairwise R xs ys → map f ys ≡ map g xs
  pairs_map R f g same [] [] pairs = refl
  pairs_map R f g same (x ∷ xs) (y ∷ ys) pairs = ap (λ c. c ∷ map f ys) (same x y pairs.0) ∙ ap (λ cs. g x ∷ cs) (pairs_map R f g same xs ys pairs.1)
  pairs_map R f g same [] (y ∷ ys) pairs = absurd pairs
  pairs_map R f g same (x ∷ xs) [] pairs = absurd pairs

  pub pairs_made : (R : A → B → Type 0) (f : B → A) → ((a : A) (b : B) → R a b → f b ≡ a) → (xs : List A) (ys : List B) → Pairwise R xs ys → map f ys ≡ xs
  pairs_made R f same [] [] pairs = refl
  pairs_made R f same (x ∷ xs) (y ∷ ys) pairs = ap (λ c. c ∷ map f ys) (same x y pairs.0) ∙ ap (λ cs. x ∷ cs) (pairs_made R f same xs ys pairs.1)
  pairs_made R f same [] (y ∷ ys) pairs = absurd pairs
  pairs_made R f same (x ∷ xs) [] pairs = absurd pairs
