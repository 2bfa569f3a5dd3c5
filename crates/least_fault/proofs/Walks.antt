-- Laws of what a condition finds in items, one after the other.
use Rattle.std.proofs.Common.{◌≡◌, List, [], ◌∷◌, ◌++◌, refl, sym, ap, ◌∙◌, append_assoc, append-nil}
use Rattle.least_fault.specs.Conditions.{Condition, found_after}

pub nothing_in : {A : Type 0} (xs ys : List A) → xs ++ ys ≡ [] → (xs ≡ []) × (ys ≡ [])
nothing_in [] ys e = (refl, e)
nothing_in (x ∷ xs) ys e = cc

module _ {Item Fault : Type 0} (condition : Condition Item Fault) where
  -- items, and others after them
  pub found_append : (before xs ys : List Item) → found_after condition before (xs ++ ys) ≡ found_after condition before xs ++ found_after condition (before ++ xs) ys
  found_append before [] ys = ap (λ b. found_after condition b ys) (sym (append-nil before))
  found_append before (x ∷ xs) ys =
      ap (λ f. condition before x ++ f) (found_append (before ++ x ∷ []) xs ys ∙ ap (λ b. found_after condition (before ++ x ∷ []) xs ++ found_after condition b ys) (append_assoc before (x ∷ []) xs))
      ∙ sym (append_assoc (condition before x) (found_after condition (before ++ x ∷ []) xs) (found_after condition (before ++ (x ∷ xs)) ys))

  -- one item more
  pub found_next : (before xs : List Item) (x : Item) → found_after condition before (xs ++ x ∷ []) ≡ found_after condition before xs ++ condition (before ++ xs) x
  found_next before xs x =
      found_append before xs (x ∷ []) ∙ ap (λ f. found_after condition before xs ++ f) (append-nil (condition (before ++ xs) x))

  -- where nothing is found in all, nothing is found at one
  pub nothing_at : (before xs ys : List Item) (x : Item) → found_after condition before (xs ++ x ∷ ys) ≡ [] → condition (before ++ xs) x ≡ []
  nothing_at before xs ys x e =
      (nothing_in (condition (before ++ xs) x) (found_after condition ((before ++ xs) ++ x ∷ []) ys)
      (nothing_in (found_after condition before xs) (found_after condition (before ++ xs) (x ∷ ys)) (sym (found_append before xs (x ∷ ys)) ∙ e)).1).0
