-- What holds of all that lines say, said of the lines as they were read.
use Rattle.std.proofs.Common.{◌≡◌, ℕ, ◌+◌, Bool, cond, List, [], ◌∷◌, map, count_by, refl, sym, ap, ◌∙◌}
use Rattle.std.specs.List.{All}
use Rattle.std.proofs.lemmas.List.Elements.{All-cons, All-nil, All-head, All-tail}
use Rattle.std.proofs.lemmas.List.Sums.{sum_by-cons}

module _ {A B : Type 0} (f : A → B) where
  pub all_mapped : (P : B → Type 0) (xs : List A) → All P (map f xs) → All (λ x. P (f x)) xs
  all_mapped P [] all = All-nil (λ x. P (f x))
  all_mapped P (x ∷ xs) all = All-cons (λ x. P (f x)) x xs (All-head P (f x) (map f xs) all) (all_mapped P xs (All-tail P (f x) (map f xs) all))

  pub count_mapped : (test : B → Bool) (xs : List A) → count_by test (map f xs) ≡ count_by (λ x. test (f x)) xs
  count_mapped test [] = refl
  count_mapped test (x ∷ xs) =
      sum_by-cons (λ (y : B). cond (test y) 1 0) (f x) (map f xs) ∙ ap (λ (n : ℕ). cond (test (f x)) 1 0 + n) (count_mapped test xs)
      ∙ sym (sum_by-cons (λ (y : A). cond (test (f y)) 1 0) x xs)
