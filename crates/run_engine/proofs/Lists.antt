-- Facts on lists.
use Rattle.std.specs.List.{cons_option}
use Rattle.std.specs.Option.{option_to_list}
use Rattle.std.proofs.lemmas.List.{drop_all}
use Rattle.std.proofs.Common.{◌≤◌, ◌+◌, ◌++◌, ◌∙◌, drop, append-nil, append_assoc, add-one, drop-cons, ◌≡◌, ◌<◌, ℕ, zero, suc, List, [], ◌∷◌, length, Option, Some, None, refl, ap, sym, arith}
use Rattle.std.specs.Prelude.{filter_map, slice_get, slice_index_or}
use Rattle.run_course.proofs.Lists.{none_some, some_same}

pub same_head : {A : Type 0} {x y : A} {xs ys : List A} → x ∷ xs ≡ y ∷ ys → x ≡ y
same_head e = cc

pub same_tail : {A : Type 0} {x y : A} {xs ys : List A} → x ∷ xs ≡ y ∷ ys → xs ≡ ys
same_tail e = cc

pub found_at : {A : Type 0} (xs : List A) (k : ℕ) (x : A) → k < length xs → x ≡ slice_index_or xs k x → slice_get xs k ≡ Some x
found_at [] k x within e = absurd (omega arith)
found_at (y ∷ xs) zero x within e = ap (λ z. Some z) (sym e)
found_at (y ∷ xs) (suc k) x within e = found_at xs k x (omega arith) e

pub at_found : {A : Type 0} (xs : List A) (k : ℕ) (x d : A) → slice_get xs k ≡ Some x → slice_index_or xs k d ≡ x
at_found [] k x d e = absurd (none_some x e)
at_found (y ∷ xs) zero x d e = some_same y x e
at_found (y ∷ xs) (suc k) x d e = at_found xs k x d e

-- ---- what is given of the items, one after another

filter_cons : {X Y : Type 0} (f : X → Option Y) (x : X) (xs : List X) → filter_map f (x ∷ xs) ≡ option_to_list (f x) ++ filter_map f xs
filter_cons {Y = Y} f x xs = go (f x)
  where
    go : (y : Option Y) → cons_option y (filter_map f xs) ≡ option_to_list y ++ filter_map f xs
    go None = refl
    go (Some y) = refl

pub one_more : {X Y : Type 0} (f : X → Option Y) (done new all : List Y) (xs : List X) (k : ℕ) (x : X) → k < length xs → x ≡ slice_index_or xs k x
    → done ++ filter_map f (drop k xs) ≡ all → new ≡ done ++ option_to_list (f x) → new ++ filter_map f (drop (k + 1) xs) ≡ all
one_more f done new all xs k x within here so_far is =
    let first : drop k xs ≡ x ∷ drop (suc k) xs = drop-cons xs k x within ∙ ap (λ p. p ∷ drop (suc k) xs) (sym here) in
    ap (λ q. q ++ filter_map f (drop (k + 1) xs)) is
    ∙ append_assoc done (option_to_list (f x)) (filter_map f (drop (k + 1) xs))
    ∙ ap (λ n. done ++ (option_to_list (f x) ++ filter_map f (drop n xs))) (add-one k)
    ∙ ap (λ more. done ++ more) (sym (ap (λ left. filter_map f left) first ∙ filter_cons f x (drop (suc k) xs)))
    ∙ so_far

pub none_left : {X Y : Type 0} (f : X → Option Y) (done all : List Y) (xs : List X) (k : ℕ) → length xs ≤ k → done ++ filter_map f (drop k xs) ≡ all → done ≡ all
none_left f done all xs k last so_far = sym (append-nil done) ∙ ap (λ left. done ++ filter_map f left) (sym (drop_all k xs last)) ∙ so_far
