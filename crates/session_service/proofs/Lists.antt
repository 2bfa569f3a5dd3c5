-- Facts on lists.
use Rattle.std.specs.List.{All}
use Rattle.std.proofs.lemmas.List.{drop_more, take-append-drop}
use Rattle.std.proofs.lemmas.List.Elements.{All-head, All-tail}
use Rattle.std.proofs.Common.{◌≤◌, ◌+◌, ◌-◌, ◌++◌, ◌∙◌, take, drop, drop_of_length-le, append_assoc, ◌≡◌, ◌<◌, ℕ, zero, suc, List, [], ◌∷◌, length, Some, refl, ap, sym, arith}
use Rattle.std.specs.Prelude.{slice_get, slice_index_or}

pub found_or : {A : Type 0} (xs : List A) (k : ℕ) (d : A) → k < length xs → slice_get xs k ≡ Some (slice_index_or xs k d)
found_or [] k d within = absurd (omega arith)
found_or (x ∷ xs) zero d within = refl
found_or (x ∷ xs) (suc k) d within = found_or xs k d (omega arith)

-- ---- the last of those that are left

last_apart : {A : Type 0} (rest : List A) (x : A) → 1 ≤ length rest → x ≡ slice_index_or rest (length rest - 1) x → rest ≡ take (length rest - 1) rest ++ x ∷ []
last_apart rest x some last =
    let at : ℕ = length rest - 1 in
    let below : at < length rest = omega arith in
    let none : drop (at + 1) rest ≡ [] = drop_of_length-le rest (omega arith) in
    sym (take-append-drop at rest) ∙ ap (λ end. take at rest ++ end) (drop_more rest at x below ∙ ap (λ first. first ∷ drop (at + 1) rest) (sym last) ∙ ap (λ end. x ∷ end) none)

-- it goes to those that are done
pub last_done : {A : Type 0} (all rest done : List A) (x : A) → 1 ≤ length rest → x ≡ slice_index_or rest (length rest - 1) x → all ≡ rest ++ done
    → all ≡ take (length rest - 1) rest ++ x ∷ done
last_done all rest done x some last same =
    same ∙ ap (λ xs. xs ++ done) (last_apart rest x some last) ∙ append_assoc (take (length rest - 1) rest) (x ∷ []) done

pub all_middle : {A : Type 0} (P : A → Type 0) (xs ys : List A) (x : A) → All P (xs ++ x ∷ ys) → P x
all_middle P [] ys x all = All-head P x ys all
all_middle P (y ∷ xs) ys x all = all_middle P xs ys x (All-tail P y (xs ++ x ∷ ys) all)
