-- Names that are kept by reference.
use Rattle.std.proofs.Common.{◌≡◌, ℕ, Bool, true, false, cond, ◌||◌, List, [], ◌∷◌, ◌++◌, map, refl, ap, ◌∙◌, Bor}
use Rattle.std.specs.List.{list_any}
use Rattle.std.specs.Str.{bytes_eq}
use Rattle.std.proofs.lemmas.List.{map-append}

abbrev pub now_of : Bor (List ℕ) → List ℕ
now_of k = k.now

pub any_now : (word : List ℕ) (test : Bor (List ℕ) → Bool) → ((k : Bor (List ℕ)) → test k ≡ bytes_eq word k.now) → (ks : List (Bor (List ℕ))) → list_any test ks ≡ list_any (bytes_eq word) (map now_of ks)
any_now word test same [] = refl
any_now word test same (k ∷ ks) = ap (λ b. b || list_any test ks) (same k) ∙ ap (λ b. bytes_eq word k.now || b) (any_now word test same ks)

now_chosen : (b : Bool) (ks : List (Bor (List ℕ))) (k : Bor (List ℕ)) → map now_of (cond b ks (ks ++ k ∷ [])) ≡ cond b (map now_of ks) (map now_of ks ++ k.now ∷ [])
now_chosen true ks k = refl
now_chosen false ks k = map-append now_of ks (k ∷ [])

pub now_with : (ks new : List (Bor (List ℕ))) (seen : List (List ℕ)) (k : Bor (List ℕ)) (test : Bor (List ℕ) → Bool) → ((e : Bor (List ℕ)) → test e ≡ bytes_eq k.now e.now) → map now_of ks ≡ seen
    → new ≡ cond (list_any test ks) ks (ks ++ k ∷ []) → map now_of new ≡ cond (list_any (bytes_eq k.now) seen) seen (seen ++ k.now ∷ [])
now_with ks new seen k test same is e =
    ap (map now_of) e ∙ now_chosen (list_any test ks) ks k ∙ ap (λ b. cond b (map now_of ks) (map now_of ks ++ k.now ∷ [])) (any_now k.now test same ks) ∙ ap (λ (s : List (List ℕ)). cond (list_any (bytes_eq k.now) s) s (s ++ k.now ∷ [])) is
