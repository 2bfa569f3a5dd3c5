-- The function of a name.
use Rattle.std.proofs.Common.{◌≡◌, ◌<◌, ◌≤◌, ◌⊎◌, inl, inr, ℕ, Bool, true, false, Some, None, List, length, slice_get, get_or, position, bytes_eq, lt-ltb, lt_irrefl, not-le_of_lt, refl, sym, ◌∙◌, subst, arith}
use Rattle.std.proofs.lemmas.List.Quantifiers.{position-Some}
use Rattle.std.proofs.lemmas.List.Sums.{position_or_len_is}
use Rattle.std.proofs.lemmas.Option.{get_or_from_slice_get, slice_get_within, slice_get-get_or, slice_get_cases}
use Rattle.std.proofs.lemmas.Slice.Eq.{bytes_eq-Decides}
use Rattle.tars_model.specs.declared.func_desc.FuncDesc.{FuncDesc}
use Rattle.script_rules.specs.Functions.{AreFuncs, IsFunctionOf}
use Rattle.script_rules.proofs.Names.{one_place}

has_name : List ℕ → FuncDesc → Bool
has_name name f = bytes_eq name f.name

-- the first place of the name has the name
pub place_found : (funcs : List FuncDesc) (name : List ℕ) (number : ℕ) → position (λ (f : FuncDesc). bytes_eq name f.name) funcs ≡ Some number → number < length funcs
    → IsFunctionOf funcs name number
place_found funcs name number is within = by_place (slice_get_cases funcs number).1
  where
    by_place : (((x : FuncDesc) × (number < length funcs) × (slice_get funcs number ≡ Some x) × (get_or funcs number x ≡ x)) ⊎ ((length funcs ≤ number) × (slice_get funcs number ≡ None)))
        → IsFunctionOf funcs name number
    by_place (inl (x, inside, found, same)) =
        let passes = position-Some (λ (f : FuncDesc). bytes_eq name f.name) funcs number x is in
        (x, found, sym ((bytes_eq-Decides name x.name).0 (subst (λ (f : FuncDesc). bytes_eq name f.name ≡ true) same passes.1)))
    by_place (inr (past, none)) = absurd (not-le_of_lt within past)

false_from : (b : Bool) → (b ≡ true → ⊥) → b ≡ false
false_from true other = absurd (other refl)
false_from false other = refl

-- the one function of a name is at its first place
pub place_is : (funcs : List FuncDesc) (name : List ℕ) → AreFuncs funcs → (number : ℕ) → IsFunctionOf funcs name number
    → position (λ (f : FuncDesc). bytes_eq name f.name) funcs ≡ Some number
place_is funcs name are number (func, found, named) =
    let first = position_or_len_is test funcs number func (le_from inside) fails (λ _. rw (get_or_from_slice_get funcs number func func found) ((bytes_eq-Decides name func.name).1 (sym named))) in
    rw first (rw (lt-ltb number (length funcs) inside) refl)
  where
    test : FuncDesc → Bool
    test f = bytes_eq name f.name

    inside : number < length funcs
    inside = slice_get_within funcs number func found

    le_from : number < length funcs → number ≤ length funcs
    le_from lt = omega (arith, lt)

    fails : (k : ℕ) → k < number → test (get_or funcs k func) ≡ false
    fails k before = false_from _ (λ yes. lt_irrefl k (subst (λ (n : ℕ). k < n) (sym (one_place (λ (f : FuncDesc). f.name) funcs k number (get_or funcs k func) func are.names_differ
        (slice_get-get_or funcs k func (omega (arith, before, inside))) found (sym ((bytes_eq-Decides name (get_or funcs k func).name).0 yes) ∙ sym named))) before))
