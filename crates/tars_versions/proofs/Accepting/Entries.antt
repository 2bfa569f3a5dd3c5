-- Where the keys of entries rise, each is new among those before it.
use Rattle.std.proofs.Common.{◌≡◌, Bool, true, false, cond, ◌&&◌, List, [], ◌∷◌, map, Ok, refl, ap, ◌∙◌}
use Rattle.std.specs.List.{list_all, list_any}
use Rattle.std.proofs.lemmas.Bool.{and_parts}
use Rattle.tars_model.specs.Values.{Key, key_of, key_below, all_above, entry_key}
use Rattle.tars_model.specs.declared.value.Value.{Value, out-Value}
use Rattle.tars_model.specs.declared.value.Pair.{Pair}
use Rattle.tars_decode.specs.Reads.{same_key, new_key, entry, add_entry}
use Rattle.tars_decode.proofs.KeyLaws.{below_trans, below_once}
use Rattle.tars_decode.proofs.EntryLaws.{key_of_entry}

abbrev pub all_below : Key → List Pair → Bool
all_below key entries = list_all (λ q. key_below (entry_key q) key) entries

not_same : (k q : Key) → key_below q k ≡ true → same_key k q ≡ false
not_same k q e = rw (below_once q k e, e) refl

none_same : (k : Key) (entries : List Pair) → all_below k entries ≡ true → list_any (same_key k) (map entry_key entries) ≡ false
none_same k [] e = refl
none_same k (q ∷ qs) e =
    let parts = and_parts (key_below (entry_key q) k) (list_all (λ q. key_below (entry_key q) k) qs) e in
    rw (not_same k (entry_key q) parts.0, none_same k qs parts.1) refl

and_true : (a b : Bool) → a ≡ true → b ≡ true → (a && b) ≡ true
and_true a b e f = rw (e, f) refl

below_after : (k next : Key) (entries : List Pair) → key_below k next ≡ true → all_below k entries ≡ true → all_below next entries ≡ true
below_after k next [] lt e = refl
below_after k next (q ∷ qs) lt e =
    let parts = and_parts (key_below (entry_key q) k) (list_all (λ q. key_below (entry_key q) k) qs) e in
    and_true _ _ (below_trans (entry_key q) k next parts.0 lt) (below_after k next qs lt parts.1)

added_below : (next : Key) (p : Pair) (entries : List Pair) → key_below (entry_key p) next ≡ true → all_below next entries ≡ true → all_below next (add_entry p entries) ≡ true
added_below next p [] lt e = and_true _ _ lt refl
added_below next p (q ∷ qs) lt e =
    let parts = and_parts (key_below (entry_key q) next) (list_all (λ q. key_below (entry_key q) next) qs) e in
    by_test (key_below (entry_key q) (entry_key p)) (and_true _ _ parts.0 (added_below next p qs lt parts.1))
  where
    by_test : (b : Bool) → all_below next (q ∷ add_entry p qs) ≡ true → all_below next (cond b (q ∷ add_entry p qs) (p ∷ q ∷ qs)) ≡ true
    by_test true later = later
    by_test false later = and_true _ _ lt e

-- the entries before have keys below the first of these
abbrev pub BelowFirst : List Pair → List Pair → Type 0
BelowFirst entries [] = Unit {0}
BelowFirst entries (p ∷ ps) = all_below (entry_key p) entries ≡ true

pub new_key_is : (entries : List Pair) (x : Value) (k : Key) → key_of (out-Value x) ≡ k → all_below k entries ≡ true → new_key entries x ≡ Ok x
new_key_is entries x k is below = rw (is, none_same k entries below) refl

pub below_next : (k : Key) (entries : List Pair) (x y : Value) (ps : List Pair) → key_of (out-Value x) ≡ k → all_below k entries ≡ true → all_above k (map entry_key ps) ≡ true → BelowFirst (add_entry (entry x y) entries) ps
below_next k entries x y [] is below above = tt
below_next k entries x y (p ∷ ps) is below above =
    let lt : key_below (entry_key (entry x y)) (entry_key p) ≡ true = ap (λ k. key_below k (entry_key p)) (key_of_entry x y ∙ is) ∙ above in
    added_below (entry_key p) (entry x y) entries lt (below_after k (entry_key p) entries above below)
