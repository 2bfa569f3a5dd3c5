-- Where a key goes among keys that rise.
use Rattle.std.proofs.Common.{◌≡◌, ℕ, zero, suc, ◌+◌, ◌-◌, ◌<◌, ◌≤◌, true, false, Bool, List, [], ◌∷◌, length, map, get_or, drop, Some, None, refl, sym, ap, ◌∙◌, arith}
use Rattle.std.proofs.lemmas.List.{drop_more, drop_all}
use Rattle.tars_model.specs.Values.{Key, key_of, key_below, entry_key}
use Rattle.tars_model.specs.declared.value.Pair.{Pair, out-Pair}
use Rattle.tars_model.specs.declared.value.Value.{out-Value}
use Rattle.tars_model.proofs.ToldLaws.{entry_key_is}
use Rattle.value_text.specs.ValueSteps.{place_before, place_at}

module _ (key : Key) where
  -- what is there behind the first entries is there of all
  place_from : (j : ℕ) (pairs : List Pair) (n : ℕ) → place_at key (map entry_key (drop j pairs)) ≡ Some (suc n) → place_at key (map entry_key pairs) ≡ Some (j + suc n)
  unfolding place_at
  place_from zero pairs n h = h ∙ ap Some (omega arith)
  place_from (suc j) [] n h = absurd cc
  place_from (suc j) (p ∷ pairs) n h =
      let e : j + suc n ≡ suc (j + n) = omega arith in
      let rest : place_at key (map entry_key pairs) ≡ Some (suc (j + n)) = place_from j pairs n h ∙ ap Some e in
      rw rest (ap Some (omega arith))

  none_from : (j : ℕ) (pairs : List Pair) → place_at key (map entry_key (drop j pairs)) ≡ None → place_at key (map entry_key pairs) ≡ None
  unfolding place_at
  none_from zero pairs h = h
  none_from (suc j) [] h = absurd cc
  none_from (suc j) (p ∷ pairs) h = rw (none_from j pairs h) refl

  module _ (pairs : List Pair) (at : ℕ) (p : Pair) (some : 0 < at) (within : at ≤ length pairs) (is : drop (at - 1) pairs ≡ p ∷ drop at pairs) (above : place_at key (map entry_key (drop at pairs)) ≡ Some 0) where
    step : place_at key (map entry_key (drop (at - 1) pairs)) ≡ place_before key (key_of (out-Value (out-Pair p).key)) (Some 0)
    unfolding place_at
    step = rw (is, above, entry_key_is p) refl

    pub goes_down : key_below key (key_of (out-Value (out-Pair p).key)) ≡ true → place_at key (map entry_key (drop (at - 1) pairs)) ≡ Some 0
    goes_down below = step ∙ rw below refl

    pub place_found : key_below key (key_of (out-Value (out-Pair p).key)) ≡ false → key_below (key_of (out-Value (out-Pair p).key)) key ≡ true → Some at ≡ place_at key (map entry_key pairs)
    place_found not_below below =
        let here : place_at key (map entry_key (drop (at - 1) pairs)) ≡ Some 1 = step ∙ rw (not_below, below) refl in
        sym (place_from (at - 1) pairs 0 here ∙ ap Some (omega arith))

    pub no_place : key_below key (key_of (out-Value (out-Pair p).key)) ≡ false → key_below (key_of (out-Value (out-Pair p).key)) key ≡ false → None ≡ place_at key (map entry_key pairs)
    no_place not_below not_above = sym (none_from (at - 1) pairs (step ∙ rw (not_below, not_above) refl))

pub one_before : (pairs : List Pair) (at : ℕ) (p : Pair) → 0 < at → at ≤ length pairs → p ≡ get_or pairs (at - 1) p → drop (at - 1) pairs ≡ p ∷ drop at pairs
one_before pairs at p some within is =
    let e : at - 1 + 1 ≡ at = omega arith in
    drop_more pairs (at - 1) p (omega arith) ∙ ap (λ k. get_or pairs (at - 1) p ∷ drop k pairs) e ∙ ap (λ (x : Pair). x ∷ drop at pairs) (sym is)

abbrev key_at : List Pair → ℕ → Pair → Key
key_at pairs i p = key_of (out-Value (out-Pair (get_or pairs i p)).key)

module _ (key : Key) (pairs : List Pair) (at : ℕ) (p : Pair) (some : 0 < at) (within : at ≤ length pairs) (is : p ≡ get_or pairs (at - 1) p) (above : place_at key (map entry_key (drop at pairs)) ≡ Some 0) where
  same : (f : Key → Bool) (b : Bool) → f (key_at pairs (at - 1) p) ≡ b → f (key_of (out-Value (out-Pair p).key)) ≡ b
  same f b h = ap (λ (x : Pair). f (key_of (out-Value (out-Pair x).key))) is ∙ h

  pub found_behind : key_below key (key_at pairs (at - 1) p) ≡ false → key_below (key_at pairs (at - 1) p) key ≡ true → Some at ≡ place_at key (map entry_key pairs)
  found_behind not_below below = place_found key pairs at p some within (one_before pairs at p some within is) above (same (key_below key) false not_below) (same (λ k. key_below k key) true below)

  pub none_there : key_below key (key_at pairs (at - 1) p) ≡ false → key_below (key_at pairs (at - 1) p) key ≡ false → None ≡ place_at key (map entry_key pairs)
  none_there not_below not_above = no_place key pairs at p some within (one_before pairs at p some within is) above (same (key_below key) false not_below) (same (λ k. key_below k key) false not_above)

pub none_behind : (key : Key) (pairs : List Pair) → place_at key (map entry_key (drop (length pairs) pairs)) ≡ Some 0
unfolding place_at
none_behind key pairs = rw (drop_all (length pairs) pairs (omega arith)) refl
