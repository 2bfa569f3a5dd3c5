-- The place of a key among those of entries, as a loop from the end finds it.
use Rattle.std.proofs.Common.{◌≡◌, ◌<◌, ◌≤◌, ℕ, suc, ◌+◌, ◌-◌, true, false, List, [], ◌∷◌, ◌++◌, length, take, map, get_or, Option, Some, None, sym, ap, ◌∙◌, arith}
use Rattle.std.proofs.Math.ListN.{get_or-map}
use Rattle.std.proofs.lemmas.List.{take_more, length-map, length-take}
use Rattle.tars_model.specs.Values.{Key, key_of, key_below, keys_rise, entry_key}
use Rattle.tars_model.specs.declared.value.Pair.{Pair, out-Pair}
use Rattle.tars_model.specs.declared.value.Value.{out-Value}
use Rattle.tars_model.proofs.ToldLaws.{entry_key_is}
use Rattle.tars_decode.specs.ReadingSteps.{place_of}
use Rattle.tars_decode.proofs.KeyLaws.{place_after, place_taken, place_above, place_first, taken_rises}

-- the key of an entry
abbrev pub own_key : Pair → Key
own_key p = key_of (out-Value (out-Pair p).key)

module _ (key : Key) (pairs : List Pair) (at : ℕ) (d : Pair) (some : 0 < at) (within : at ≤ length pairs) where
  keys : List Key
  keys = map entry_key pairs

  last_key : Key
  last_key = entry_key (get_or pairs (at - 1) d)

  own : own_key (get_or pairs (at - 1) d) ≡ last_key
  unfolding last_key
  own = sym (entry_key_is (get_or pairs (at - 1) d))

  taken : take at keys ≡ take (at - 1) keys ++ last_key ∷ []
  unfolding keys last_key
  taken =
      let k : at ≡ (at - 1) + 1 = omega arith in
      let lt : at - 1 < length (map entry_key pairs) = rw (length-map pairs entry_key) (omega arith) in
      ap (λ n. take n (map entry_key pairs)) k ∙ (take_more (map entry_key pairs) (at - 1) (entry_key d) lt ∙ ap (λ x. take (at - 1) (map entry_key pairs) ++ x ∷ []) (get_or-map entry_key pairs (at - 1) d))

  count : suc (length (take (at - 1) keys)) ≡ at
  unfolding keys
  count =
      let k : length (map entry_key pairs) ≡ length pairs = length-map pairs entry_key in
      let l : length (take (at - 1) (map entry_key pairs)) ≡ at - 1 = omega (arith, length-take (at - 1) (map entry_key pairs)) in
      omega arith

  pub place_here : keys_rise (map entry_key pairs) ≡ true → key_below (own_key (get_or pairs (at - 1) d)) key ≡ true → place_of key (take at (map entry_key pairs)) ≡ place_of key (map entry_key pairs) → Some at ≡ place_of key (map entry_key pairs)
  unfolding keys
  place_here rise below so_far =
      let b : key_below last_key key ≡ true = sym (ap (λ k. key_below k key) own) ∙ below in
      let r : keys_rise (take (at - 1) keys ++ last_key ∷ []) ≡ true = ap keys_rise (sym taken) ∙ taken_rises at keys rise in
      sym (sym so_far ∙ (ap (place_of key) taken ∙ (place_after key last_key (take (at - 1) keys) r b ∙ ap some_place count)))
    where
      some_place : ℕ → Option ℕ
      some_place n = Some n

  pub place_none : key_below (own_key (get_or pairs (at - 1) d)) key ≡ false → key_below key (own_key (get_or pairs (at - 1) d)) ≡ false → place_of key (take at (map entry_key pairs)) ≡ place_of key (map entry_key pairs) → None ≡ place_of key (map entry_key pairs)
  unfolding keys
  place_none below above so_far =
      let b : key_below last_key key ≡ false = sym (ap (λ k. key_below k key) own) ∙ below in
      let a : key_below key last_key ≡ false = sym (ap (λ k. key_below key k) own) ∙ above in
      sym (sym so_far ∙ (ap (place_of key) taken ∙ place_taken key last_key (take (at - 1) keys) a b))

  pub place_on : key_below key (own_key (get_or pairs (at - 1) d)) ≡ true → place_of key (take at (map entry_key pairs)) ≡ place_of key (map entry_key pairs) → place_of key (take (at - 1) (map entry_key pairs)) ≡ place_of key (map entry_key pairs)
  unfolding keys
  place_on above so_far =
      let a : key_below key last_key ≡ true = sym (ap (λ k. key_below key k) own) ∙ above in
      sym (ap (place_of key) taken ∙ place_above key last_key (take (at - 1) keys) a) ∙ so_far

pub place_at_first : (key : Key) (pairs : List Pair) (at : ℕ) → at ≤ 0 → place_of key (take at (map entry_key pairs)) ≡ place_of key (map entry_key pairs) → Some 0 ≡ place_of key (map entry_key pairs)
place_at_first key pairs at none so_far =
    let k : at ≡ 0 = omega arith in
    sym (place_first key) ∙ (ap (λ n. place_of key (take n (map entry_key pairs))) (sym k) ∙ so_far)
