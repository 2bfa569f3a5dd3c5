-- The order of keys, and where a key goes among keys that rise.
use Rattle.std.proofs.Common.{◌≡◌, ◌≤◌, ℕ, suc, Bool, true, false, cond, ◌&&◌, ◌||◌, ℤ, List, [], ◌∷◌, ◌++◌, length, take, drop, Some, None, refl, ap, ◌∙◌, arith}
use Rattle.std.specs.Int.Signed.{lt_z}
use Rattle.std.specs.List.{list_any}
use Rattle.std.specs.Cmp.Lexicographic.{slice_cmp}
use Rattle.std.specs.Ordering.{nat_cmp, ordering_reverse}
use Rattle.std.specs.declared.cmp.Ordering.{Ordering}
use Rattle.std.specs.declared.cmp.Ordering.TheVariants.{Less, Equal, Greater}
use Rattle.std.proofs.lemmas.Cmp.{nat_list_cmp_total}
use Rattle.std.proofs.lemmas.Int.{ints}
use Rattle.std.proofs.lemmas.List.{take-append-drop}
use Rattle.std.proofs.lemmas.List.Folds.{list_any-append}
use Rattle.tars_model.specs.Values.{Key, a_number, a_text, is_less, key_below, all_above, keys_rise}
use Rattle.tars_decode.specs.Reads.{same_key}
use Rattle.tars_decode.specs.ReadingSteps.{below_key, place_of}

none_some : (n : ℕ) → None ≡ Some n → ⊥
none_some n e = cc

is_less_is : (o : Ordering) → is_less o ≡ true → o ≡ Less
is_less_is Less e = refl
is_less_is Equal e = absurd cc
is_less_is Greater e = absurd cc

less_numbers : (a b c : ℤ) → lt_z a b ≡ true → lt_z b c ≡ true → lt_z a c ≡ true
less_numbers a b c e f = grind (arith, ints)

less_texts : (a b c : List ℕ) → is_less (slice_cmp nat_cmp a b) ≡ true → is_less (slice_cmp nat_cmp b c) ≡ true → is_less (slice_cmp nat_cmp a c) ≡ true
less_texts a b c e f = ap is_less (nat_list_cmp_total.trans a b c (is_less_is (slice_cmp nat_cmp a b) e) (is_less_is (slice_cmp nat_cmp b c) f))

pub below_trans : (a b c : Key) → key_below a b ≡ true → key_below b c ≡ true → key_below a c ≡ true
below_trans (a_number a) (a_number b) (a_number c) e f = less_numbers a b c e f
below_trans (a_text a) (a_text b) (a_text c) e f = less_texts a b c e f
below_trans _ _ _ e f = absurd cc

numbers_once : (a b : ℤ) → lt_z a b ≡ true → lt_z b a ≡ false
numbers_once a b e = grind (arith, ints)

texts_once : (a b : List ℕ) → is_less (slice_cmp nat_cmp a b) ≡ true → is_less (slice_cmp nat_cmp b a) ≡ false
texts_once a b e =
    let l = is_less_is (slice_cmp nat_cmp a b) e in
    let r = nat_list_cmp_total.antisymm b a in
    ap is_less (r ∙ ap ordering_reverse l)

pub below_once : (a b : Key) → key_below a b ≡ true → key_below b a ≡ false
below_once (a_number a) (a_number b) e = numbers_once a b e
below_once (a_text a) (a_text b) e = texts_once a b e
below_once _ _ e = absurd cc

-- ---- keys that rise

pub rises_after : (k : Key) (ks : List Key) → keys_rise (k ∷ ks) ≡ true → (all_above k ks ≡ true) × (keys_rise ks ≡ true)
rises_after k ks e = go (all_above k ks) (keys_rise ks) e
  where
    go : (a b : Bool) → (a && b) ≡ true → (a ≡ true) × (b ≡ true)
    go true true e = (refl, refl)
    go true false e = absurd cc
    go false b e = absurd cc

-- ---- the place of a key, by the last key before it

not_same : (a b : Key) → key_below a b ≡ true → same_key a b ≡ false
not_same a b e = rw e refl

not_same_above : (a b : Key) → key_below b a ≡ true → same_key a b ≡ false
not_same_above a b e = rw (below_once b a e, e) refl

count_above : (key k : Key) (ks : List Key) → key_below k key ≡ false → below_key key (ks ++ k ∷ []) ≡ below_key key ks
count_above key k [] e = rw e refl
count_above key k (q ∷ qs) e = ap (λ n. cond (key_below q key) (suc n) 0) (count_above key k qs e)

among_last : (key k : Key) (ks : List Key) → list_any (same_key key) (ks ++ k ∷ []) ≡ (list_any (same_key key) ks || same_key key k)
among_last key k ks = list_any-append (same_key key) ks (k ∷ []) ∙ ap (λ b. list_any (same_key key) ks || b) (or_false (same_key key k))
  where
    or_false : (b : Bool) → (b || false) ≡ b
    or_false true = refl
    or_false false = refl

or_not : (a b : Bool) → b ≡ false → (a || b) ≡ a
or_not true b e = refl
or_not false b e = e

or_is : (a b : Bool) → b ≡ true → (a || b) ≡ true
or_is true b e = refl
or_is false b e = e

-- a key above does not move it
pub place_above : (key k : Key) (ks : List Key) → key_below key k ≡ true → place_of key (ks ++ k ∷ []) ≡ place_of key ks
unfolding place_of
place_above key k ks e =
    rw (among_last key k ks ∙ or_not (list_any (same_key key) ks) (same_key key k) (not_same key k e), count_above key k ks (below_once key k e)) refl

-- an equal key takes it
pub place_taken : (key k : Key) (ks : List Key) → key_below key k ≡ false → key_below k key ≡ false → place_of key (ks ++ k ∷ []) ≡ None
unfolding place_of
place_taken key k ks e f =
    let same : same_key key k ≡ true = rw (e, f) refl in
    rw (among_last key k ks ∙ or_is (list_any (same_key key) ks) (same_key key k) same) refl

record AllBelow (key : Key) (ks : List Key) (n : ℕ) : Type 0 where
  none : list_any (same_key key) ks ≡ false
  count : below_key key ks ≡ n

next_below : (key q p : Key) (ps : List Key) → key_below q p ≡ true → key_below p key ≡ true → (n : ℕ) → AllBelow key (p ∷ ps) n → (key_below q key ≡ true) × AllBelow key (q ∷ p ∷ ps) (suc n)
next_below key q p ps e f n all =
    let g = below_trans q p key e f in
    (g, record { none = rw (not_same_above key q g, all.none) refl; count = rw (g, all.count) refl })

first_of : Key → List Key → Key
first_of k [] = k
first_of k (q ∷ qs) = q

all_below : (key k : Key) (ks : List Key) → keys_rise (ks ++ k ∷ []) ≡ true → key_below k key ≡ true → (key_below (first_of k ks) key ≡ true) × AllBelow key (ks ++ k ∷ []) (suc (length ks))
unfolding first_of
all_below key k [] rise e = (e, record { none = rw (not_same_above key k e) refl; count = rw e refl })
all_below key k (q ∷ []) rise e =
    let r = rises_after q (k ∷ []) rise in
    let below = all_below key k [] r.1 e in
    next_below key q k [] r.0 below.0 1 below.1
all_below key k (q ∷ p ∷ ps) rise e =
    let r = rises_after q (p ∷ (ps ++ k ∷ [])) rise in
    let below = all_below key k (p ∷ ps) r.1 e in
    next_below key q p (ps ++ k ∷ []) r.0 below.0 (suc (suc (length ps))) below.1

-- after a key below, and so after all before that one
pub place_after : (key k : Key) (ks : List Key) → keys_rise (ks ++ k ∷ []) ≡ true → key_below k key ≡ true → place_of key (ks ++ k ∷ []) ≡ Some (suc (length ks))
unfolding place_of
place_after key k ks rise e =
    let all = (all_below key k ks rise e).1 in
    rw (all.none, all.count) refl

pub place_first : (key : Key) → place_of key [] ≡ Some 0
unfolding place_of
place_first key = refl

front_rises : (ks more : List Key) → keys_rise (ks ++ more) ≡ true → keys_rise ks ≡ true
front_rises [] more e = refl
front_rises (k ∷ []) more e = refl
front_rises (k ∷ q ∷ ks) more e =
    let r = rises_after k (q ∷ (ks ++ more)) e in
    rw (r.0, front_rises (q ∷ ks) more r.1) refl

pub taken_rises : (n : ℕ) (ks : List Key) → keys_rise ks ≡ true → keys_rise (take n ks) ≡ true
taken_rises n ks e = front_rises (take n ks) (drop n ks) (rw (take-append-drop n ks) e)

pub place_within : (key : Key) (ks : List Key) (n : ℕ) → place_of key ks ≡ Some n → n ≤ length ks
unfolding place_of
place_within key ks n e = go (list_any (same_key key) ks) e
  where
    most : (ks : List Key) → below_key key ks ≤ length ks
    most [] = omega arith
    most (k ∷ ks) = by_test (key_below k key) (most ks)
      where
        by_test : (b : Bool) → below_key key ks ≤ length ks → cond b (suc (below_key key ks)) 0 ≤ suc (length ks)
        by_test true h = omega arith
        by_test false h = omega arith

    some_is : Some (below_key key ks) ≡ Some n → below_key key ks ≡ n
    some_is e = cc

    go : (b : Bool) → cond b None (Some (below_key key ks)) ≡ Some n → n ≤ length ks
    go true e = absurd (none_some n e)
    go false e = let k = some_is e in let m = most ks in omega arith
