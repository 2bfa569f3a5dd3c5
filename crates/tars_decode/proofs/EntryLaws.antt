-- Entries in the order of their keys, and one more.
use Rattle.std.proofs.Common.{◌≡◌, ℕ, suc, ◌+◌, Bool, true, false, cond, ◌&&◌, ◌||◌, not, List, [], ◌∷◌, map, Option, Some, None, Result, Ok, Err, refl, sym, ap, ◌∙◌, subst, ◌*◌}
use Rattle.std.specs.List.{list_any, insert}
use Rattle.facts.specs.ResultSteps.{◌>>=◌}
use Rattle.facts.proofs.ResultLaws.{bind_gave}
use Rattle.tars_model.specs.Values.{Key, key_of, key_below, all_above, keys_rise, entry_key}
use Rattle.tars_model.specs.declared.ty.Ty.{Ty}
use Rattle.tars_model.specs.declared.value.Pair.{Pair}
use Rattle.tars_model.specs.declared.value.Value.{Value, out-Value}
use Rattle.tars_model.proofs.ToldLaws.{entry_key_is}
use Rattle.tars_decode.specs.declared.halt.Halt.{Halt}
use Rattle.tars_decode.specs.Reads.{same_key, add_entry, entry}
use Rattle.tars_decode.specs.ReadingSteps.{Inner, below_key, place_of, placed, item_at, key_at, element_at, entry_at, step_in}
use Rattle.tars_decode.proofs.KeyLaws.{rises_after}

pub key_of_entry : (key to : Value) → entry_key (entry key to) ≡ key_of (out-Value key)
key_of_entry key to = entry_key_is (entry key to)

-- an entry goes where its key does
insert_is : (p : Pair) (ps : List Pair) → insert ps (below_key (entry_key p) (map entry_key ps)) p ≡ add_entry p ps
insert_is p [] = refl
insert_is p (q ∷ qs) = go (key_below (entry_key q) (entry_key p)) (insert_is p qs)
  where
    go : (b : Bool) → insert qs (below_key (entry_key p) (map entry_key qs)) p ≡ add_entry p qs → insert (q ∷ qs) (cond b (suc (below_key (entry_key p) (map entry_key qs))) 0) p ≡ cond b (q ∷ add_entry p qs) (p ∷ q ∷ qs)
    go true e = ap (λ xs. q ∷ xs) e
    go false e = refl

some_is : (m n : ℕ) → Some m ≡ Some n → m ≡ n
some_is m n e = cc

none_some : (n : ℕ) → None ≡ Some n → ⊥
none_some n e = cc

place_is : (key : Key) (keys : List Key) (n : ℕ) → place_of key keys ≡ Some n → (list_any (same_key key) keys ≡ false) × (below_key key keys ≡ n)
unfolding place_of
place_is key keys n e = go (list_any (same_key key) keys) e
  where
    go : (b : Bool) → cond b None (Some (below_key key keys)) ≡ Some n → (b ≡ false) × (below_key key keys ≡ n)
    go true e = absurd (none_some n e)
    go false e = (refl, some_is (below_key key keys) n e)

pub inserted_is : (key to : Value) (ps : List Pair) (n : ℕ) → place_of (key_of (out-Value key)) (map entry_key ps) ≡ Some n → insert ps n (entry key to) ≡ add_entry (entry key to) ps
inserted_is key to ps n e =
    let moved : place_of (entry_key (entry key to)) (map entry_key ps) ≡ Some n = ap (λ k. place_of k (map entry_key ps)) (key_of_entry key to) ∙ e in
    let at = (place_is (entry_key (entry key to)) (map entry_key ps) n moved).1 in
    ap (λ k. insert ps k (entry key to)) (sym at) ∙ insert_is (entry key to) ps

-- ---- the keys rise still

not_among : (key k : Key) (ks : List Key) → list_any (same_key key) (k ∷ ks) ≡ false → (same_key key k ≡ false) × (list_any (same_key key) ks ≡ false)
not_among key k ks e = go (same_key key k) (list_any (same_key key) ks) e
  where
    go : (a b : Bool) → (a || b) ≡ false → (a ≡ false) × (b ≡ false)
    go true b e = absurd cc
    go false b e = (refl, e)

above_if_not_same : (a b : Key) → same_key a b ≡ false → key_below b a ≡ false → key_below a b ≡ true
above_if_not_same a b e f = go (key_below a b) (key_below b a) e f
  where
    go : (x y : Bool) → (not x && not y) ≡ false → y ≡ false → x ≡ true
    go true y e f = refl
    go false true e f = absurd cc
    go false false e f = absurd cc

and_true : (a b : Bool) → a ≡ true → b ≡ true → (a && b) ≡ true
and_true a b e f = rw (e, f) refl

above_add : (k : Key) (p : Pair) (ps : List Pair) → all_above k (map entry_key ps) ≡ true → key_below k (entry_key p) ≡ true → all_above k (map entry_key (add_entry p ps)) ≡ true
above_add k p [] e f = f
above_add k p (q ∷ qs) e f = go (key_below (entry_key q) (entry_key p)) e f
  where
    go : (b : Bool) → key_below k (entry_key q) ≡ true → key_below k (entry_key p) ≡ true → all_above k (map entry_key (cond b (q ∷ add_entry p qs) (p ∷ q ∷ qs))) ≡ true
    go true e f = e
    go false e f = f

added_rises : (p q : Pair) (qs : List Pair) (b : Bool) → key_below (entry_key q) (entry_key p) ≡ b → same_key (entry_key p) (entry_key q) ≡ false → all_above (entry_key q) (map entry_key qs) ≡ true → keys_rise (map entry_key (add_entry p qs)) ≡ true → keys_rise (map entry_key (q ∷ qs)) ≡ true
    → keys_rise (map entry_key (cond b (q ∷ add_entry p qs) (p ∷ q ∷ qs))) ≡ true
added_rises p q qs true e other above later rise = and_true _ _ (above_add (entry_key q) p qs above e) later
added_rises p q qs false e other above later rise = and_true _ _ (above_if_not_same (entry_key p) (entry_key q) other e) rise

pub add_rises : (p : Pair) (ps : List Pair) → list_any (same_key (entry_key p)) (map entry_key ps) ≡ false → keys_rise (map entry_key ps) ≡ true → keys_rise (map entry_key (add_entry p ps)) ≡ true
add_rises p [] none rise = refl
add_rises p (q ∷ qs) none rise =
    let parts = rises_after (entry_key q) (map entry_key qs) rise in
    let others = not_among (entry_key p) (entry_key q) (map entry_key qs) none in
    added_rises p q qs (key_below (entry_key q) (entry_key p)) refl others.0 parts.0 (add_rises p qs others.1 parts.1) rise

-- ---- an entry that was read

abbrev ok : {X : Type 0} → X → Result X Halt
ok x = Ok x

ok_is : {X : Type 0} (x y : X) → ok x ≡ ok y → x ≡ y
ok_is x y e = cc

step_gave : {X : Type 0} (step : ℕ) (r : Result X Halt) (x : X) → step_in step r ≡ Ok x → r ≡ Ok x
step_gave step (Ok y) x e = e
step_gave step (Err why) x e = absurd cc

placed_gave : (o : Option ℕ) (key : Value) (rest : List ℕ) (x : (ℕ × Value) × List ℕ) → placed o key rest ≡ Ok x → o ≡ Some x.0.0 × (key ≡ x.0.1)
placed_gave None key rest x e = absurd cc
placed_gave (Some n) key rest x e = let same = ok_is ((n, key), rest) x e in (ap (λ y. Some (y.0.0)) same, ap (λ y. y.0.1) same)

key_gave : (inner : Inner) (t : Ty) (ps : List Pair) (w : List ℕ) (x : (ℕ × Value) × List ℕ) → key_at inner t ps w ≡ Ok x → place_of (key_of (out-Value x.0.1)) (map entry_key ps) ≡ Some x.0.0
unfolding key_at
key_gave inner t ps w x e =
    let k = bind_gave (item_at inner t w) (λ k. placed (place_of (key_of (out-Value k.0)) (map entry_key ps)) k.0 k.1) x e in
    let p = placed_gave (place_of (key_of (out-Value k.0.0)) (map entry_key ps)) k.0.0 k.0.1 x k.2 in
    ap (λ v. place_of (key_of (out-Value v)) (map entry_key ps)) (sym p.1) ∙ p.0

record HasPlace (ps : List Pair) (n : ℕ) (p : Pair) : Type 0 where
  key : Value
  to : Value
  is : entry key to ≡ p
  place : place_of (key_of (out-Value key)) (map entry_key ps) ≡ Some n

entry_gave : (inner : Inner) (key to : Ty) (i : ℕ) (ps : List Pair) (w : List ℕ) (n : ℕ) (p : Pair) (rest : List ℕ) → entry_at inner key to i ps w ≡ Ok ((n, p), rest) → HasPlace ps n p
unfolding entry_at
entry_gave inner key to i ps w n p rest e =
    let k = bind_gave (step_in (2 * i) (key_at inner key ps w)) (λ k. element_at inner to (2 * i + 1) k.1 >>= λ v. Ok ((k.0.0, entry k.0.1 v.0), v.1)) ((n, p), rest) e in
    let v = bind_gave (element_at inner to (2 * i + 1) k.0.1) (λ v. Ok ((k.0.0.0, entry k.0.0.1 v.0), v.1)) ((n, p), rest) k.2 in
    let same = ok_is ((k.0.0.0, entry k.0.0.1 v.0.0), v.0.1) ((n, p), rest) v.2 in
    let place = key_gave inner key ps w k.0 (step_gave (2 * i) (key_at inner key ps w) k.0 k.1) in
    record { key = k.0.0.1; to = v.0.0; is = ap (λ x. x.0.1) same; place = place ∙ ap (λ x. Some (x.0.0)) same }

pub entry_rises : (inner : Inner) (key to : Ty) (i : ℕ) (ps : List Pair) (w : List ℕ) (n : ℕ) (p : Pair) (rest : List ℕ) → entry_at inner key to i ps w ≡ Ok ((n, p), rest) → keys_rise (map entry_key ps) ≡ true → keys_rise (map entry_key (insert ps n p)) ≡ true
entry_rises inner key to i ps w n p rest e rise =
    let h = entry_gave inner key to i ps w n p rest e in
    let moved : place_of (entry_key (entry h.key h.to)) (map entry_key ps) ≡ Some n = ap (λ k. place_of k (map entry_key ps)) (key_of_entry h.key h.to) ∙ h.place in
    let none = (place_is (entry_key (entry h.key h.to)) (map entry_key ps) n moved).0 in
    let added = add_rises (entry h.key h.to) ps none rise in
    subst (λ q. keys_rise (map entry_key (insert ps n q)) ≡ true) h.is (rw (inserted_is h.key h.to ps n h.place) added)

pub below_inserts : (key to : Value) (ps : List Pair) → insert ps (below_key (key_of (out-Value key)) (map entry_key ps)) (entry key to) ≡ add_entry (entry key to) ps
below_inserts key to ps =
    ap (λ k. insert ps (below_key k (map entry_key ps)) (entry key to)) (sym (key_of_entry key to)) ∙ insert_is (entry key to) ps
