-- Keys that rise, and the place of one more among them.
use Rattle.std.proofs.Common.{◌≡◌, ◌≤◌, ◌+◌, ℕ, zero, suc, ℤ, Bool, true, false, ◌==◌, ◌&&◌, ◌||◌, nat_lt, cond, Option, Some, None, List, [], ◌∷◌, ◌++◌, length, take, drop, map, refl, sym, ap, ◌∙◌, subst, arith}
use Rattle.std.proofs.lemmas.Bool.{and_parts, and_from}
use Rattle.std.proofs.lemmas.Bool.Decides.{nat_tests}
use Rattle.std.proofs.lemmas.Cmp.{same_from_slice_cmp}
use Rattle.std.proofs.lemmas.Int.{ints}
use Rattle.std.specs.Cmp.Lexicographic.{slice_cmp}
use Rattle.std.specs.Int.Signed.{lt_z}
use Rattle.std.specs.List.{insert, list_all}
use Rattle.std.specs.Ordering.{nat_cmp}
use Rattle.std.specs.declared.cmp.Ordering.{Ordering}
use Rattle.tars_model.specs.Values.{Key, a_number, a_text, no_key, is_less, key_below, all_above, keys_rise, entry_key}
use Rattle.tars_model.specs.declared.value.Pair.{Pair}
use Rattle.value_text.specs.ValueSteps.{place_before, place_at}
use Rattle.value_text.specs.Spelling.{Placed, done, put}

-- ---- the order of keys

less : List ℕ → List ℕ → Bool
less [] [] = false
less [] (y ∷ ys) = true
less (x ∷ xs) [] = false
less (x ∷ xs) (y ∷ ys) = nat_lt x y || (x == y && less xs ys)

less_is : (xs ys : List ℕ) (o : Ordering) → o ≡ slice_cmp nat_cmp xs ys → is_less o ≡ less xs ys
unfolding less
less_is = same_from_slice_cmp nat_cmp is_less less refl (λ _ _. refl) (λ _ _. refl) (λ x y xs ys o h. grind (arith, nat_tests))

less_step : (x y z : ℕ) (p q r : Bool) → (p ≡ true → q ≡ true → r ≡ true) → (nat_lt x y || (x == y && p)) ≡ true → (nat_lt y z || (y == z && q)) ≡ true → (nat_lt x z || (x == z && r)) ≡ true
less_step x y z true true true deeper one two = grind (arith, nat_tests)
less_step x y z true true false deeper one two = absurd (apart (deeper refl refl))
  where
    apart : false ≡ true → ⊥
    apart e = cc
less_step x y z true false r deeper one two = grind (arith, nat_tests)
less_step x y z false true r deeper one two = grind (arith, nat_tests)
less_step x y z false false r deeper one two = grind (arith, nat_tests)

less_trans : (a b c : List ℕ) → less a b ≡ true → less b c ≡ true → less a c ≡ true
unfolding less
less_trans [] [] c one two = absurd cc
less_trans [] (y ∷ ys) [] one two = absurd cc
less_trans [] (y ∷ ys) (z ∷ zs) one two = refl
less_trans (x ∷ xs) [] c one two = absurd cc
less_trans (x ∷ xs) (y ∷ ys) [] one two = absurd cc
less_trans (x ∷ xs) (y ∷ ys) (z ∷ zs) one two = less_step x y z (less xs ys) (less ys zs) (less xs zs) (less_trans xs ys zs) one two

less_back : (x y : ℕ) (p q : Bool) → (p ≡ true → q ≡ false) → (nat_lt x y || (x == y && p)) ≡ true → (nat_lt y x || (y == x && q)) ≡ false
less_back x y true true deeper one = absurd (apart (deeper refl))
  where
    apart : true ≡ false → ⊥
    apart e = cc
less_back x y true false deeper one = grind (arith, nat_tests)
less_back x y false q deeper one = grind (arith, nat_tests)

less_asym : (a b : List ℕ) → less a b ≡ true → less b a ≡ false
unfolding less
less_asym [] [] one = refl
less_asym [] (y ∷ ys) one = refl
less_asym (x ∷ xs) [] one = absurd cc
less_asym (x ∷ xs) (y ∷ ys) one = less_back x y (less xs ys) (less ys xs) (less_asym xs ys) one

text_is : (a b : List ℕ) → is_less (slice_cmp nat_cmp a b) ≡ less a b
text_is a b = less_is a b (slice_cmp nat_cmp a b) refl

number_trans : (a b c : ℤ) → lt_z a b ≡ true → lt_z b c ≡ true → lt_z a c ≡ true
number_trans a b c one two = grind (arith, ints)

number_asym : (a b : ℤ) → lt_z a b ≡ true → lt_z b a ≡ false
number_asym a b one = grind (arith, ints)

pub below_trans : (a b c : Key) → key_below a b ≡ true → key_below b c ≡ true → key_below a c ≡ true
below_trans (a_number a) (a_number b) (a_number c) one two = number_trans a b c one two
below_trans (a_text a) (a_text b) (a_text c) one two = text_is a c ∙ less_trans a b c (sym (text_is a b) ∙ one) (sym (text_is b c) ∙ two)
below_trans (a_number a) (a_number b) _ one two = absurd cc
below_trans (a_number a) _ _ one two = absurd cc
below_trans (a_text a) (a_text b) _ one two = absurd cc
below_trans (a_text a) _ _ one two = absurd cc
below_trans no_key _ _ one two = absurd cc

pub below_asym : (a b : Key) → key_below a b ≡ true → key_below b a ≡ false
below_asym (a_number a) (a_number b) one = number_asym a b one
below_asym (a_text a) (a_text b) one = text_is b a ∙ less_asym a b (sym (text_is a b) ∙ one)
below_asym (a_number a) _ one = absurd cc
below_asym (a_text a) _ one = absurd cc
below_asym no_key _ one = absurd cc

step_total : (x y : ℕ) (p q : Bool) → (nat_lt x y || (x == y && p)) ≡ false → (nat_lt y x || (y == x && q)) ≡ false → (x ≡ y) × (p ≡ false) × (q ≡ false)
step_total x y true q one two = absurd (apart x y q one two)
  where
    apart : (x y : ℕ) (q : Bool) → (nat_lt x y || (x == y && true)) ≡ false → (nat_lt y x || (y == x && q)) ≡ false → ⊥
    apart x y true one two = grind (arith, nat_tests)
    apart x y false one two = grind (arith, nat_tests)
step_total x y false true one two = absurd (apart x y one two)
  where
    apart : (x y : ℕ) → (nat_lt x y || (x == y && false)) ≡ false → (nat_lt y x || (y == x && true)) ≡ false → ⊥
    apart x y one two = grind (arith, nat_tests)
step_total x y false false one two = (grind (arith, nat_tests), refl, refl)

less_total : (a b : List ℕ) → less a b ≡ false → less b a ≡ false → a ≡ b
unfolding less
less_total [] [] one two = refl
less_total [] (y ∷ ys) one two = absurd cc
less_total (x ∷ xs) [] one two = absurd cc
less_total (x ∷ xs) (y ∷ ys) one two =
    let parts = step_total x y (less xs ys) (less ys xs) one two in
    ap (λ (z : ℕ). z ∷ xs) parts.0 ∙ ap (λ (l : List ℕ). y ∷ l) (less_total xs ys parts.1 parts.2)

number_total : (a b : ℤ) → lt_z a b ≡ false → lt_z b a ≡ false → a ≡ b
number_total a b one two = grind (arith, ints)

-- keys that can be those of one map
abbrev pub SameKind : Key → Key → Type 0
SameKind (a_number a) (a_number b) = Unit {0}
SameKind (a_text a) (a_text b) = Unit {0}
SameKind no_key no_key = Unit {0}
SameKind _ _ = ⊥

-- one of them is below the other, or they are the same
pub below_total : (a b : Key) → SameKind a b → key_below a b ≡ false → key_below b a ≡ false → a ≡ b
below_total (a_number a) (a_number b) kind one two = ap a_number (number_total a b one two)
below_total (a_text a) (a_text b) kind one two = ap a_text (less_total a b (sym (text_is a b) ∙ one) (sym (text_is b a) ∙ two))
below_total no_key no_key kind one two = refl
below_total _ _ kind one two = absurd kind

-- ---- the place that is found

abbrev pub some : ℕ → Option ℕ
some n = Some n

some_is : (x y : ℕ) → some x ≡ some y → x ≡ y
some_is x y e = cc

pub insert_is : (pairs : List Pair) (at : ℕ) (p : Pair) → at ≤ length pairs → insert pairs at p ≡ take at pairs ++ p ∷ drop at pairs
insert_is pairs zero p within = refl
insert_is [] (suc at) p within = absurd (omega arith)
insert_is (q ∷ pairs) (suc at) p within = ap (λ (l : List Pair). q ∷ l) (insert_is pairs at p (omega arith))

-- what a place among more keys tells of the place among fewer
pub data Steps (key next : Key) : Option ℕ → ℕ → Type 0 where
  first : key_below key next ≡ true → Steps key next (Some 0) 0
  second : key_below next key ≡ true → Steps key next (Some 0) 1
  later : (at : ℕ) → Steps key next (Some (suc at)) (suc (suc at))

pub steps : (key next : Key) (o : Option ℕ) (at : ℕ) → place_before key next o ≡ Some at → Steps key next o at
steps key next None at e = absurd cc
steps key next (Some (suc n)) at e = subst (Steps key next (Some (suc n))) (some_is (suc (suc n)) at e) (later n)
steps key next (Some zero) at e = by_first (key_below key next) refl e
  where
    by_second : (b : Bool) → key_below next key ≡ b → cond b (some 1) None ≡ Some at → Steps key next (Some 0) at
    by_second true is e = subst (Steps key next (Some 0)) (some_is 1 at e) (second is)
    by_second false is e = absurd cc

    by_first : (b : Bool) → key_below key next ≡ b → cond b (some 0) (cond (key_below next key) (some 1) None) ≡ Some at → Steps key next (Some 0) at
    by_first true is e = subst (Steps key next (Some 0)) (some_is 0 at e) (first is)
    by_first false is e = by_second (key_below next key) refl e

-- a place is one of the list's, and with the entry there the keys still rise
pub record Fitting (p : Pair) (pairs : List Pair) (at : ℕ) : Type 0 where
  pub within : at ≤ length pairs
  pub rise : keys_rise (map entry_key (take at pairs ++ p ∷ drop at pairs)) ≡ true

fitting_step : (p q : Pair) (pairs : List Pair) (o : Option ℕ) (at : ℕ) → keys_rise (map entry_key (q ∷ pairs)) ≡ true
    → ((n : ℕ) → o ≡ Some n → Fitting p pairs n) → Steps (entry_key p) (entry_key q) o at → Fitting p (q ∷ pairs) at
fitting_step p q pairs o at rise deeper (first below) = record { within = omega arith; rise = and_from _ _ below rise }
fitting_step p q pairs o at rise deeper (second below) = let rest = deeper 0 refl in record { within = omega (arith, rest.within); rise = and_from _ _ below rest.rise }
fitting_step p q [] o at rise deeper (later n) = let rest = deeper (suc n) refl in absurd (omega (arith, rest.within))
fitting_step p q (r ∷ pairs) o at rise deeper (later n) =
    let rest = deeper (suc n) refl in
    record { within = omega (arith, rest.within); rise = and_from _ _ (and_parts _ _ rise).0 rest.rise }

pub place_fits : (p : Pair) (pairs : List Pair) (at : ℕ) → keys_rise (map entry_key pairs) ≡ true → place_at (entry_key p) (map entry_key pairs) ≡ Some at → Fitting p pairs at
unfolding place_at
place_fits p [] at rise e = subst (Fitting p []) (some_is 0 at e) (record { within = omega arith; rise = refl })
place_fits p (q ∷ pairs) at rise e =
    fitting_step p q pairs (place_at (entry_key p) (map entry_key pairs)) at rise (λ n is. place_fits p pairs n (and_parts _ _ rise).1 is)
    (steps (entry_key p) (entry_key q) (place_at (entry_key p) (map entry_key pairs)) at e)

-- ---- the only place

-- a key below the first of keys that rise goes before them all
first_place : (key : Key) (pairs : List Pair) → all_above key (map entry_key pairs) ≡ true → keys_rise (map entry_key pairs) ≡ true → place_at key (map entry_key pairs) ≡ Some 0
unfolding place_at
first_place key [] above rise = refl
first_place key (q ∷ pairs) above rise =
    let parts = and_parts (all_above (entry_key q) (map entry_key pairs)) _ rise in
    rw (first_place key pairs (over pairs parts.0) parts.1, above) refl
  where
    over : (pairs : List Pair) → all_above (entry_key q) (map entry_key pairs) ≡ true → all_above key (map entry_key pairs) ≡ true
    over [] h = refl
    over (r ∷ pairs) h = below_trans key (entry_key q) (entry_key r) above h

pub place_is : (p : Pair) (lower higher : List Pair) → keys_rise (map entry_key (lower ++ p ∷ higher)) ≡ true → place_at (entry_key p) (map entry_key (lower ++ higher)) ≡ Some (length lower)
unfolding place_at
place_is p [] higher rise =
    let parts = and_parts (all_above (entry_key p) (map entry_key higher)) _ rise in
    first_place (entry_key p) higher parts.0 parts.1
place_is p (l ∷ []) higher rise =
    let parts = and_parts (key_below (entry_key l) (entry_key p)) _ rise in
    let inner = and_parts (all_above (entry_key p) (map entry_key higher)) _ parts.1 in
    rw (first_place (entry_key p) higher inner.0 inner.1, below_asym (entry_key l) (entry_key p) parts.0, parts.0) refl
place_is p (l ∷ m ∷ lower) higher rise =
    let parts = and_parts (key_below (entry_key l) (entry_key m)) _ rise in
    rw (place_is p (m ∷ lower) higher parts.1) refl

-- ---- entries that are put in

pub insert_between : (lower higher : List Pair) (p : Pair) → insert (lower ++ higher) (length lower) p ≡ lower ++ p ∷ higher
insert_between [] higher p = refl
insert_between (l ∷ lower) higher p = ap (λ (ps : List Pair). l ∷ ps) (insert_between lower higher p)

pub length_between : (lower higher : List Pair) (p : Pair) → length (lower ++ p ∷ higher) ≡ suc (length (lower ++ higher))
length_between [] higher p = refl
length_between (l ∷ lower) higher p = ap suc (length_between lower higher p)

all_between : (test : Pair → Bool) (lower higher : List Pair) (p : Pair) → test p ≡ true → list_all test (lower ++ higher) ≡ true → list_all test (lower ++ p ∷ higher) ≡ true
all_between test [] higher p one all = and_from _ _ one all
all_between test (l ∷ lower) higher p one all =
    let parts = and_parts (test l) (list_all test (lower ++ higher)) all in
    and_from _ _ parts.0 (all_between test lower higher p one parts.1)

pub placed_rise : {before ps all : List Pair} → Placed before ps all → keys_rise (map entry_key before) ≡ true → keys_rise (map entry_key all) ≡ true
placed_rise (done same) rise = rw same rise
placed_rise (put lower higher is here others) rise = placed_rise others here

pub placed_length : {before ps all : List Pair} → Placed before ps all → length all ≡ length before + length ps
placed_length (done same) = rw same (omega arith)
placed_length {all = all} (put {p = p} {before = before} {ps = ps} lower higher is here others) =
    let rest = placed_length others in
    let between = length_between lower higher p in
    let whole : length before ≡ length (lower ++ higher) = ap length is in
    omega arith

pub placed_all : (test : Pair → Bool) {before ps all : List Pair} → Placed before ps all → list_all test before ≡ true → list_all test ps ≡ true → list_all test all ≡ true
placed_all test (done same) before_pass pass = rw same before_pass
placed_all test (put {p = p} {ps = ps} lower higher is here others) before_pass pass =
    let parts = and_parts (test p) (list_all test ps) pass in
    placed_all test others (all_between test lower higher p parts.0 (subst (λ (l : List Pair). list_all test l ≡ true) is before_pass)) parts.1
