-- What stands at the places of lists, and what holds after all items of one.
use Rattle.std.proofs.Common.{◌≡◌, ◌⊎◌, inl, inr, ℕ, zero, suc, pred, Bool, true, false, cond, ◌||◌, List, [], ◌∷◌, ◌++◌, length, Option, Some, None, refl, sym, ap, map, ◌<◌, ◌+◌, ◌≤◌, arith, take, ◌∙◌}
use Rattle.std.proofs.lemmas.List.Sums.{sum_by-append}
use Rattle.std.proofs.lemmas.Grind.{flat_map-append}
use Rattle.std.proofs.lemmas.List.{append-nil}
use Rattle.std.specs.Prelude.{slice_get, fold, filter_map, flat_map, zip, count_by}
use Rattle.std.specs.List.{list_any, AllByRecursion}

pub some_same : {X : Type 0} (x y : X) → (let a : Option X = Some x in a) ≡ Some y → x ≡ y
some_same x y e = ap (λ o. elim o [ Some z ↦ z | None ↦ x ]) e

pub none_some : {X : Type 0} (x : X) → (let a : Option X = None in a) ≡ Some x → ⊥
none_some x e = cc e

-- a property that each item keeps holds after all
pub fold_keeps : {A B : Type 0} (P : A → Type 0) (f : A → B → A) → ((a : A) (b : B) → P a → P (f a b)) → (bs : List B) (a : A) → P a → P (fold f a bs)
fold_keeps P f keeps [] a p = p
fold_keeps P f keeps (b ∷ bs) a p = fold_keeps P f keeps bs (f a b) (keeps a b p)

pub get_append : {X : Type 0} (xs ys : List X) (k : ℕ) (x : X) → slice_get xs k ≡ Some x → slice_get (xs ++ ys) k ≡ Some x
get_append [] ys k x e = absurd (none_some x e)
get_append (y ∷ xs) ys zero x e = e
get_append (y ∷ xs) ys (suc k) x e = get_append xs ys k x e

pub get_last : {X : Type 0} (xs : List X) (x : X) → slice_get (xs ++ x ∷ []) (length xs) ≡ Some x
get_last [] x = refl
get_last (y ∷ xs) x = get_last xs x

pub get_snoc : {X : Type 0} (xs : List X) (x y : X) (k : ℕ) → slice_get (xs ++ x ∷ []) k ≡ Some y → (slice_get xs k ≡ Some y) ⊎ ((k ≡ length xs) × (x ≡ y))
get_snoc [] x y zero e = inr (refl, some_same x y e)
get_snoc [] x y (suc k) e = absurd (none_some y e)
get_snoc (z ∷ xs) x y zero e = inl e
get_snoc (z ∷ xs) x y (suc k) e = go (get_snoc xs x y k e)
  where
    go : (slice_get xs k ≡ Some y) ⊎ ((k ≡ length xs) × (x ≡ y)) → (slice_get xs k ≡ Some y) ⊎ ((suc k ≡ suc (length xs)) × (x ≡ y))
    go (inl before) = inl before
    go (inr last) = inr (ap suc last.0, last.1)

pub get_map : {X Y : Type 0} (f : X → Y) (xs : List X) (k : ℕ) (x : X) → slice_get xs k ≡ Some x → slice_get (map f xs) k ≡ Some (f x)
get_map f [] k x e = absurd (none_some x e)
get_map f (y ∷ xs) zero x e = ap (λ z. Some (f z)) (some_same y x e)
get_map f (y ∷ xs) (suc k) x e = get_map f xs k x e

pub get_unmap : {X Y : Type 0} (f : X → Y) (xs : List X) (k : ℕ) (y : Y) → slice_get (map f xs) k ≡ Some y → (x : X) × (slice_get xs k ≡ Some x) × (y ≡ f x)
get_unmap f [] k y e = absurd (none_some y e)
get_unmap f (x ∷ xs) zero y e = (x, refl, sym (some_same (f x) y e))
get_unmap f (x ∷ xs) (suc k) y e = get_unmap f xs k y e

-- an equation of what is given of an option, from one of the option
pub filter_map_same : {X Y Z : Type 0} (h : Y → Option Z) (f : X → Y) (g : X → Option Z) → ((x : X) → h (f x) ≡ g x) → (xs : List X) → filter_map h (map f xs) ≡ filter_map g xs
filter_map_same h f g same [] = refl
filter_map_same h f g same (x ∷ xs) = rw (same x, filter_map_same h f g same xs) refl

pub map_same : {X Y Z : Type 0} (h : Y → Z) (f : X → Y) (g : X → Z) → ((x : X) → h (f x) ≡ g x) → (xs : List X) → map h (map f xs) ≡ map g xs
map_same h f g same [] = refl
map_same h f g same (x ∷ xs) = rw (same x, map_same h f g same xs) refl

pub same_or_other : (j k : ℕ) → (j ≡ k) ⊎ (j ≡ k → ⊥)
same_or_other zero zero = inl refl
same_or_other zero (suc k) = inr (λ e. cc e)
same_or_other (suc j) zero = inr (λ e. cc e)
same_or_other (suc j) (suc k) = go (same_or_other j k)
  where
    go : (j ≡ k) ⊎ (j ≡ k → ⊥) → (suc j ≡ suc k) ⊎ (suc j ≡ suc k → ⊥)
    go (inl same) = inl (ap suc same)
    go (inr other) = inr (λ e. other (ap pred e))

-- something of a choice
pub of_cond : {X : Type 0} (b : Bool) (P : X → Type 0) (x y : X) → (b ≡ true → P x) → (b ≡ false → P y) → P (cond b x y)
of_cond true P x y yes_case no_case = yes_case refl
of_cond false P x y yes_case no_case = no_case refl

-- an item that passes stands somewhere
pub any_at : {X : Type 0} (p : X → Bool) (xs : List X) → list_any p xs ≡ true → (k : ℕ) × (x : X) × (slice_get xs k ≡ Some x) × (p x ≡ true)
any_at p [] e = absurd (cc e)
any_at p (x ∷ xs) e = go (p x) refl e (λ any. any_at p xs any)
  where
    go : (b : Bool) → p x ≡ b → (b || list_any p xs) ≡ true → (list_any p xs ≡ true → (k : ℕ) × (y : _) × (slice_get xs k ≡ Some y) × (p y ≡ true))
        → (k : ℕ) × (y : _) × (slice_get (x ∷ xs) k ≡ Some y) × (p y ≡ true)
    go true first any later = (0, x, refl, first)
    go false first any later = let found = later any in (suc found.0, found.1, found.2, found.3)

pub join_more : {X : Type 0} (xs : List X) (x : X) (ys : List X) → (xs ++ x ∷ []) ++ ys ≡ xs ++ x ∷ ys
join_more [] x ys = refl
join_more (y ∷ xs) x ys = ap (λ zs. y ∷ zs) (join_more xs x ys)

pub all_more : {X : Type 0} (P : X → Type 0) (xs : List X) (x : X) → AllByRecursion P xs → P x → AllByRecursion P (xs ++ x ∷ [])
all_more P [] x all last = (last, record {})
all_more P (y ∷ xs) x all last = (all.0, all_more P xs x all.1 last)

pub all_map : {X Y : Type 0} (P : X → Type 0) (Q : Y → Type 0) (f : X → Y) (xs : List X) → ((x : X) → P x → Q (f x)) → AllByRecursion P xs → AllByRecursion Q (map f xs)
all_map P Q f [] goes all = record {}
all_map P Q f (x ∷ xs) goes all = (goes x all.0, all_map P Q f xs goes all.1)

pub flat_map_last : {X Y : Type 0} (f : X → List Y) (xs : List X) (x : X) → flat_map f (xs ++ x ∷ []) ≡ flat_map f xs ++ f x
flat_map_last f xs x = flat_map-append f xs (x ∷ []) ∙ ap (λ ys. flat_map f xs ++ ys) (append-nil (f x))

-- items beside others, where more are added to either
zip_none : {X Y : Type 0} (xs : List X) → zip xs (let none : List Y = [] in none) ≡ []
zip_none [] = refl
zip_none (x ∷ xs) = refl

pub zip_longer : {X Y : Type 0} (xs more : List X) (ys : List Y) → length ys ≤ length xs → zip (xs ++ more) ys ≡ zip xs ys
zip_longer xs more [] within = zip_none (xs ++ more) ∙ sym (zip_none xs)
zip_longer [] more (y ∷ ys) within = absurd (omega (arith, within))
zip_longer (x ∷ xs) more (y ∷ ys) within = ap (λ pairs. (x, y) ∷ pairs) (zip_longer xs more ys (omega (arith, within)))

pub zip_last : {X Y : Type 0} (xs : List X) (ys : List Y) (x : X) (y : Y) → slice_get xs (length ys) ≡ Some x → zip xs (ys ++ y ∷ []) ≡ zip xs ys ++ (x, y) ∷ []
zip_last [] ys x y e = absurd (none_some x e)
zip_last (z ∷ xs) [] x y e = ap (λ w. (w, y) ∷ zip xs []) (some_same z x e) ∙ ap (λ pairs. (x, y) ∷ pairs) (zip_none xs)
zip_last (z ∷ xs) (w ∷ ys) x y e = ap (λ pairs. (z, w) ∷ pairs) (zip_last xs ys x y e)

-- counting by one test or another
pub count_cons : {X : Type 0} (p : X → Bool) (x : X) (xs : List X) → count_by p (x ∷ xs) ≡ cond (p x) 1 0 + count_by p xs
count_cons p x xs = sum_by-append (λ y. cond (p y) 1 0) (x ∷ []) xs ∙ ap (λ n. n + count_by p xs) (from_zero (cond (p x) 1 0))
  where
    from_zero : (n : ℕ) → 0 + n ≡ n
    from_zero n = omega arith

counts_one : {X : Type 0} (p : X → Bool) (x : X) (xs : List X) → p x ≡ true → count_by p (x ∷ xs) ≡ suc (count_by p xs)
counts_one p x xs e = count_cons p x xs ∙ (ap (λ b. cond b 1 0 + count_by p xs) e ∙ one_more (count_by p xs))
  where
    one_more : (n : ℕ) → 1 + n ≡ suc n
    one_more n = omega arith

count_step : {X Y : Type 0} (p : X → Bool) (q : Y → Bool) (x : X) (y : Y) (xs : List X) (ys : List Y) → p x ≡ q y → count_by p xs ≡ count_by q ys → count_by p (x ∷ xs) ≡ count_by q (y ∷ ys)
count_step p q x y xs ys e f =
    count_cons p x xs ∙ (ap (λ b. cond b 1 0 + count_by p xs) e ∙ (ap (λ n. cond (q y) 1 0 + n) f ∙ sym (count_cons q y ys)))

pub count_same : {X : Type 0} (p q : X → Bool) (xs : List X) → AllByRecursion (λ x. p x ≡ q x) xs → count_by p xs ≡ count_by q xs
count_same p q [] all = refl
count_same p q (x ∷ xs) all = count_step p q x x xs xs all.0 (count_same p q xs all.1)

pub count_map : {X Y : Type 0} (p : Y → Bool) (q : X → Bool) (f : X → Y) → ((x : X) → p (f x) ≡ q x) → (xs : List X) → count_by p (map f xs) ≡ count_by q xs
count_map p q f same [] = refl
count_map p q f same (x ∷ xs) = count_step p q (f x) x (map f xs) xs (same x) (count_map p q f same xs)

pub count_rises : {X : Type 0} (p : X → Bool) (xs : List X) (j k : ℕ) (x : X) → slice_get xs j ≡ Some x → p x ≡ true → j < k → count_by p (take j xs) < count_by p (take k xs)
count_rises p [] j k x e passes below = absurd (none_some x e)
count_rises p (y ∷ xs) zero zero x e passes below = absurd (omega arith)
count_rises p (y ∷ xs) zero (suc k) x e passes below =
    let after = counts_one p y (take k xs) (ap p (some_same y x e) ∙ passes) in omega (arith, after)
count_rises p (y ∷ xs) (suc j) zero x e passes below = absurd (omega arith)
count_rises p (y ∷ xs) (suc j) (suc k) x e passes below =
    let before = count_cons p y (take j xs) in
    let after = count_cons p y (take k xs) in
    let rises = count_rises p xs j k x e passes (omega arith) in
    omega (arith, before, after, rises)
