-- What holds of each part of a list, and of each with those before it.
use Rattle.std.proofs.Common.{◌≡◌, ◌≢◌, ℕ, List, [], ◌∷◌, ◌++◌, map}
use Rattle.std.proofs.lemmas.List.Elements.{All-from_recursion}
use Rattle.std.specs.List.{AllByRecursion, flat_map}
use Rattle.least_fault.specs.Conditions.{Condition, found_after}
use Rattle.least_fault.proofs.Walks.{nothing_in}
use Rattle.tars_model.specs.Names.{AllDiffer}
use Rattle.idl_scene.specs.declared.check_fault.Fault.{Fault}

pub each_weaker : {X : Type 0} (P Q : X → Type 0) → ((x : X) → P x → Q x) → (xs : List X) → AllByRecursion P xs → AllByRecursion Q xs
each_weaker P Q weaker [] each = tt
each_weaker P Q weaker (x ∷ xs) each = (weaker x each.0, each_weaker P Q weaker xs each.1)

pub each_both : {X : Type 0} (P Q R : X → Type 0) → ((x : X) → P x → Q x → R x) → (xs : List X) → AllByRecursion P xs → AllByRecursion Q xs → AllByRecursion R xs
each_both P Q R both [] p q = tt
each_both P Q R both (x ∷ xs) p q = (both x p.0 q.0, each_both P Q R both xs p.1 q.1)

pub each_parts : {X : Type 0} (P : X → Type 0) (xs ys : List X) → AllByRecursion P (xs ++ ys) → AllByRecursion P xs × AllByRecursion P ys
each_parts P [] ys each = (tt, each)
each_parts P (x ∷ xs) ys each = let parts = each_parts P xs ys each.1 in ((each.0, parts.0), parts.1)

pub each_append : {X : Type 0} (P : X → Type 0) (xs ys : List X) → AllByRecursion P xs → AllByRecursion P ys → AllByRecursion P (xs ++ ys)
each_append P [] ys a b = b
each_append P (x ∷ xs) ys a b = (a.0, each_append P xs ys a.1 b)

pub each_mapped : {X Y : Type 0} (P : Y → Type 0) (f : X → Y) (xs : List X) → AllByRecursion (λ x. P (f x)) xs → AllByRecursion P (map f xs)
each_mapped P f [] each = tt
each_mapped P f (x ∷ xs) each = (each.0, each_mapped P f xs each.1)

pub each_of_map : {X Y : Type 0} (P : Y → Type 0) (f : X → Y) (xs : List X) → AllByRecursion P (map f xs) → AllByRecursion (λ x. P (f x)) xs
each_of_map P f [] each = tt
each_of_map P f (x ∷ xs) each = (each.0, each_of_map P f xs each.1)

pub each_of_flat : {X Y : Type 0} (P : Y → Type 0) (f : X → List Y) (xs : List X) → AllByRecursion P (flat_map f xs) → AllByRecursion (λ x. AllByRecursion P (f x)) xs
each_of_flat P f [] each = tt
each_of_flat P f (x ∷ xs) each = let parts = each_parts P (f x) (flat_map f xs) each in (parts.0, each_of_flat P f xs parts.1)

-- each with every later one
abbrev pub Apart : {X : Type 0} → (X → X → Type 0) → List X → Type 0
Apart R [] = Unit {0}
Apart R (x ∷ xs) = AllByRecursion (R x) xs × Apart R xs

-- each with every earlier one
abbrev pub AfterAll : {X : Type 0} → (X → X → Type 0) → List X → List X → Type 0
AfterAll R before [] = Unit {0}
AfterAll R before (x ∷ xs) = AllByRecursion (λ e. R e x) before × AfterAll R (before ++ x ∷ []) xs

pub apart_from_after : {X : Type 0} (R : X → X → Type 0) (before xs : List X) → AfterAll R before xs → AllByRecursion (λ e. AllByRecursion (R e) xs) before × Apart R xs
apart_from_after R before [] after = (all_nothing before, tt)
  where
    all_nothing : (before : List _) → AllByRecursion (λ e. AllByRecursion (R e) []) before
    all_nothing [] = tt
    all_nothing (e ∷ before) = (tt, all_nothing before)
apart_from_after R before (x ∷ xs) after =
    let rest = apart_from_after R (before ++ x ∷ []) xs after.1 in
    let parts = each_parts (λ e. AllByRecursion (R e) xs) before (x ∷ []) rest.0 in
    (each_both (λ e. R e x) (λ e. AllByRecursion (R e) xs) (λ e. AllByRecursion (R e) (x ∷ xs)) (λ e a b. (a, b)) before after.0 parts.0, (parts.1.0, rest.1))

-- what a condition that finds nothing says of each with those before it
pub after_nothing : {X : Type 0} (condition : Condition X Fault) (R : X → X → Type 0)
    → ((before : List X) (x : X) → condition before x ≡ [] → AllByRecursion (λ e. R e x) before)
    → (before xs : List X) → found_after condition before xs ≡ [] → AfterAll R before xs
after_nothing condition R says before [] e = tt
after_nothing condition R says before (x ∷ xs) e =
    let two = nothing_in (condition before x) (found_after condition (before ++ x ∷ []) xs) e in
    (says before x two.0, after_nothing condition R says (before ++ x ∷ []) xs two.1)

pub apart_nothing : {X : Type 0} (condition : Condition X Fault) (R : X → X → Type 0)
    → ((before : List X) (x : X) → condition before x ≡ [] → AllByRecursion (λ e. R e x) before)
    → (xs : List X) → found_after condition [] xs ≡ [] → Apart R xs
apart_nothing condition R says xs e = (apart_from_after R [] xs (after_nothing condition R says [] xs e)).1

pub apart_of_map : {X Y : Type 0} (R : Y → Y → Type 0) (f : X → Y) (xs : List X) → Apart R (map f xs) → Apart (λ a b. R (f a) (f b)) xs
apart_of_map R f [] apart = tt
apart_of_map R f (x ∷ xs) apart = (each_of_map (R (f x)) f xs apart.0, apart_of_map R f xs apart.1)

pub apart_mapped : {X Y : Type 0} (R : Y → Y → Type 0) (f : X → Y) (xs : List X) → Apart (λ a b. R (f a) (f b)) xs → Apart R (map f xs)
apart_mapped R f [] apart = tt
apart_mapped R f (x ∷ xs) apart = (each_mapped (R (f x)) f xs apart.0, apart_mapped R f xs apart.1)

-- names
abbrev pub Others : List ℕ → List ℕ → Type 0
Others a b = b ≢ a

pub all_differ : (names : List (List ℕ)) → Apart Others names → AllDiffer names
all_differ [] apart = tt
all_differ (name ∷ names) apart = (All-from_recursion (λ other. other ≢ name) names apart.0, all_differ names apart.1)
