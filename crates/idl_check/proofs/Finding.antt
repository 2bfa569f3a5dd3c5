-- Where each part keeps a rule, the rule finds nothing.
use Rattle.std.proofs.Common.{◌≡◌, ℕ, Bool, true, false, not, ◌||◌, List, [], ◌∷◌, ◌++◌, map, refl, ap, ◌∙◌}
use Rattle.std.proofs.lemmas.List.Elements.{recursion_from_All}
use Rattle.std.specs.List.{AllByRecursion, flat_map, list_any}
use Rattle.least_fault.specs.Conditions.{Condition, found_after}
use Rattle.tars_model.specs.Names.{AllDiffer}
use Rattle.idl_scene.specs.Faults.{fault_if}
use Rattle.idl_scene.specs.declared.check_fault.CheckWhy.{CheckWhy}
use Rattle.idl_scene.specs.declared.check_fault.Fault.{Fault}
use Rattle.idl_schema.proofs.Parts.{each_append, each_weaker, Apart, AfterAll, Others}

pub never : {A : Type 0} → false ≡ true → A
never e = absurd cc

pub both_nothing : {A : Type 0} (xs ys : List A) → xs ≡ [] → ys ≡ [] → xs ++ ys ≡ []
both_nothing xs ys none_first none_then = ap (λ l. l ++ ys) none_first ∙ none_then

pub no_fault_if : (b : Bool) (file at : ℕ) (why : CheckWhy) → b ≡ false → fault_if b file at why ≡ []
no_fault_if b file at why e = ap (λ b. fault_if b file at why) e

pub no_fault_unless : (b : Bool) (file at : ℕ) (why : CheckWhy) → b ≡ true → fault_if (not b) file at why ≡ []
no_fault_unless b file at why e = ap (λ b. fault_if (not b) file at why) e

-- a rule that looks at each part alone
pub alone_finds : {Part : Type 0} (found : Part → List Fault) (before parts : List Part) → AllByRecursion (λ part. found part ≡ []) parts → found_after (λ (before : List Part) part. found part) before parts ≡ []
alone_finds found before [] each = refl
alone_finds found before (part ∷ parts) each =
    both_nothing (found part) (found_after (λ (before : List _) part. found part) (before ++ part ∷ []) parts) each.0 (alone_finds found (before ++ part ∷ []) parts each.1)

pub each_flat : {X Y : Type 0} (P : Y → Type 0) (f : X → List Y) (xs : List X) → AllByRecursion (λ x. AllByRecursion P (f x)) xs → AllByRecursion P (flat_map f xs)
each_flat P f [] each = tt
each_flat P f (x ∷ xs) each = each_append P (f x) (flat_map f xs) each.0 (each_flat P f xs each.1)

pub none_of : {X : Type 0} (test : X → Bool) (xs : List X) → AllByRecursion (λ x. test x ≡ false) xs → list_any test xs ≡ false
none_of test [] each = refl
none_of test (x ∷ xs) each = neither (test x) (list_any test xs) each.0 (none_of test xs each.1)
  where
    neither : (a b : Bool) → a ≡ false → b ≡ false → (a || b) ≡ false
    neither a b x y = ap (λ a. a || b) x ∙ y

-- ---- parts that are judged with those before them

after_finds : {X : Type 0} (condition : Condition X Fault) (R : X → X → Type 0) → ((before : List X) (x : X) → AllByRecursion (λ e. R e x) before → condition before x ≡ [])
    → (before xs : List X) → AfterAll R before xs → found_after condition before xs ≡ []
after_finds condition R says before [] after = refl
after_finds condition R says before (x ∷ xs) after =
    both_nothing (condition before x) (found_after condition (before ++ x ∷ []) xs) (says before x after.0) (after_finds condition R says (before ++ x ∷ []) xs after.1)

after_from_apart : {X : Type 0} (R : X → X → Type 0) (before xs : List X) → AllByRecursion (λ e. AllByRecursion (R e) xs) before → Apart R xs → AfterAll R before xs
after_from_apart R before [] across apart = tt
after_from_apart R before (x ∷ xs) across apart = (
  each_weaker (λ e. AllByRecursion (R e) (x ∷ xs)) (λ e. R e x) (λ e all. all.0) before across,
  after_from_apart R (before ++ x ∷ []) xs
      (each_append (λ e. AllByRecursion (R e) xs) before (x ∷ []) (each_weaker (λ e. AllByRecursion (R e) (x ∷ xs)) (λ e. AllByRecursion (R e) xs) (λ e all. all.1) before across) (apart.0, tt)) apart.1,
)

pub apart_finds : {X : Type 0} (condition : Condition X Fault) (R : X → X → Type 0) → ((before : List X) (x : X) → AllByRecursion (λ e. R e x) before → condition before x ≡ [])
    → (xs : List X) → Apart R xs → found_after condition [] xs ≡ []
apart_finds condition R says xs apart = after_finds condition R says [] xs (after_from_apart R [] xs tt apart)

-- names
pub names_apart : (names : List (List ℕ)) → AllDiffer names → Apart Others names
names_apart [] differ = tt
names_apart (name ∷ names) differ = (recursion_from_All (λ other. Others name other) names differ.0, names_apart names differ.1)

pub map_twice : {A B C : Type 0} (f : B → C) (g : A → B) (xs : List A) → map f (map g xs) ≡ map (λ x. f (g x)) xs
map_twice f g [] = refl
map_twice f g (x ∷ xs) = ap (λ l. f (g x) ∷ l) (map_twice f g xs)
