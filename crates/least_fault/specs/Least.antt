-- The least of a list.
use Rattle.std.specs.Prelude.{◌≡◌, Bool, true, false, if◌then◌else◌, Option, Some, None, List, [], ◌∷◌, ◌++◌}

-- a test for "below" that orders all values
pub record IsOrder {X : Type 0} (below : X → X → Bool) : Type 0 where
  pub apart : (x y : X) → below x y ≡ false → below y x ≡ false → x ≡ y
  pub one_way : (x y : X) → below x y ≡ true → below y x ≡ false
  pub onward : (x y z : X) → below x y ≡ true → below y z ≡ true → below x z ≡ true

-- nothing in the list is below the value
abbrev pub NoneBelow : {X : Type 0} → (X → X → Bool) → List X → X → Type 0
NoneBelow below [] least = Unit {0}
NoneBelow below (x ∷ xs) least = (below x least ≡ false) × NoneBelow below xs least

-- the value stands in the list, and nothing there is below it
pub record IsLeast {X : Type 0} (below : X → X → Bool) (xs : List X) (least : X) : Type 0 where
  pub earlier : List X
  pub later : List X
  pub stands : xs ≡ earlier ++ least ∷ later
  pub none_below : NoneBelow below xs least

-- the lesser of two, where there are two
abbrev pub lesser : {X : Type 0} → (X → X → Bool) → Option X → Option X → Option X
lesser below None y = y
lesser below (Some x) None = Some x
lesser below (Some x) (Some y) = if below y x then Some y else Some x

abbrev pub least_of : {X : Type 0} → (X → X → Bool) → List X → Option X
least_of below [] = None
least_of below (x ∷ xs) = lesser below (Some x) (least_of below xs)

-- What a running least becomes when these are found.
pub record Notes {X : Type 0} (below : X → X → Bool) (old new : Option X) (found : List X) : Type 0 where
  pub kept : new ≡ lesser below old (least_of below found)
