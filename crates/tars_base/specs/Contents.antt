-- What the outside tells of its bytes: None says nothing.
use Rattle.std.specs.Prelude.{◌≡◌, ℕ, List, ◌++◌, take, Option, Some, None, MatchOption}
pub use Rattle.std.specs.Io.KnownBytes.{Appends, Keeps, WriteAppends}

-- the bytes of each named file, or None where there is no such file
abbrev pub Contents : Type 0
Contents = List ℕ → Option (List ℕ)

-- where contents are told, there is a file of this name, and the bytes are its first ones, at most so many
abbrev pub IsPrefixOfFile : Option Contents → List ℕ → ℕ → List ℕ → Type 0
IsPrefixOfFile None name most bytes = Unit {0}
IsPrefixOfFile (Some files) name most bytes = MatchOption (files name) ⊥ (λ file. bytes ≡ take most file)

-- where contents are told, these are they
abbrev pub AreTold : Option Contents → Contents → Type 0
AreTold None contents = Unit {0}
AreTold (Some told) contents = (name : List ℕ) → contents name ≡ told name

-- what the files hold at each step of a command; they may change in between
abbrev pub Held : Type 0
Held = ℕ → Contents

-- where contents are told, they are held at each step
abbrev pub IsHeld : Option Contents → Held → Type 0
IsHeld told held = (step : ℕ) → AreTold told (held step)

-- this holds, and of nothing else
pub record HoldsOnly {A : Type 0} (P : A → Type 0) (x : A) : Type 0 where
  pub holds : P x
  pub only : (other : A) → P other → other ≡ x

-- the same where contents are told
abbrev pub IsToldOnly : {A : Type 0} → Option Contents → (Contents → A → Type 0) → A → Type 0
IsToldOnly None P x = Unit {0}
IsToldOnly (Some contents) P x = HoldsOnly (P contents) x

-- what was written grew by a prefix of the text
abbrev pub AppendsPrefix : Option (List ℕ) → Option (List ℕ) → List ℕ → Type 0
AppendsPrefix old new text =
    (prefix : List ℕ) × (rest : List ℕ) × (prefix ++ rest ≡ text) × Appends old new prefix
