-- What an open file has left to read, against what the files hold.
use Rattle.std.specs.Prelude.{◌≡◌, ℕ, List, Option, Some, None, MatchOption}
use Rattle.tars_base.specs.Contents.{Contents}

-- where contents are told, there is a file of this name, and all of it is left
abbrev pub IsSourceOf : Option Contents → List ℕ → Option (List ℕ) → Type 0
IsSourceOf None name left = Unit {0}
IsSourceOf (Some files) name left = MatchOption (files name) ⊥ (λ file. left ≡ Some file)
