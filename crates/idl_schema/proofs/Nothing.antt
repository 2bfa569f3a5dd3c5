-- Where a rule finds nothing, what it tests holds.
use Rattle.std.proofs.Common.{◌≡◌, ℕ, Bool, true, false, not, List, [], ◌∷◌, ◌++◌, refl}
use Rattle.std.specs.List.{AllByRecursion}
use Rattle.least_fault.specs.Conditions.{found_after}
use Rattle.least_fault.proofs.Walks.{nothing_in}
use Rattle.idl_scene.specs.Faults.{fault_if}
use Rattle.idl_scene.specs.declared.check_fault.CheckWhy.{CheckWhy}
use Rattle.idl_scene.specs.declared.check_fault.Fault.{Fault}

pub passed : (b : Bool) (file at : ℕ) (why : CheckWhy) → fault_if b file at why ≡ [] → b ≡ false
passed true file at why e = cc
passed false file at why e = refl

pub not_not : (b : Bool) → not b ≡ false → b ≡ true
not_not true e = refl
not_not false e = cc

pub holds : (b : Bool) (file at : ℕ) (why : CheckWhy) → fault_if (not b) file at why ≡ [] → b ≡ true
holds b file at why e = not_not b (passed (not b) file at why e)

-- a rule that looks at each part alone
pub alone_nothing : {Part : Type 0} (found : Part → List Fault) (before parts : List Part) → found_after (λ (before : List Part) part. found part) before parts ≡ [] → AllByRecursion (λ part. found part ≡ []) parts
alone_nothing found before [] e = tt
alone_nothing found before (part ∷ parts) e =
    let two = nothing_in (found part) (found_after (λ (before : _) part. found part) (before ++ part ∷ []) parts) e in
    (two.0, alone_nothing found (before ++ part ∷ []) parts two.1)
