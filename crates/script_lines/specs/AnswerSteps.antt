-- For the proofs: what a function that keeps something returned, and what a definition gives.
use Rattle.std.specs.Prelude.{◌≡◌, ℕ, Result, Ok, Err}
use Rattle.script_lines.specs.KeptSteps.{Kept}
use Rattle.script_lines.specs.Scripts.{Script}
use Rattle.script_lines.specs.Views.{script_of}
use Rattle.script_lines.specs.declared.script_lines.ScriptLines.{ScriptLines}
use Rattle.script_lines.specs.declared.fault.ScriptFault.{ScriptFault}
use Rattle.script_lines.specs.declared.fault.ScriptRefusal.{ScriptRefusal}
use Rattle.script_lines.specs.declared.fault.ScriptRefusal.TheVariants.{Fault, Memory}
use Rattle.script_lines.specs.declared.fault.ScriptWhy.{ScriptWhy}

-- what is kept then, or why the line is refused; nothing where memory ran out
abbrev pub KeepsAt : {V : Type 0} → ℕ → Result V ScriptRefusal → Kept → Result Kept ScriptWhy → Type 0
KeepsAt at (Ok done) new kept = kept ≡ Ok new
KeepsAt at (Err (Fault fault)) new kept = (kept ≡ Err fault.why) × (fault.at ≡ at)
KeepsAt at (Err Memory) new kept = Unit {0}

-- the script of a draft, or what is missing
abbrev pub Finishes : Result ScriptLines ScriptFault → Result Script ScriptFault → Type 0
Finishes (Ok script) given = given ≡ Ok (script_of script)
Finishes (Err fault) given = given ≡ Err fault

-- what is kept of all lines, unless memory ran out
abbrev pub KeepsAll : Result Kept ScriptRefusal → Result Kept ScriptFault → Type 0
KeepsAll (Ok draft) kept = kept ≡ Ok draft
KeepsAll (Err (Fault fault)) kept = kept ≡ Err fault
KeepsAll (Err Memory) kept = Unit {0}

-- the outcome of a whole text, unless memory ran out
abbrev pub GivesOutcome : Result ScriptLines ScriptRefusal → Result Script ScriptFault → Type 0
GivesOutcome (Ok script) outcome = outcome ≡ Ok (script_of script)
GivesOutcome (Err (Fault fault)) outcome = outcome ≡ Err fault
GivesOutcome (Err Memory) outcome = Unit {0}
