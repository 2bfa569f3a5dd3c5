-- For the proofs: what the functions that load files give beside what loading gives (specs/Loading.antt).
use Rattle.std.specs.Prelude.{◌≡◌, ℕ, Option, Some, None, List, Result, Ok, Err}
use Rattle.schema_files.specs.LoadAnswers.{IsRefusedBy}
use Rattle.schema_files.specs.Refusals.{refusal_line}
use Rattle.schema_files.specs.SchemaLoading.{LoadsSchema}
use Rattle.schema_files.specs.SchemaLoading as schema
use Rattle.schema_files.specs.declared.load_fault.LoadFault.{LoadFault}
use Rattle.schema_files.specs.declared.load_fault.LoadFault.TheVariants as load
use Rattle.script_lines.specs.Scripts.{Script}
use Rattle.script_lines.specs.declared.fault.ScriptRefusal.{ScriptRefusal}
use Rattle.script_lines.specs.declared.fault.ScriptRefusal.TheVariants as form
use Rattle.tars_base.specs.Contents.{Contents, HoldsOnly}
use Rattle.tars_model.specs.Declarations.{Declared}
use Rattle.script_load.specs.SidesLoading.{SidesAnswer, LoadsSides, sides, refused}
use Rattle.script_load.specs.TextFaults.{form_fault, line_fault}
use Rattle.script_load.specs.declared.faults.LineRefusal.{LineRefusal}
use Rattle.script_load.specs.declared.faults.LineRefusal.TheVariants as line
use Rattle.script_load.specs.declared.sides.Sides.{Sides}

-- ---- refusals

-- what a text that is no script is to one who loads it
abbrev pub IsNoScript : List ℕ → ScriptRefusal → LoadFault → Type 0
IsNoScript name (form.Fault fault) answer = IsRefusedBy (refusal_line name (form_fault fault)) answer
IsNoScript name form.Memory answer = answer ≡ load.Memory

-- what a line's fault is to one who loads the script
abbrev pub IsNotJudged : List ℕ → LineRefusal → LoadFault → Type 0
IsNotJudged name (line.Fault fault) answer = IsRefusedBy (refusal_line name (line_fault fault)) answer
IsNotJudged name line.Memory answer = answer ≡ load.Memory

-- ---- interface files

-- a schema or a refusal is what loading the server's file gives, where one is named, and nothing else is
abbrev pub IsServerAnswered : Contents → Declared → Option (List ℕ) → Result Declared LoadFault → Type 0
IsServerAnswered later client None (Ok d) = d ≡ client
IsServerAnswered later client None (Err load.Memory) = Unit {0}
IsServerAnswered later client None (Err _) = ⊥
IsServerAnswered later client (Some file) (Ok d) = HoldsOnly (LoadsSchema later file) (schema.declared d)
IsServerAnswered later client (Some file) (Err (load.Refused line)) = HoldsOnly (LoadsSchema later file) (schema.refused line)
IsServerAnswered later client (Some file) (Err _) = Unit {0}

-- schemas or a refusal are what loading the interface files gives, and nothing else is
abbrev pub AreSidesAnswered : Contents → Contents → Script → Result Sides LoadFault → Type 0
AreSidesAnswered first later s (Ok both) = HoldsOnly (LoadsSides first later s) (sides both.client both.server)
AreSidesAnswered first later s (Err (load.Refused line)) = HoldsOnly (LoadsSides first later s) (refused line)
AreSidesAnswered first later s (Err load.Read) = Unit {0}
AreSidesAnswered first later s (Err load.Memory) = Unit {0}
