-- What `read_script` answers of a text.
use Rattle.std.specs.Prelude.{◌≡◌, ℕ, List, Result, Ok, Err}
use Rattle.script_lines.specs.Scripts.{Script, IsScriptFault}
use Rattle.script_lines.specs.Views.{script_of}
use Rattle.script_lines.specs.declared.script_lines.ScriptLines.{ScriptLines}
use Rattle.script_lines.specs.declared.fault.ScriptFault.{ScriptFault}
use Rattle.script_lines.specs.declared.fault.ScriptRefusal.{ScriptRefusal}
use Rattle.script_lines.specs.declared.fault.ScriptRefusal.TheVariants.{Fault, Memory}

-- this script, unless memory ran out
abbrev pub GivesScript : Result ScriptLines ScriptRefusal → Script → Type 0
GivesScript (Ok given) script = script_of given ≡ script
GivesScript (Err (Fault given)) script = ⊥
GivesScript (Err Memory) script = Unit {0}

-- this fault, unless memory ran out
abbrev pub GivesFault : Result ScriptLines ScriptRefusal → ScriptFault → Type 0
GivesFault (Ok given) fault = ⊥
GivesFault (Err (Fault given)) fault = given ≡ fault
GivesFault (Err Memory) fault = Unit {0}

-- the text's fault, or that memory ran out
abbrev pub IsRefusalOf : List ℕ → ScriptRefusal → Type 0
IsRefusalOf text (Fault fault) = IsScriptFault text fault
IsRefusalOf text Memory = Unit {0}
