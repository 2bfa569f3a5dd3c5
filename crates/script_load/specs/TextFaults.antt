-- Where and by which number a script is refused (docs/SCRIPTS.md, "Faults of scripts").
use Rattle.std.specs.Prelude.{ℕ}
use Rattle.schema_files.specs.Refusals.{fault_at}
use Rattle.schema_files.specs.declared.stage.Stage.TheVariants.{Script}
use Rattle.schema_files.specs.declared.text_fault.TextFault.{TextFault}
use Rattle.script_lines.specs.FaultNumbers.{number_of}
use Rattle.script_lines.specs.declared.fault.ScriptFault.{ScriptFault}
use Rattle.script_load.specs.declared.faults.LineFault.{LineFault}
use Rattle.script_load.specs.declared.faults.LineWhy.{LineWhy}
use Rattle.script_load.specs.declared.faults.LineWhy.TheVariants.{UnknownName, BadValue}

-- the fault of a text that is no script
abbrev pub form_fault : ScriptFault → TextFault
form_fault fault = fault_at Script (number_of fault.why) fault.at

abbrev pub line_number : LineWhy → ℕ
line_number UnknownName = 6
line_number BadValue = 7

-- that of a line over the interfaces
abbrev pub line_fault : LineFault → TextFault
line_fault fault = fault_at Script (line_number fault.why) fault.at
