-- The numbers of faults (docs/SCRIPTS.md, "Faults of general scripts").
use Rattle.std.specs.Prelude.{ℕ}
use Rattle.script_lines.specs.declared.fault.ScriptWhy.{ScriptWhy}
use Rattle.script_lines.specs.declared.fault.ScriptWhy.TheVariants.{BadLine, Order, Missing, Twice, BadObject, BadNumber, TooMany}

abbrev pub number_of : ScriptWhy → ℕ
number_of BadLine = 1
number_of Order = 2
number_of Missing = 3
number_of Twice = 4
number_of BadObject = 5
number_of BadNumber = 8
number_of TooMany = 10
