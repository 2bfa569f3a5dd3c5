-- The reasons of faults by their numbers (docs/IDL.md, "Faults of the grammar").
use Rattle.std.specs.Prelude.{ℕ}
use Rattle.idl_parse.specs.declared.parse_fault.ParseWhy.{ParseWhy}
use Rattle.idl_parse.specs.declared.parse_fault.ParseWhy.TheVariants.{Unexpected, TooDeep}

abbrev pub number_of : ParseWhy → ℕ
number_of Unexpected = 5
number_of TooDeep = 6
