-- The reasons of faults by their numbers (docs/SCRIPTS.md, "Value text").
use Rattle.std.specs.Prelude.{ℕ}
use Rattle.value_text.specs.declared.value_fault.ValueWhy.{ValueWhy}
use Rattle.value_text.specs.declared.value_fault.ValueWhy.TheVariants.{Unexpected, Range, TwiceKey}

abbrev pub number_of : ValueWhy → ℕ
number_of Unexpected = 1
number_of Range = 2
number_of TwiceKey = 3
