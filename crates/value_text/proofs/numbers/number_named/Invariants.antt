use Rattle.std.proofs.Common.{◌≡◌, length}
use Rattle.value_text.specs.Spelling.{number_named}
use Rattle.value_text.proofs.numbers.number_named.Given as goal

abbrev pub invariant-loop-left : goal.invariant-loop-left
invariant-loop-left l = number_named l.left l.fn.name ≡ number_named l.fn.items l.fn.name

abbrev pub decreases-loop-left : goal.decreases-loop-left
decreases-loop-left l = length l.left
