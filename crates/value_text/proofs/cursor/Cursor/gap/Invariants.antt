use Rattle.std.proofs.Common.{◌≡◌, length}
use Rattle.value_text.specs.Spelling.{past_gap}
use Rattle.value_text.proofs.cursor.Cursor.gap.Given as goal

abbrev pub invariant-loop-left : goal.invariant-loop-left
invariant-loop-left l = past_gap l.left ≡ past_gap l.fn.self

abbrev pub decreases-loop-left : goal.decreases-loop-left
decreases-loop-left l = length l.left
