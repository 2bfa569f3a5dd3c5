use Rattle.std.proofs.Common.{◌≡◌, length}
use Rattle.idl_rules.specs.Rules.{is_reserved}
use Rattle.idl_rules.proofs.named.is_reserved.Given as goal

abbrev pub invariant-loop-left : goal.invariant-loop-left
invariant-loop-left l = is_reserved l.left ≡ is_reserved l.word

abbrev pub decreases-loop-left : goal.decreases-loop-left
decreases-loop-left l = length l.left
