use Rattle.std.proofs.Common.{◌≡◌, map, length}
use Rattle.tars_model.specs.Values.{entry_key, keys_rise}
use Rattle.tars_model.proofs.fitting.keys_rise.Given as goal

-- what is left decides
abbrev pub invariant-loop-left : goal.invariant-loop-left
invariant-loop-left l = keys_rise (map entry_key l.left) ≡ keys_rise (map entry_key l.pairs)

abbrev pub decreases-loop-left : goal.decreases-loop-left
decreases-loop-left l = length l.left
