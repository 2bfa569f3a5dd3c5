use Rattle.std.proofs.Common.{◌≡◌, ◌≤◌, Some, drop, length, map}
use Rattle.tars_model.specs.Values.{key_of, entry_key}
use Rattle.tars_model.specs.declared.value.Value.{out-Value}
use Rattle.value_text.specs.ValueSteps.{place_at}
use Rattle.value_text.proofs.values.place_of.Given as goal

abbrev pub invariant-places : goal.invariant-places
invariant-places l = record {
  within : l.at ≤ length l.pairs;
  above : place_at (key_of (out-Value l.key)) (map entry_key (drop l.at l.pairs)) ≡ Some 0;
}

abbrev pub decreases-places : goal.decreases-places
decreases-places l = l.at
