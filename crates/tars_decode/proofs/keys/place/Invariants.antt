-- The keys from here on are above the key.
use Rattle.std.proofs.Common.{◌≡◌, ◌≤◌, map, take, length}
use Rattle.tars_model.specs.Values.{key_of, entry_key}
use Rattle.tars_model.specs.declared.value.Value.{out-Value}
use Rattle.tars_decode.specs.ReadingSteps.{place_of}
use Rattle.tars_decode.proofs.keys.place.Given as goal

abbrev pub invariant-loop-at : goal.invariant-loop-at
invariant-loop-at l = (l.at ≤ length l.pairs) × (place_of (key_of (out-Value l.key)) (take l.at (map entry_key l.pairs)) ≡ place_of (key_of (out-Value l.key)) (map entry_key l.pairs))

abbrev pub decreases-loop-at : goal.decreases-loop-at
decreases-loop-at l = l.at
