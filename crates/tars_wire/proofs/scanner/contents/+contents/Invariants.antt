-- Each list, map or struct that is opened leaves less room. In a loop, what is read so far and what is left
-- are what was to be read.
use Rattle.std.proofs.Common.{◌≡◌, ◌+◌, ◌-◌, ◌*◌, length}
use Rattle.tars_wire.specs.MachineSteps.{of_values, of_pairs}
use Rattle.tars_wire.specs.ScanSteps.{counted_at, fields_at}
use Rattle.tars_wire.proofs.scanner.contents.+contents.Given as goal

abbrev pub decreases-past_contents : goal.decreases-past_contents
decreases-past_contents l = 4 * l.room

abbrev pub decreases-past_fields : goal.decreases-past_fields
decreases-past_fields l = 4 * l.room + 3

abbrev pub decreases-past_item : goal.decreases-past_item
decreases-past_item l = 4 * l.room + 1

abbrev pub decreases-past_pair : goal.decreases-past_pair
decreases-past_pair l = 4 * l.room + 2

abbrev pub decreases-past_pairs : goal.decreases-past_pairs
decreases-past_pairs l = 4 * l.room + 3

abbrev pub decreases-past_values : goal.decreases-past_values
decreases-past_values l = 4 * l.room + 3

abbrev pub invariant-past_fields-loop-head : goal.invariant-past_fields-loop-head
invariant-past_fields-loop-head l = fields_at l.from l.room l.rest ≡ fields_at 0 l.room l.fn.bytes

abbrev pub decreases-past_fields-loop-head : goal.decreases-past_fields-loop-head
decreases-past_fields-loop-head l = length l.rest

abbrev pub invariant-past_pairs-loop : goal.invariant-past_pairs-loop
invariant-past_pairs-loop l = counted_at (of_pairs l.room) (l.count - l.counter) l.rest ≡ counted_at (of_pairs l.room) l.count l.fn.bytes

abbrev pub invariant-past_values-loop : goal.invariant-past_values-loop
invariant-past_values-loop l = counted_at (of_values l.room) (l.count - l.counter) l.rest ≡ counted_at (of_values l.room) l.count l.fn.bytes
