-- Each list, map or struct that is opened leaves less room. In a loop, what is gone past and what is left are what
-- was to be gone past.
use Rattle.std.proofs.Common.{◌≡◌, ◌+◌, ◌-◌, ◌*◌}
use Rattle.tars_decode.specs.ReadingSteps.{MOST_TURNS, past_at, counted_past, end_at}
use Rattle.tars_decode.proofs.skipping.+past.Given as goal

abbrev pub decreases-past_contents : goal.decreases-past_contents
decreases-past_contents l = 5 * l.room

abbrev pub decreases-past_kind : goal.decreases-past_kind
decreases-past_kind l = 5 * l.room + 4

abbrev pub decreases-past_sized : goal.decreases-past_sized
decreases-past_sized l = 5 * l.room + 3

abbrev pub decreases-past_counted : goal.decreases-past_counted
decreases-past_counted l = 5 * l.room + 2

abbrev pub decreases-past_field : goal.decreases-past_field
decreases-past_field l = 5 * l.room + 1

abbrev pub decreases-end_turn : goal.decreases-end_turn
decreases-end_turn l = 5 * l.room + 1

abbrev pub decreases-past_end : goal.decreases-past_end
decreases-past_end l = 5 * l.room + 2

abbrev pub invariant-past_counted-loop : goal.invariant-past_counted-loop
invariant-past_counted-loop l = counted_past (past_at l.room) (l.count - l.counter) l.rest ≡ counted_past (past_at l.room) l.count l.fn.bytes

abbrev pub invariant-past_end-loop : goal.invariant-past_end-loop
invariant-past_end-loop l = end_at (past_at l.room) (MOST_TURNS - l.counter) l.rest ≡ end_at (past_at l.room) MOST_TURNS l.fn.bytes
