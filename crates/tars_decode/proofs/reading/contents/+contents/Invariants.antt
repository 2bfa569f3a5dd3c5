-- Each list, map or struct that is opened leaves less room. In a loop, what is read so far and what is left are what
-- was to be read.
use Rattle.std.proofs.Common.{◌≡◌, ◌+◌, ◌-◌, ◌*◌, true, [], map, drop}
use Rattle.tars_model.specs.Values.{keys_rise, entry_key}
use Rattle.tars_decode.specs.ReadingSteps.{past_at, value_at, elements_at, entries_at, members_from}
use Rattle.tars_decode.proofs.Loops.{with_front}
use Rattle.tars_decode.proofs.reading.contents.+contents.Given as goal

abbrev pub decreases-read_value : goal.decreases-read_value
decreases-read_value l = 9 * l.scope.now.room

abbrev pub decreases-read_kind : goal.decreases-read_kind
decreases-read_kind l = 9 * l.scope.now.room + 8

abbrev pub decreases-read_list : goal.decreases-read_list
decreases-read_list l = 9 * l.scope.now.room + 7

abbrev pub decreases-read_map : goal.decreases-read_map
decreases-read_map l = 9 * l.scope.now.room + 7

abbrev pub decreases-read_struct : goal.decreases-read_struct
decreases-read_struct l = 9 * l.scope.now.room + 7

abbrev pub decreases-read_entries : goal.decreases-read_entries
decreases-read_entries l = 9 * l.scope.now.room + 6

abbrev pub decreases-read_elements : goal.decreases-read_elements
decreases-read_elements l = 9 * l.scope.now.room + 6

abbrev pub decreases-read_members : goal.decreases-read_members
decreases-read_members l = 9 * l.scope.now.room + 6

abbrev pub decreases-read_entry : goal.decreases-read_entry
decreases-read_entry l = 9 * l.scope.now.room + 5

abbrev pub decreases-read_member : goal.decreases-read_member
decreases-read_member l = 9 * l.scope.now.room + 5

abbrev pub decreases-read_key : goal.decreases-read_key
decreases-read_key l = 9 * l.scope.now.room + 4

abbrev pub decreases-find_key : goal.decreases-find_key
decreases-find_key l = 9 * l.scope.now.room + 3

abbrev pub decreases-read_element : goal.decreases-read_element
decreases-read_element l = 9 * l.scope.now.room + 3

abbrev pub decreases-read_present : goal.decreases-read_present
decreases-read_present l = 9 * l.scope.now.room + 3

abbrev pub decreases-read_item : goal.decreases-read_item
decreases-read_item l = 9 * l.scope.now.room + 2

abbrev pub invariant-read_elements-loop-i : goal.invariant-read_elements-loop-i
invariant-read_elements-loop-i l =
    with_front l.values (elements_at (value_at l.scope.room l.scope.schema.now) l.of l.i (l.count - l.i) l.rest) ≡ elements_at (value_at l.scope.room l.scope.schema.now) l.of 0 l.count l.fn.bytes

abbrev pub invariant-read_entries-loop-i : goal.invariant-read_entries-loop-i
invariant-read_entries-loop-i l =
    record {
      rising : keys_rise (map entry_key l.pairs.items) ≡ true;
      so_far : entries_at (value_at l.scope.room l.scope.schema.now) l.key l.to l.i (l.count - l.i) l.pairs.items l.rest ≡ entries_at (value_at l.scope.room l.scope.schema.now) l.key l.to 0 l.count [] l.fn.bytes;
    }

abbrev pub invariant-read_members-loop-member : goal.invariant-read_members-loop-member
invariant-read_members-loop-member l =
    with_front l.values (members_from (value_at l.scope.room l.scope.schema.now) (past_at l.scope.room) (drop l.member-index l.members) l.rest) ≡ members_from (value_at l.scope.room l.scope.schema.now) (past_at l.scope.room) l.members l.fn.bytes
