use Rattle.std.proofs.Common.{◌≡◌, ◌+◌, ◌*◌, ◌-◌, [], length}
use Rattle.value_text.specs.ValueSteps.{value_at, elements_at, entries_at, fields_at}
use Rattle.value_text.proofs.Loops.{with_prefix}
use Rattle.value_text.proofs.values.+values.Given as goal

abbrev pub decreases-read : goal.decreases-read
decreases-read l = 6 * l.room

abbrev pub decreases-read_by_type : goal.decreases-read_by_type
decreases-read_by_type l = 6 * l.room + 5

abbrev pub decreases-read_list : goal.decreases-read_list
decreases-read_list l = 6 * l.room + 4

abbrev pub decreases-read_map : goal.decreases-read_map
decreases-read_map l = 6 * l.room + 4

abbrev pub decreases-read_struct : goal.decreases-read_struct
decreases-read_struct l = 6 * l.room + 4

abbrev pub decreases-read_elements : goal.decreases-read_elements
decreases-read_elements l = 6 * l.room + 3

abbrev pub decreases-read_entries : goal.decreases-read_entries
decreases-read_entries l = 6 * l.room + 3

abbrev pub decreases-read_fields : goal.decreases-read_fields
decreases-read_fields l = 6 * l.room + 3

abbrev pub decreases-read_entry : goal.decreases-read_entry
decreases-read_entry l = 6 * l.room + 1

abbrev pub decreases-read_field : goal.decreases-read_field
decreases-read_field l = 6 * l.room + 1

abbrev pub invariant-read_elements-loop : goal.invariant-read_elements-loop
invariant-read_elements-loop l =
    let f = value_at l.room l.schema l.of in
    record {
      size : l.end ≡ length l.fn.cursor;
      so_far : with_prefix l.values (elements_at f (l.end - l.counter) l.cursor) ≡ elements_at f (length l.fn.cursor) l.fn.cursor;
    }

abbrev pub invariant-read_entries-loop : goal.invariant-read_entries-loop
invariant-read_entries-loop l =
    let f = value_at l.room l.schema l.key in
    let g = value_at l.room l.schema l.to in
    record {
      size : l.end ≡ length l.fn.cursor;
      so_far : entries_at f g (l.end - l.counter) l.pairs.items l.cursor ≡ entries_at f g (length l.fn.cursor) [] l.fn.cursor;
    }

abbrev pub invariant-read_fields-loop-member : goal.invariant-read_fields-loop-member
invariant-read_fields-loop-member l =
    with_prefix l.values (fields_at (value_at l.room l.schema) l.left l.cursor) ≡ fields_at (value_at l.room l.schema) l.fn.members l.fn.cursor

abbrev pub decreases-read_fields-loop-member : goal.decreases-read_fields-loop-member
decreases-read_fields-loop-member l = length l.left
