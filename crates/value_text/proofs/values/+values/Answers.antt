use Rattle.std.proofs.Common.{refl, length, []}
use Rattle.std.proofs.lemmas.Result.{err_from_is_err_and}
use Rattle.value_text.specs.ValueSteps.{value_at, elements_at, entries_at, fields_at}
use Rattle.value_text.proofs.Loops.{elements_fail, elements_stop, elements_go_on, elements_end, elements_run_out, entries_fail, entries_stop, entries_go_on, entries_end, entries_run_out, fields_fail, fields_stop, fields_go_on, fields_end, fields_end_fails, with_first, with_none}
use Rattle.value_text.proofs.Rooms.{no_room_left, room_left}
use Rattle.value_text.proofs.values.+values.Goals as goal

pub read-returns-then-room-eq0 : goal.read-returns-then-room-eq0
read-returns-then-room-eq0 t c = rw (no_room_left c.args.room c.args.schema.now c.args.ty.now c.args.cursor.now c.if-room-eq0.true, c.unexpected.ensures) refl

pub read-returns : goal.read-returns
read-returns t c = rw (room_left c.args.room c.args.schema.now c.args.ty.now c.args.cursor.now c.if-room-eq0.false) c.read_by_type.ensures

pub read_elements-returns-in_err-read : goal.read_elements-returns-in_err-read
read_elements-returns-in_err-read t c =
    let f = value_at c.args.room c.args.schema.now c.args.of.now in
    let p = err_from_is_err_and c.from_residual.result c.from_residual.ensures.1 in
    rw (p.1, p.2) (elements_fail f c.loop.values (length c.rest-end.result.now) c.loop.counter c.loop.cursor (elements_at f (length c.args.cursor.now) c.args.cursor.now) c.loop.invariant.so_far c.in_err-read.field-0.0 c.read.new.cursor c.loop-test.true c.in_err-read.ensures)

pub read_elements-returns-in_err-turn : goal.read_elements-returns-in_err-turn
read_elements-returns-in_err-turn t c =
    let f = value_at c.args.room c.args.schema.now c.args.of.now in
    let p = err_from_is_err_and c.from_residual-in_err-turn.result c.from_residual-in_err-turn.ensures.1 in
    rw (p.1, p.2) (elements_stop f c.loop.values (length c.rest-end.result.now) c.loop.counter c.loop.cursor (elements_at f (length c.args.cursor.now) c.args.cursor.now) c.loop.invariant.so_far c.in_ok-read.field-0 c.read.new.cursor c.loop-test.true c.in_ok-read.ensures c.in_err-turn.field-0.0 c.turn.new.self c.in_err-turn.ensures)

pub read_elements-returns-then-branch : goal.read_elements-returns-then-branch
read_elements-returns-then-branch t c =
    let f = value_at c.args.room c.args.schema.now c.args.of.now in
    rw c.in_ok-push.ensures.ok (elements_end f c.loop.values (length c.rest-end.result.now) c.loop.counter c.loop.cursor (elements_at f (length c.args.cursor.now) c.args.cursor.now) c.loop.invariant.so_far c.in_ok-read.field-0 c.read.new.cursor c.loop-test.true c.in_ok-read.ensures c.turn.new.self (rw (← c.if-branch.true) c.in_ok-turn.ensures))

pub read_elements-loop-preserved : goal.read_elements-loop-preserved
read_elements-loop-preserved t c =
    let f = value_at c.args.room c.args.schema.now c.args.of.now in
    record {
      size = c.loop.invariant.size;
      so_far = rw c.in_ok-push.ensures.ok (elements_go_on f c.loop.values (length c.rest-end.result.now) c.loop.counter c.loop.cursor (elements_at f (length c.args.cursor.now) c.args.cursor.now) c.loop.invariant.so_far c.in_ok-read.field-0 c.read.new.cursor c.loop-test.true c.in_ok-read.ensures c.turn.new.self (rw (← c.if-branch.false) c.in_ok-turn.ensures));
    }

pub read_elements-returns : goal.read_elements-returns
read_elements-returns t c =
    let f = value_at c.args.room c.args.schema.now c.args.of.now in
    rw c.unexpected.ensures (elements_run_out f c.loop.values (length c.rest-end.result.now) c.loop.counter c.loop.cursor (elements_at f (length c.args.cursor.now) c.args.cursor.now) c.loop.invariant.so_far c.loop-test.false)

pub read_entries-returns-in_err-at : goal.read_entries-returns-in_err-at
read_entries-returns-in_err-at t c =
    let f = value_at c.args.room c.args.schema.now c.args.key.now in
    let g = value_at c.args.room c.args.schema.now c.args.to.now in
    let p = err_from_is_err_and c.from_residual.result c.from_residual.ensures.1 in
    rw (p.1, p.2) (entries_fail f g c.loop.pairs.items (length c.rest-end.result.now) c.loop.counter c.loop.cursor (entries_at f g (length c.args.cursor.now) [] c.args.cursor.now) c.loop.invariant.so_far c.in_err-at.field-0.0 c.read_entry.new.cursor c.loop-test.true (rw (← c.as_slice.ensures.value) c.in_err-at.ensures.entry))

pub read_entries-returns-in_err-turn : goal.read_entries-returns-in_err-turn
read_entries-returns-in_err-turn t c =
    let f = value_at c.args.room c.args.schema.now c.args.key.now in
    let g = value_at c.args.room c.args.schema.now c.args.to.now in
    let p = err_from_is_err_and c.from_residual-in_err-turn.result c.from_residual-in_err-turn.ensures.1 in
    rw (p.1, p.2) (entries_stop f g c.loop.pairs.items (length c.rest-end.result.now) c.loop.counter c.loop.cursor (entries_at f g (length c.args.cursor.now) [] c.args.cursor.now) c.loop.invariant.so_far c.in_ok-at.at c.in_ok-at.pair c.read_entry.new.cursor c.loop-test.true (rw (← c.as_slice.ensures.value) c.in_ok-at.ensures.entry) c.in_err-turn.field-0.0 c.turn.new.self c.in_err-turn.ensures)

pub read_entries-loop-preserved : goal.read_entries-loop-preserved
read_entries-loop-preserved t c =
    let f = value_at c.args.room c.args.schema.now c.args.key.now in
    let g = value_at c.args.room c.args.schema.now c.args.to.now in
    record {
      size = c.loop.invariant.size;
      so_far = rw c.in_ok-put.ensures (entries_go_on f g c.loop.pairs.items (length c.rest-end.result.now) c.loop.counter c.loop.cursor (entries_at f g (length c.args.cursor.now) [] c.args.cursor.now) c.loop.invariant.so_far c.in_ok-at.at c.in_ok-at.pair c.read_entry.new.cursor c.loop-test.true (rw (← c.as_slice.ensures.value) c.in_ok-at.ensures.entry) c.turn.new.self (rw (← c.if-branch.false) c.in_ok-turn.ensures));
    }

pub read_entries-returns : goal.read_entries-returns
read_entries-returns t c =
    let f = value_at c.args.room c.args.schema.now c.args.key.now in
    let g = value_at c.args.room c.args.schema.now c.args.to.now in
    rw c.unexpected.ensures (entries_run_out f g c.loop.pairs.items (length c.rest-end.result.now) c.loop.counter c.loop.cursor (entries_at f g (length c.args.cursor.now) [] c.args.cursor.now) c.loop.invariant.so_far c.loop-test.false)

pub read_entries-returns-then-branch : goal.read_entries-returns-then-branch
read_entries-returns-then-branch t c =
    let f = value_at c.args.room c.args.schema.now c.args.key.now in
    let g = value_at c.args.room c.args.schema.now c.args.to.now in
    rw (c.from_vec.ensures, c.in_ok-put.ensures) (entries_end f g c.loop.pairs.items (length c.rest-end.result.now) c.loop.counter c.loop.cursor (entries_at f g (length c.args.cursor.now) [] c.args.cursor.now) c.loop.invariant.so_far c.in_ok-at.at c.in_ok-at.pair c.read_entry.new.cursor c.loop-test.true (rw (← c.as_slice.ensures.value) c.in_ok-at.ensures.entry) c.turn.new.self (rw (← c.if-branch.true) c.in_ok-turn.ensures))

pub read_fields-returns-in_err-read_field : goal.read_fields-returns-in_err-read_field
read_fields-returns-in_err-read_field t c =
    let f = value_at c.args.room c.args.schema.now in
    let p = err_from_is_err_and c.from_residual.result c.from_residual.ensures.1 in
    let so_far = with_first f c.loop-member.values c.loop-member.left.now c.loop-member.cursor (fields_at f c.args.members.now c.args.cursor.now) c.in-Some.member.now c.in-Some.others.now c.in-Some.ensures.cases c.loop-member.invariant in
    rw (p.1, p.2) (fields_fail f c.loop-member.values c.in-Some.member.now c.in-Some.others.now c.loop-member.cursor (fields_at f c.args.members.now c.args.cursor.now) so_far c.in_err-read_field.field-0.0 c.read_field.new.cursor c.in_err-read_field.ensures)

pub read_fields-returns-in_err-comma : goal.read_fields-returns-in_err-comma
read_fields-returns-in_err-comma t c =
    let f = value_at c.args.room c.args.schema.now in
    let p = err_from_is_err_and c.from_residual-in_err-comma.result c.from_residual-in_err-comma.ensures.1 in
    let so_far = with_first f c.loop-member.values c.loop-member.left.now c.loop-member.cursor (fields_at f c.args.members.now c.args.cursor.now) c.in-Some.member.now c.in-Some.others.now c.in-Some.ensures.cases c.loop-member.invariant in
    rw (p.1, p.2) (fields_stop f c.loop-member.values c.in-Some.member.now c.in-Some.others.now c.loop-member.cursor (fields_at f c.args.members.now c.args.cursor.now) so_far c.in_ok-read_field.field-0 c.read_field.new.cursor c.in_ok-read_field.ensures c.in_err-comma.field-0.0 c.comma.new.cursor (rw (← c.gap.ensures) c.in_err-comma.ensures))

pub read_fields-loop-member-preserved : goal.read_fields-loop-member-preserved
read_fields-loop-member-preserved t c =
    let f = value_at c.args.room c.args.schema.now in
    let so_far = with_first f c.loop-member.values c.loop-member.left.now c.loop-member.cursor (fields_at f c.args.members.now c.args.cursor.now) c.in-Some.member.now c.in-Some.others.now c.in-Some.ensures.cases c.loop-member.invariant in
    rw c.in_ok-push.ensures.ok (fields_go_on f c.loop-member.values c.in-Some.member.now c.in-Some.others.now c.loop-member.cursor (fields_at f c.args.members.now c.args.cursor.now) so_far c.in_ok-read_field.field-0 c.read_field.new.cursor c.in_ok-read_field.ensures c.comma.new.cursor (rw (← c.gap.ensures) c.in_ok-comma.ensures))

pub read_fields-returns-in_err-byte : goal.read_fields-returns-in_err-byte
read_fields-returns-in_err-byte t c =
    let f = value_at c.args.room c.args.schema.now in
    let p = err_from_is_err_and c.from_residual-in_err-byte.result c.from_residual-in_err-byte.ensures.1 in
    let so_far = with_none f c.loop-member.values c.loop-member.left.now c.loop-member.cursor (fields_at f c.args.members.now c.args.cursor.now) c.in_default.ensures.cases c.loop-member.invariant in
    rw (p.1, p.2) (fields_end_fails f c.loop-member.values c.loop-member.cursor (fields_at f c.args.members.now c.args.cursor.now) so_far c.in_err-byte.field-0.0 c.byte.new.self c.in_err-byte.ensures)

pub read_fields-returns : goal.read_fields-returns
read_fields-returns t c =
    let f = value_at c.args.room c.args.schema.now in
    let so_far = with_none f c.loop-member.values c.loop-member.left.now c.loop-member.cursor (fields_at f c.args.members.now c.args.cursor.now) c.in_default.ensures.cases c.loop-member.invariant in
    fields_end f c.loop-member.values c.loop-member.cursor (fields_at f c.args.members.now c.args.cursor.now) so_far c.byte.new.self c.in_ok-byte.ensures
