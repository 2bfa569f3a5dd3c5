use Rattle.std.proofs.Common.{◌+◌, ◌-◌, [], drop, sym, ◌∙◌, arith}
use Rattle.std.proofs.lemmas.Result.{err_from_is_err_and}
use Rattle.tars_decode.specs.ReadingSteps.{past_at, value_at, element_at, elements_at, entry_at, entries_at, member_at, members_from}
use Rattle.tars_decode.proofs.Loops.{one_gives, one_fails, none_left, step_fails, step_gives}
use Rattle.tars_decode.proofs.LoopSteps.{elements_left, no_elements_left, entry_next, entries_left, no_entries_left, members_left, no_members_left}
use Rattle.tars_decode.proofs.EntryLaws.{entry_rises}
use Rattle.tars_decode.proofs.Rooms.{value_no_room}
use Rattle.tars_decode.proofs.reading.contents.+contents.Goals as goal

pub read_value-returns-then-scope-eq0 : goal.read_value-returns-then-scope-eq0
read_value-returns-then-scope-eq0 t c = value_no_room c.args.scope.now.room c.args.scope.now.schema.now c.args.ty.now c.args.kind c.args.bytes.now (omega arith)

pub read_elements-returns-in_err-value : goal.read_elements-returns-in_err-value
read_elements-returns-in_err-value t c =
    let p = err_from_is_err_and c.from_residual.result c.from_residual.ensures.1 in
    let inner = value_at c.args.scope.now.room c.args.scope.now.schema.now in
    rw (p.1, p.2) (one_fails (elements_at inner c.args.of.now c.loop-i.i (c.args.count - c.loop-i.i) c.loop-i.rest.now) (element_at inner c.args.of.now c.loop-i.i c.loop-i.rest.now) (elements_at inner c.args.of.now (c.loop-i.i + 1) (c.args.count - (c.loop-i.i + 1))) c.loop-i.values c.in_err-value.field-0.0 (elements_at inner c.args.of.now 0 c.args.count c.args.bytes.now) (elements_left inner c.args.of.now c.loop-i.i c.args.count c.loop-i.rest.now c.loop-i-test.true) c.in_err-value.ensures c.loop-i.invariant)

pub read_elements-loop-i-preserved : goal.read_elements-loop-i-preserved
read_elements-loop-i-preserved t c =
    let inner = value_at c.args.scope.now.room c.args.scope.now.schema.now in
    rw c.in_ok-push.ensures.ok (one_gives (elements_at inner c.args.of.now c.loop-i.i (c.args.count - c.loop-i.i) c.loop-i.rest.now) (element_at inner c.args.of.now c.loop-i.i c.loop-i.rest.now) (elements_at inner c.args.of.now (c.loop-i.i + 1) (c.args.count - (c.loop-i.i + 1))) c.loop-i.values c.in_ok-value.value c.in_ok-value.after.now (elements_at inner c.args.of.now 0 c.args.count c.args.bytes.now) (elements_left inner c.args.of.now c.loop-i.i c.args.count c.loop-i.rest.now c.loop-i-test.true) c.in_ok-value.ensures c.loop-i.invariant)

pub read_elements-returns : goal.read_elements-returns
read_elements-returns t c =
    let inner = value_at c.args.scope.now.room c.args.scope.now.schema.now in
    none_left (elements_at inner c.args.of.now c.loop-i.i (c.args.count - c.loop-i.i) c.loop-i.rest.now) c.loop-i.values c.loop-i.rest.now (elements_at inner c.args.of.now 0 c.args.count c.args.bytes.now) (no_elements_left inner c.args.of.now c.loop-i.i c.args.count c.loop-i.rest.now c.loop-i-test.false) c.loop-i.invariant

pub read_entries-returns-in_err-at : goal.read_entries-returns-in_err-at
read_entries-returns-in_err-at t c =
    let p = err_from_is_err_and c.from_residual.result c.from_residual.ensures.1 in
    let inner = value_at c.args.scope.now.room c.args.scope.now.schema.now in
    rw (p.1, p.2) (step_fails (entries_at inner c.args.key.now c.args.to.now c.loop-i.i (c.args.count - c.loop-i.i) c.loop-i.pairs.items c.loop-i.rest.now) (entry_at inner c.args.key.now c.args.to.now c.loop-i.i c.loop-i.pairs.items c.loop-i.rest.now) (entry_next inner c.args.key.now c.args.to.now c.loop-i.i (c.args.count - (c.loop-i.i + 1)) c.loop-i.pairs.items) c.in_err-at.field-0.0 (entries_at inner c.args.key.now c.args.to.now 0 c.args.count [] c.args.bytes.now) (entries_left inner c.args.key.now c.args.to.now c.loop-i.i c.args.count c.loop-i.pairs.items c.loop-i.rest.now c.loop-i-test.true) (rw c.deref.ensures.value at c.in_err-at.ensures.read) c.loop-i.invariant.so_far)

pub read_entries-loop-i-preserved : goal.read_entries-loop-i-preserved
read_entries-loop-i-preserved t c =
    let inner = value_at c.args.scope.now.room c.args.scope.now.schema.now in
    rw c.in_ok-add.ensures (record {
      rising = entry_rises inner c.args.key.now c.args.to.now c.loop-i.i c.loop-i.pairs.items c.loop-i.rest.now c.in_ok-at.at c.in_ok-at.pair c.in_ok-at.after.now (rw c.deref.ensures.value at c.in_ok-at.ensures.read) c.loop-i.invariant.rising;
      so_far = step_gives (entries_at inner c.args.key.now c.args.to.now c.loop-i.i (c.args.count - c.loop-i.i) c.loop-i.pairs.items c.loop-i.rest.now) (entry_at inner c.args.key.now c.args.to.now c.loop-i.i c.loop-i.pairs.items c.loop-i.rest.now) (entry_next inner c.args.key.now c.args.to.now c.loop-i.i (c.args.count - (c.loop-i.i + 1)) c.loop-i.pairs.items) ((c.in_ok-at.at, c.in_ok-at.pair), c.in_ok-at.after.now) (entries_at inner c.args.key.now c.args.to.now 0 c.args.count [] c.args.bytes.now) (entries_left inner c.args.key.now c.args.to.now c.loop-i.i c.args.count c.loop-i.pairs.items c.loop-i.rest.now c.loop-i-test.true) (rw c.deref.ensures.value at c.in_ok-at.ensures.read) c.loop-i.invariant.so_far;
    })

pub read_entries-returns : goal.read_entries-returns
read_entries-returns t c =
    let inner = value_at c.args.scope.now.room c.args.scope.now.schema.now in
    rw c.from_vec.ensures (sym c.loop-i.invariant.so_far ∙ no_entries_left inner c.args.key.now c.args.to.now c.loop-i.i c.args.count c.loop-i.pairs.items c.loop-i.rest.now c.loop-i-test.false)

pub read_members-returns-in_err-value : goal.read_members-returns-in_err-value
read_members-returns-in_err-value t c =
    let p = err_from_is_err_and c.from_residual.result c.from_residual.ensures.1 in
    let inner = value_at c.args.scope.now.room c.args.scope.now.schema.now in
    let past = past_at c.args.scope.now.room in
    rw (p.1, p.2) (one_fails (members_from inner past (drop c.loop-member.member-index c.args.members.now) c.loop-member.rest.now) (member_at inner past c.member-item.result c.loop-member.rest.now) (members_from inner past (drop (c.loop-member.member-index + 1) c.args.members.now)) c.loop-member.values c.in_err-value.field-0.0 (members_from inner past c.args.members.now c.args.bytes.now) (members_left inner past c.args.members.now c.loop-member.member-index c.member-item.result c.loop-member.rest.now c.loop-member-test.true c.member-item.is) c.in_err-value.ensures c.loop-member.invariant)

pub read_members-loop-member-preserved : goal.read_members-loop-member-preserved
read_members-loop-member-preserved t c =
    let inner = value_at c.args.scope.now.room c.args.scope.now.schema.now in
    let past = past_at c.args.scope.now.room in
    rw c.in_ok-push.ensures.ok (one_gives (members_from inner past (drop c.loop-member.member-index c.args.members.now) c.loop-member.rest.now) (member_at inner past c.member-item.result c.loop-member.rest.now) (members_from inner past (drop (c.loop-member.member-index + 1) c.args.members.now)) c.loop-member.values c.in_ok-value.value c.in_ok-value.after.now (members_from inner past c.args.members.now c.args.bytes.now) (members_left inner past c.args.members.now c.loop-member.member-index c.member-item.result c.loop-member.rest.now c.loop-member-test.true c.member-item.is) c.in_ok-value.ensures c.loop-member.invariant)

pub read_members-returns : goal.read_members-returns
read_members-returns t c =
    let inner = value_at c.args.scope.now.room c.args.scope.now.schema.now in
    let past = past_at c.args.scope.now.room in
    none_left (members_from inner past (drop c.loop-member.member-index c.args.members.now) c.loop-member.rest.now) c.loop-member.values c.loop-member.rest.now (members_from inner past c.args.members.now c.args.bytes.now) (no_members_left inner past c.args.members.now c.loop-member.member-index c.loop-member.rest.now c.loop-member-test.false) c.loop-member.invariant
