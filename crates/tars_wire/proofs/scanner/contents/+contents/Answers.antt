use Rattle.std.proofs.Common.{◌≡◌, true, false, arith}
use Rattle.std.proofs.lemmas.Result.{err_from_is_err_and}
use Rattle.tars_wire.specs.declared.head_context.HeadContext.TheVariants as heads
use Rattle.tars_wire.specs.Heads.{is_end}
use Rattle.tars_wire.specs.MachineSteps.{of_values, of_pairs}
use Rattle.tars_wire.specs.ScanSteps.{counted_at, fields_at, item_at, pair_at}
use Rattle.tars_wire.proofs.Scanning.Readings.{no_values_left, no_pairs_left, one_value_more, one_pair_more}
use Rattle.tars_wire.proofs.Scanning.Remainders.{struct_room, head_shorter, contents_not_longer}
use Rattle.tars_wire.proofs.Scanning.Loops.{counted_on, counted_fails, counted_done, head_fails, struct_ends, contents_fail, fields_on}
use Rattle.tars_wire.proofs.scanner.contents.+contents.Goals as goal

pub past_fields-returns-in_err-head : goal.past_fields-returns-in_err-head
past_fields-returns-in_err-head t c =
    let p = err_from_is_err_and c.from_residual.result c.from_residual.ensures.1 in
    rw (p.1, p.2) (head_fails c.loop-head.from c.args.room c.loop-head.rest.now (fields_at 0 c.args.room c.args.bytes.now) c.loop-head.invariant c.in_err-head.field-0.0 c.in_err-head.ensures.read)

pub past_fields-returns-then-is_end : goal.past_fields-returns-then-is_end
past_fields-returns-then-is_end t c =
    let ends : is_end c.in_ok-head.head.kind ≡ true = cc in
    struct_ends c.loop-head.from c.args.room c.loop-head.rest.now (fields_at 0 c.args.room c.args.bytes.now) c.loop-head.invariant c.in_ok-head.head c.in_ok-head.after.now c.in_ok-head.ensures.read ends

pub past_fields-past_contents-requires : goal.past_fields-past_contents-requires
past_fields-past_contents-requires t c =
    (omega arith, struct_room c.loop-head.from c.args.room c.loop-head.rest.now c.in_ok-head.after.now c.in_ok-head.head c.in_ok-head.ensures.read)

pub past_fields-returns-in_err-rest : goal.past_fields-returns-in_err-rest
past_fields-returns-in_err-rest t c =
    let ends : is_end c.in_ok-head.head.kind ≡ false = cc in
    let p = err_from_is_err_and c.from_residual-in_err-rest.result c.from_residual-in_err-rest.ensures.1 in
    rw (p.1, p.2) (contents_fail c.loop-head.from c.args.room c.loop-head.rest.now (fields_at 0 c.args.room c.args.bytes.now) c.loop-head.invariant c.in_ok-head.head c.in_ok-head.after.now c.in_err-rest.field-0.0 c.in_ok-head.ensures.read ends c.in_err-rest.ensures)

pub past_fields-loop-head-smaller : goal.past_fields-loop-head-smaller
past_fields-loop-head-smaller t c =
    let a = head_shorter (heads.Struct c.loop-head.from c.args.room) c.loop-head.rest.now c.in_ok-head.after.now c.in_ok-head.head c.in_ok-head.ensures.read in
    let b = contents_not_longer c.args.room c.in_ok-head.head.kind c.in_ok-head.after.now c.in_ok-rest.rest.now c.in_ok-rest.ensures in
    omega arith

pub past_fields-loop-head-preserved : goal.past_fields-loop-head-preserved
past_fields-loop-head-preserved t c =
    let ends : is_end c.in_ok-head.head.kind ≡ false = cc in
    rw c.from-from.ensures (fields_on c.loop-head.from c.args.room c.loop-head.rest.now (fields_at 0 c.args.room c.args.bytes.now) c.loop-head.invariant c.in_ok-head.head c.in_ok-head.after.now c.in_ok-rest.rest.now c.in_ok-head.ensures.read ends c.in_ok-rest.ensures)

pub past_pairs-returns-in_err-rest : goal.past_pairs-returns-in_err-rest
past_pairs-returns-in_err-rest t c =
    let p = err_from_is_err_and c.from_residual.result c.from_residual.ensures.1 in
    rw (p.1, p.2) (counted_fails (counted_at (of_pairs c.args.room)) (pair_at c.args.room) (one_pair_more c.args.room) c.args.count c.loop.counter c.loop.rest.now c.in_err-rest.field-0.0 (counted_at (of_pairs c.args.room) c.args.count c.args.bytes.now) c.loop-test.true c.in_err-rest.ensures c.loop.invariant)

pub past_pairs-loop-preserved : goal.past_pairs-loop-preserved
past_pairs-loop-preserved t c =
    counted_on (counted_at (of_pairs c.args.room)) (pair_at c.args.room) (one_pair_more c.args.room) c.args.count c.loop.counter c.loop.rest.now c.in_ok-rest.rest.now (counted_at (of_pairs c.args.room) c.args.count c.args.bytes.now) c.loop-test.true c.in_ok-rest.ensures c.loop.invariant

pub past_pairs-returns : goal.past_pairs-returns
past_pairs-returns t c =
    counted_done (counted_at (of_pairs c.args.room)) (pair_at c.args.room) (no_pairs_left c.args.room) c.args.count c.loop.counter c.loop.rest.now (counted_at (of_pairs c.args.room) c.args.count c.args.bytes.now) c.loop-test.false c.loop.invariant

pub past_values-returns-in_err-rest : goal.past_values-returns-in_err-rest
past_values-returns-in_err-rest t c =
    let p = err_from_is_err_and c.from_residual.result c.from_residual.ensures.1 in
    rw (p.1, p.2) (counted_fails (counted_at (of_values c.args.room)) (item_at 0 c.args.room) (one_value_more c.args.room) c.args.count c.loop.counter c.loop.rest.now c.in_err-rest.field-0.0 (counted_at (of_values c.args.room) c.args.count c.args.bytes.now) c.loop-test.true c.in_err-rest.ensures c.loop.invariant)

pub past_values-loop-preserved : goal.past_values-loop-preserved
past_values-loop-preserved t c =
    counted_on (counted_at (of_values c.args.room)) (item_at 0 c.args.room) (one_value_more c.args.room) c.args.count c.loop.counter c.loop.rest.now c.in_ok-rest.rest.now (counted_at (of_values c.args.room) c.args.count c.args.bytes.now) c.loop-test.true c.in_ok-rest.ensures c.loop.invariant

pub past_values-returns : goal.past_values-returns
past_values-returns t c =
    counted_done (counted_at (of_values c.args.room)) (item_at 0 c.args.room) (no_values_left c.args.room) c.args.count c.loop.counter c.loop.rest.now (counted_at (of_values c.args.room) c.args.count c.args.bytes.now) c.loop-test.false c.loop.invariant
