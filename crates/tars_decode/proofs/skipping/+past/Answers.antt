use Rattle.std.proofs.Common.{◌≡◌, true, false, Ok, sym, arith}
use Rattle.std.proofs.lemmas.Result.{err_from_is_err_and}
use Rattle.tars_decode.specs.ReadingSteps.{MOST_TURNS, past_at, field_past, counted_past, end_turn_at, end_at}
use Rattle.tars_decode.proofs.Loops.{turn_fails, turn_gives, turns_end}
use Rattle.tars_decode.proofs.LoopSteps.{same_next, counted_more, counted_none, end_next, end_more, stops, end_none}
use Rattle.tars_decode.proofs.Rooms.{past_no_room}
use Rattle.tars_decode.proofs.skipping.+past.Goals as goal

pub past_contents-returns-then-room-eq0 : goal.past_contents-returns-then-room-eq0
past_contents-returns-then-room-eq0 t c = past_no_room c.args.room c.args.kind c.args.bytes.now (omega arith)

pub past_counted-returns-in_err-rest : goal.past_counted-returns-in_err-rest
past_counted-returns-in_err-rest t c =
    let p = err_from_is_err_and c.from_residual.result c.from_residual.ensures.1 in
    rw (p.1, p.2) (turn_fails (counted_past (past_at c.args.room)) (field_past (past_at c.args.room)) same_next (counted_more (past_at c.args.room)) c.args.count c.loop.counter c.loop.rest.now c.in_err-rest.field-0.0 (counted_past (past_at c.args.room) c.args.count c.args.bytes.now) c.loop-test.true c.in_err-rest.ensures c.loop.invariant)

pub past_counted-loop-preserved : goal.past_counted-loop-preserved
past_counted-loop-preserved t c =
    turn_gives (counted_past (past_at c.args.room)) (field_past (past_at c.args.room)) same_next (counted_more (past_at c.args.room)) c.args.count c.loop.counter c.loop.rest.now c.in_ok-rest.rest.now (counted_past (past_at c.args.room) c.args.count c.args.bytes.now) c.loop-test.true c.in_ok-rest.ensures c.loop.invariant

pub past_counted-returns : goal.past_counted-returns
past_counted-returns t c =
    turns_end (counted_past (past_at c.args.room)) (field_past (past_at c.args.room)) same_next (counted_more (past_at c.args.room)) (λ w. Ok w) (counted_none (past_at c.args.room)) c.args.count c.loop.counter c.loop.rest.now (counted_past (past_at c.args.room) c.args.count c.args.bytes.now) c.loop-test.false c.loop.invariant

pub past_end-returns-in_err-ended : goal.past_end-returns-in_err-ended
past_end-returns-in_err-ended t c =
    let p = err_from_is_err_and c.from_residual.result c.from_residual.ensures.1 in
    rw (p.1, p.2) (turn_fails (end_at (past_at c.args.room)) (end_turn_at (past_at c.args.room)) end_next (end_more (past_at c.args.room)) MOST_TURNS c.loop.counter c.loop.rest.now c.in_err-ended.field-0.0 (end_at (past_at c.args.room) MOST_TURNS c.args.bytes.now) c.loop-test.true c.in_err-ended.ensures c.loop.invariant)

pub past_end-returns-then-ended : goal.past_end-returns-then-ended
past_end-returns-then-ended t c =
    let ended : c.in_ok-ended.ended ≡ true = cc in
    let e = turn_gives (end_at (past_at c.args.room)) (end_turn_at (past_at c.args.room)) end_next (end_more (past_at c.args.room)) MOST_TURNS c.loop.counter c.loop.rest.now (true, c.in_ok-ended.after.now) (end_at (past_at c.args.room) MOST_TURNS c.args.bytes.now) c.loop-test.true (rw ended at c.in_ok-ended.ensures) c.loop.invariant in
    sym e

pub past_end-loop-preserved : goal.past_end-loop-preserved
past_end-loop-preserved t c =
    let ended : c.in_ok-ended.ended ≡ false = cc in
    turn_gives (end_at (past_at c.args.room)) (end_turn_at (past_at c.args.room)) end_next (end_more (past_at c.args.room)) MOST_TURNS c.loop.counter c.loop.rest.now (false, c.in_ok-ended.after.now) (end_at (past_at c.args.room) MOST_TURNS c.args.bytes.now) c.loop-test.true (rw ended at c.in_ok-ended.ensures) c.loop.invariant

pub past_end-returns : goal.past_end-returns
past_end-returns t c =
    turns_end (end_at (past_at c.args.room)) (end_turn_at (past_at c.args.room)) end_next (end_more (past_at c.args.room)) stops (end_none (past_at c.args.room)) MOST_TURNS c.loop.counter c.loop.rest.now (end_at (past_at c.args.room) MOST_TURNS c.args.bytes.now) c.loop-test.false c.loop.invariant
