use Rattle.std.proofs.Common.{◌<◌, ◌≤◌, ◌+◌, arith, sym}
use Rattle.std.proofs.lemmas.Result.{err_from_is_err_and}
use Rattle.tars_decode.specs.declared.seeking.Turn.TheVariants.{Ends, GoesOn}
use Rattle.tars_decode.specs.ReadingSteps.{past_at, turn_at, seek_at}
use Rattle.tars_decode.proofs.Loops.{turn_fails, turn_gives, turns_end}
use Rattle.tars_decode.proofs.LoopSteps.{seek_next, seek_more, finds_none, seek_none}
use Rattle.tars_decode.proofs.seeking.seek.Goals as goal

pub returns-in_err-found : goal.returns-in_err-found
returns-in_err-found c =
    let p = err_from_is_err_and c.from_residual.result c.from_residual.ensures.1 in
    let lt : c.loop.counter < c.args.tag + 1 = omega arith in
    rw (p.1, p.2) (turn_fails (seek_at (past_at c.args.room) c.args.tag) (turn_at (past_at c.args.room) c.args.tag) seek_next (seek_more (past_at c.args.room) c.args.tag) (c.args.tag + 1) c.loop.counter c.loop.rest.now c.in_err-found.field-0.0 (seek_at (past_at c.args.room) c.args.tag (c.args.tag + 1) c.args.bytes.now) lt c.in_err-found.ensures c.loop.invariant)

pub returns-in-Ends-default : goal.returns-in-Ends-default
returns-in-Ends-default c =
    let lt : c.loop.counter < c.args.tag + 1 = omega arith in
    let e = turn_gives (seek_at (past_at c.args.room) c.args.tag) (turn_at (past_at c.args.room) c.args.tag) seek_next (seek_more (past_at c.args.room) c.args.tag) (c.args.tag + 1) c.loop.counter c.loop.rest.now (Ends c.in-Ends-default.found, c.in_ok-found.field-0.1.now) (seek_at (past_at c.args.room) c.args.tag (c.args.tag + 1) c.args.bytes.now) lt (rw c.in-Ends-default.is-0 at c.in_ok-found.ensures) c.loop.invariant in
    sym e

pub loop-preserved : goal.loop-preserved
loop-preserved c =
    let lt : c.loop.counter < c.args.tag + 1 = omega arith in
    turn_gives (seek_at (past_at c.args.room) c.args.tag) (turn_at (past_at c.args.room) c.args.tag) seek_next (seek_more (past_at c.args.room) c.args.tag) (c.args.tag + 1) c.loop.counter c.loop.rest.now (GoesOn, c.in_ok-found.field-0.1.now) (seek_at (past_at c.args.room) c.args.tag (c.args.tag + 1) c.args.bytes.now) lt (rw c.in-GoesOn-default.is-0 at c.in_ok-found.ensures) c.loop.invariant

pub returns : goal.returns
returns c =
    let le : c.args.tag + 1 ≤ c.loop.counter = omega arith in
    turns_end (seek_at (past_at c.args.room) c.args.tag) (turn_at (past_at c.args.room) c.args.tag) seek_next (seek_more (past_at c.args.room) c.args.tag) finds_none (seek_none (past_at c.args.room) c.args.tag) (c.args.tag + 1) c.loop.counter c.loop.rest.now (seek_at (past_at c.args.room) c.args.tag (c.args.tag + 1) c.args.bytes.now) le c.loop.invariant
