use Rattle.std.proofs.Common.{◌<◌, length, arith}
use Rattle.std.proofs.lemmas.Result.{err_from_is_err_and}
use Rattle.tars_wire.specs.declared.head_context.HeadContext.TheVariants as heads
use Rattle.tars_wire.specs.Heads.{MAX_DEPTH}
use Rattle.tars_wire.specs.ScanSteps.{body_at}
use Rattle.tars_wire.proofs.Scanning.Remainders.{head_shorter, contents_not_longer}
use Rattle.tars_wire.proofs.Scanning.Loops.{body_done, body_head_fails, body_contents_fail, body_on}
use Rattle.tars_wire.proofs.scanner.body.past_body.Goals as goal

pub returns-in_err-head : goal.returns-in_err-head
returns-in_err-head c =
    let p = err_from_is_err_and c.from_residual.result c.from_residual.ensures.1 in
    let some : 0 < length c.loop-rest.rest.now = grind arith in
    rw (p.1, p.2) (body_head_fails c.loop-rest.from c.loop-rest.rest.now (body_at 0 c.args.bytes.now) c.loop-rest.invariant c.in_err-head.field-0.0 some c.in_err-head.ensures.read)

pub returns-in_err-rest : goal.returns-in_err-rest
returns-in_err-rest c =
    let p = err_from_is_err_and c.from_residual-in_err-rest.result c.from_residual-in_err-rest.ensures.1 in
    let some : 0 < length c.loop-rest.rest.now = grind arith in
    rw (p.1, p.2) (body_contents_fail c.loop-rest.from c.loop-rest.rest.now (body_at 0 c.args.bytes.now) c.loop-rest.invariant c.in_ok-head.head c.in_ok-head.after.now c.in_err-rest.field-0.0 some c.in_ok-head.ensures.read c.in_err-rest.ensures)

pub loop-rest-smaller : goal.loop-rest-smaller
loop-rest-smaller c =
    let a = head_shorter (heads.Body c.loop-rest.from) c.loop-rest.rest.now c.in_ok-head.after.now c.in_ok-head.head c.in_ok-head.ensures.read in
    let b = contents_not_longer MAX_DEPTH c.in_ok-head.head.kind c.in_ok-head.after.now c.in_ok-rest.rest.now c.in_ok-rest.ensures in
    omega arith

pub loop-rest-preserved : goal.loop-rest-preserved
loop-rest-preserved c =
    let some : 0 < length c.loop-rest.rest.now = grind arith in
    rw c.from-from.ensures (body_on c.loop-rest.from c.loop-rest.rest.now (body_at 0 c.args.bytes.now) c.loop-rest.invariant c.in_ok-head.head c.in_ok-head.after.now c.in_ok-rest.rest.now some c.in_ok-head.ensures.read c.in_ok-rest.ensures)

pub returns : goal.returns
returns c = body_done c.loop-rest.from c.loop-rest.rest.now (body_at 0 c.args.bytes.now) c.loop-rest.invariant (grind arith)
