use Rattle.std.proofs.lemmas.Result.{err_from_is_err_and}
use Rattle.value_text.specs.ReadSteps.{units_at}
use Rattle.value_text.proofs.Loops.{units_go_on, units_fail, units_end, units_run_out}
use Rattle.value_text.proofs.texts.units.Goals as goal

pub returns-in_err-byte : goal.returns-in_err-byte
returns-in_err-byte c =
    let p = err_from_is_err_and c.from_residual.result c.from_residual.ensures.1 in
    rw (p.1, p.2) (units_fail c.args.form c.loop.bytes.items c.args.most c.loop.counter c.loop.cursor (units_at c.args.form c.args.most c.args.cursor.now) c.loop.invariant c.in_err-byte.field-0.0 c.unit.new.cursor c.loop-test.true c.in_err-byte.ensures)

pub returns-in-None : goal.returns-in-None
returns-in-None c =
    units_end c.args.form c.loop.bytes.items c.args.most c.loop.counter c.loop.cursor (units_at c.args.form c.args.most c.args.cursor.now) c.loop.invariant c.unit.new.cursor c.loop-test.true (rw (← c.in-None.is) c.in_ok-byte.ensures)

pub loop-preserved : goal.loop-preserved
loop-preserved c =
    rw c.in_ok-add-in-Some.ensures (units_go_on c.args.form c.loop.bytes.items c.args.most c.loop.counter c.loop.cursor (units_at c.args.form c.args.most c.args.cursor.now) c.loop.invariant c.in-Some.byte c.unit.new.cursor c.loop-test.true (rw (← c.in-Some.is) c.in_ok-byte.ensures))

pub returns : goal.returns
returns c =
    rw c.unexpected.ensures (units_run_out c.args.form c.loop.bytes.items c.args.most c.loop.counter c.loop.cursor (units_at c.args.form c.args.most c.args.cursor.now) c.loop.invariant c.loop-test.false)
