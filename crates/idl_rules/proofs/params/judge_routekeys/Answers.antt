use Rattle.idl_rules.specs.Parts.{func_params}
use Rattle.idl_rules.proofs.LoopLaws.{params_more}
use Rattle.idl_rules.proofs.params.judge_routekeys.Goals as goal

pub loop-func-preserved : goal.loop-func-preserved
loop-func-preserved c =
    params_more c.args.funcs.now c.loop-func.func-index c.func-item.result c.loop-func-test.true c.func-item.is c.args.scene.now func_params c.loop-func.invariant (rw c.as_slice.ensures at c.judge_params.ensures)
