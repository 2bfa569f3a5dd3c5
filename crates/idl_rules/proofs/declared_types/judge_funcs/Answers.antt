use Rattle.idl_rules.specs.Parts.{func_types}
use Rattle.idl_rules.proofs.LoopLaws.{types_more}
use Rattle.idl_rules.proofs.declared_types.judge_funcs.Goals as goal

pub loop-func-preserved : goal.loop-func-preserved
loop-func-preserved c =
    types_more c.args.funcs.now c.loop-func.func-index c.func-item.result c.loop-func-test.true c.func-item.is c.args.scene.now func_types c.loop-func.invariant c.judge_func.ensures
