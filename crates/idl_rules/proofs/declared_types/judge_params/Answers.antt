use Rattle.idl_rules.specs.Parts.{param_types}
use Rattle.idl_rules.proofs.LoopLaws.{types_more}
use Rattle.idl_rules.proofs.declared_types.judge_params.Goals as goal

pub loop-param-preserved : goal.loop-param-preserved
loop-param-preserved c =
    types_more c.args.params.now c.loop-param.param-index c.param-item.result c.loop-param-test.true c.param-item.is c.args.scene.now param_types c.loop-param.invariant c.judge_type.ensures
