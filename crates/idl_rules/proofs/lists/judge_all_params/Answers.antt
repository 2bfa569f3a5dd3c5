use Rattle.idl_rules.specs.Parts.{param_list}
use Rattle.idl_rules.proofs.LoopLaws.{lists_more}
use Rattle.idl_rules.proofs.lists.judge_all_params.Goals as goal

pub loop-func-preserved : goal.loop-func-preserved
loop-func-preserved c =
    lists_more c.args.funcs.now c.loop-func.func-index c.func-item.result c.loop-func-test.true c.func-item.is c.args.scene.now param_list c.loop-func.invariant c.in_ok-judge_params.ensures
