use Rattle.idl_scene.proofs.FaultLaws.{noted_both, noted_nothing}
use Rattle.idl_rules.specs.JudgeSteps.{param_faults}
use Rattle.idl_rules.proofs.LoopLaws.{flat_more}
use Rattle.idl_rules.proofs.params.judge_params.Goals as goal

pub loop-param-preserved : goal.loop-param-preserved
loop-param-preserved c =
    flat_more c.args.params.now c.loop-param.param-index c.param-item.result c.loop-param-test.true c.param-item.is (param_faults c.args.scene.now) c.loop-param.invariant (noted_both c.note_left_out.ensures (noted_nothing _))
