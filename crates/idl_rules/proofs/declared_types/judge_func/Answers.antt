use Rattle.std.proofs.lemmas.Grind.{flat_map-append}
use Rattle.idl_scene.proofs.FaultLaws.{noted_both}
use Rattle.idl_rules.specs.JudgeSteps.{type_faults}
use Rattle.idl_rules.proofs.declared_types.judge_func.Goals as goal

pub returns : goal.returns
returns c =
    rw (flat_map-append (type_faults c.args.scene.now)) (noted_both c.judge_returned.ensures (rw c.as_slice.ensures at c.judge_params.ensures))
