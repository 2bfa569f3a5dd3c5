use Rattle.idl_scene.proofs.FaultLaws.{noted_both, noted_nothing}
use Rattle.idl_rules.proofs.walk.judge.Goals as goal

pub returns-clause-found : goal.returns-clause-found
returns-clause-found c =
    noted_both (noted_both c.judge_declaration.ensures (noted_nothing _))
    (noted_both c.judge_types.ensures (noted_both c.in_ok-meaning.ensures.found c.in_ok-judge_parts.ensures))
