use Rattle.idl_scene.proofs.FaultLaws.{noted_nothing, noted_both}
use Rattle.idl_rules.proofs.lists.judge_enum.Goals as goal

pub returns-clause-found : goal.returns-clause-found
returns-clause-found c = noted_both (rw c.as_slice-items.ensures at c.in_ok-names.ensures.found) (noted_nothing _)
