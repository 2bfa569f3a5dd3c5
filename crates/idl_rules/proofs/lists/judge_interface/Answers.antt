use Rattle.idl_scene.proofs.FaultLaws.{noted_both}
use Rattle.idl_rules.proofs.lists.judge_interface.Goals as goal

pub returns : goal.returns
returns c = noted_both (rw c.as_slice-funcs.ensures at c.in_ok-judge_names.ensures.found) (rw c.as_slice-funcs.ensures at c.in_ok-judge_all_params.ensures)
