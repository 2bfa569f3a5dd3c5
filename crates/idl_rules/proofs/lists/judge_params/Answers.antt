use Rattle.idl_rules.proofs.lists.judge_params.Goals as goal

pub returns : goal.returns
returns c = rw c.as_slice-params.ensures at c.in_ok-judge_names.ensures.found
