use Rattle.std.proofs.Common.{map, take}
use Rattle.least_fault.specs.Least.{Notes}
use Rattle.idl_scene.specs.Faults.{is_below}
use Rattle.idl_rules.specs.JudgeSteps.{lists_faults}
use Rattle.idl_rules.specs.Parts.{param_list}
use Rattle.idl_rules.proofs.lists.judge_all_params.Given as goal

abbrev pub invariant-loop-func : goal.invariant-loop-func
invariant-loop-func l = Notes is_below l.initial.least l.least (lists_faults l.scene (map param_list (take l.func-index l.funcs)))
