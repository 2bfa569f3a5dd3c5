use Rattle.std.proofs.Common.{take}
use Rattle.least_fault.specs.Least.{Notes}
use Rattle.idl_scene.specs.Faults.{is_below}
use Rattle.idl_rules.specs.JudgeSteps.{params_faults}
use Rattle.idl_rules.proofs.params.judge_params.Given as goal

abbrev pub invariant-loop-param : goal.invariant-loop-param
invariant-loop-param l = Notes is_below l.initial.least l.least (params_faults l.scene (take l.param-index l.params))
