use Rattle.std.proofs.Common.{take}
use Rattle.std.specs.List.{flat_map}
use Rattle.least_fault.specs.Least.{Notes}
use Rattle.idl_scene.specs.Faults.{is_below}
use Rattle.idl_rules.specs.JudgeSteps.{params_faults}
use Rattle.idl_rules.specs.Parts.{func_params}
use Rattle.idl_rules.proofs.params.judge_routekeys.Given as goal

abbrev pub invariant-loop-func : goal.invariant-loop-func
invariant-loop-func l = Notes is_below l.initial.least l.least (params_faults l.scene (flat_map func_params (take l.func-index l.funcs)))
