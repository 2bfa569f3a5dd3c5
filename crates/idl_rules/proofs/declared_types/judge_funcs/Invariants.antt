use Rattle.std.proofs.Common.{take}
use Rattle.std.specs.List.{flat_map}
use Rattle.least_fault.specs.Least.{Notes}
use Rattle.idl_scene.specs.Faults.{is_below}
use Rattle.idl_rules.specs.JudgeSteps.{types_faults}
use Rattle.idl_rules.specs.Parts.{func_types}
use Rattle.idl_rules.proofs.declared_types.judge_funcs.Given as goal

abbrev pub invariant-loop-func : goal.invariant-loop-func
invariant-loop-func l = Notes is_below l.initial.least l.least (types_faults l.scene (flat_map func_types (take l.func-index l.funcs)))
