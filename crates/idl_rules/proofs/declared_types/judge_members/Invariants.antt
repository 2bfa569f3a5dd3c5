use Rattle.std.proofs.Common.{take}
use Rattle.std.specs.List.{flat_map}
use Rattle.least_fault.specs.Least.{Notes}
use Rattle.idl_scene.specs.Faults.{is_below}
use Rattle.idl_rules.specs.JudgeSteps.{types_faults}
use Rattle.idl_rules.specs.Parts.{member_types}
use Rattle.idl_rules.proofs.declared_types.judge_members.Given as goal

abbrev pub invariant-loop-member : goal.invariant-loop-member
invariant-loop-member l = Notes is_below l.initial.least l.least (types_faults l.scene (flat_map member_types (take l.member-index l.members)))
