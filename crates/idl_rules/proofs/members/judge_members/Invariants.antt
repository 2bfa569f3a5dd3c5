use Rattle.std.proofs.Common.{take}
use Rattle.least_fault.specs.Least.{Notes}
use Rattle.idl_scene.specs.Faults.{is_below}
use Rattle.idl_rules.specs.Conditions.{member_rules}
use Rattle.idl_rules.specs.JudgeSteps.{found_in}
use Rattle.idl_rules.specs.PartSteps.{HasSameTags}
use Rattle.idl_rules.proofs.members.judge_members.Given as goal

abbrev pub invariant-loop-member : goal.invariant-loop-member
invariant-loop-member l = record {
  tags : HasSameTags l.scene l.tags.keys (take l.member-index l.members);
  found : Notes is_below l.initial.least l.least (found_in member_rules l.scene (take l.member-index l.members));
}
