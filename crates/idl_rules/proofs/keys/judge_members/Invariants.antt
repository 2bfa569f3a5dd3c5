use Rattle.std.proofs.Common.{take, []}
use Rattle.least_fault.specs.Conditions.{found_after}
use Rattle.least_fault.specs.Least.{Notes}
use Rattle.idl_scene.specs.Faults.{is_below}
use Rattle.idl_scene.specs.Known.{members_of}
use Rattle.idl_scene.specs.KnownSteps.{meant}
use Rattle.idl_rules.specs.Rules.{unknown_member}
use Rattle.idl_rules.proofs.keys.judge_members.Given as goal

abbrev pub invariant-loop-name : goal.invariant-loop-name
invariant-loop-name l = Notes is_below l.initial.least l.least (found_after (unknown_member l.scene (members_of (meant l.meaning))) [] (take l.name-index l.members))
