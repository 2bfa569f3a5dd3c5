use Rattle.std.proofs.Common.{◌≡◌, take}
use Rattle.least_fault.specs.Least.{Notes}
use Rattle.idl_scene.specs.Faults.{is_below}
use Rattle.idl_scene.specs.Literals.{next_number}
use Rattle.idl_rules.specs.Conditions.{enumerator_rules}
use Rattle.idl_rules.specs.JudgeSteps.{found_in}
use Rattle.idl_rules.proofs.enumerators.judge_items.Given as goal

abbrev pub invariant-loop-item : goal.invariant-loop-item
invariant-loop-item l = record {
  next : l.next ≡ next_number l.scene.text (take l.item-index l.items);
  found : Notes is_below l.initial.least l.least (found_in enumerator_rules l.scene (take l.item-index l.items));
}
