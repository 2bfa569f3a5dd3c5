use Rattle.std.proofs.Common.{◌≡◌, map, take}
use Rattle.std.specs.List.{flat_map}
use Rattle.idl_scene.specs.Items.{entry_items, name_of}
use Rattle.idl_rules.specs.JudgeSteps.{judged_of, judged_after}
use Rattle.idl_rules.proofs.walk.Walk.file.Given as goal

abbrev pub invariant-loop-entry : goal.invariant-loop-entry
invariant-loop-entry l = judged_of l.self ≡ judged_after (judged_of l.initial.self) (flat_map (entry_items l.file l.text (map name_of l.earlier)) (take l.entry-index l.entry-items))
