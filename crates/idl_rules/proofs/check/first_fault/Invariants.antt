use Rattle.std.proofs.Common.{◌≡◌, map, take, drop}
use Rattle.idl_scene.specs.Items.{items_from, items_of, name_of}
use Rattle.idl_rules.specs.JudgeSteps.{judged_of, judged_after, judged_first}
use Rattle.idl_rules.proofs.check.first_fault.Given as goal

-- what is left is judged after what was judged
abbrev pub invariant-loop-number : goal.invariant-loop-number
invariant-loop-number l =
    judged_after (judged_of l.walk) (items_from l.number (map name_of (take l.number l.files)) (drop l.number l.files)) ≡ judged_after judged_first (items_of l.files)
