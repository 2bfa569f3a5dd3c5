use Rattle.std.proofs.Common.{◌≡◌, map, take}
use Rattle.idl_scene.specs.Items.{declared_item}
use Rattle.idl_rules.specs.JudgeSteps.{judged_of, judged_after}
use Rattle.idl_rules.proofs.walk.Walk.declarations.Given as goal

abbrev pub invariant-loop-decl : goal.invariant-loop-decl
invariant-loop-decl l = judged_of l.self ≡ judged_after (judged_of l.initial.self) (map (declared_item l.file l.text l.home) (take l.decl-index l.decls))
