use Rattle.std.proofs.Common.{◌≡◌, take}
use Rattle.idl_scene.specs.Structs.{deepest}
use Rattle.idl_scene.proofs.structs.deepest.Given as goal

abbrev pub invariant-loop-member : goal.invariant-loop-member
invariant-loop-member l = l.depth ≡ deepest l.scene (take l.member-index l.members)
