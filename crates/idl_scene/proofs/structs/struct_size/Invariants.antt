use Rattle.std.proofs.Common.{◌≡◌, take}
use Rattle.idl_scene.specs.Structs.{struct_size}
use Rattle.idl_scene.proofs.structs.struct_size.Given as goal

abbrev pub invariant-loop-member : goal.invariant-loop-member
invariant-loop-member l = l.size ≡ struct_size l.scene (take l.member-index l.members)
