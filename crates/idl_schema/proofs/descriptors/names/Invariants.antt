use Rattle.std.proofs.Common.{◌≡◌, map, take}
use Rattle.idl_scene.specs.Items.{word}
use Rattle.idl_schema.proofs.descriptors.names.Given as goal

abbrev pub invariant-loop-span : goal.invariant-loop-span
invariant-loop-span l = l.names ≡ map (word l.place.text) (take l.span-index l.spans)
