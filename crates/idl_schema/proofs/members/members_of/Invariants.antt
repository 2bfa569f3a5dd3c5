use Rattle.std.proofs.Common.{◌≡◌, map, take}
use Rattle.idl_schema.specs.SchemaOf as spec
use Rattle.idl_schema.proofs.members.members_of.Given as goal

abbrev pub invariant-loop-tree : goal.invariant-loop-tree
invariant-loop-tree l = l.members.items ≡ spec.in_tag_order (map (spec.member_of l.place) (take l.tree-index l.trees))
