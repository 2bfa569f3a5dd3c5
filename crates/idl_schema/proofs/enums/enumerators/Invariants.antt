use Rattle.std.proofs.Common.{◌≡◌, take, []}
use Rattle.idl_scene.specs.Literals.{next_number}
use Rattle.idl_schema.specs.SchemaOf.{items_after}
use Rattle.idl_schema.proofs.enums.enumerators.Given as goal

abbrev pub invariant-loop-tree : goal.invariant-loop-tree
invariant-loop-tree l = record {
  made : l.items ≡ items_after l.place.text [] (take l.tree-index l.trees);
  numbered : l.next ≡ next_number l.place.text (take l.tree-index l.trees);
}
