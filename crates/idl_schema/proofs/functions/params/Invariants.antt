use Rattle.std.proofs.Common.{◌≡◌, map, take}
use Rattle.idl_schema.specs.SchemaOf.{param_of}
use Rattle.idl_schema.proofs.functions.params.Given as goal

abbrev pub invariant-loop-tree : goal.invariant-loop-tree
invariant-loop-tree l = l.params ≡ map (param_of l.place) (take l.tree-index l.trees)
