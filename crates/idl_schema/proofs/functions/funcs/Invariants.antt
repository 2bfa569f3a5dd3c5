use Rattle.std.proofs.Common.{◌≡◌, map, take}
use Rattle.idl_schema.specs.SchemaOf.{func_of}
use Rattle.idl_schema.proofs.functions.funcs.Given as goal

abbrev pub invariant-loop-tree : goal.invariant-loop-tree
invariant-loop-tree l = l.funcs ≡ map (func_of l.place) (take l.tree-index l.trees)
