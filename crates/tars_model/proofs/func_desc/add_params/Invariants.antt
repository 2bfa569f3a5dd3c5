use Rattle.std.proofs.Common.{◌≡◌, ◌++◌, ◌+◌, drop}
use Rattle.tars_model.specs.Members.{params_from}
use Rattle.tars_model.proofs.func_desc.add_params.Given as goal

-- the members so far and those of what is left
abbrev pub invariant-loop-k : goal.invariant-loop-k
invariant-loop-k l =
    l.members ++ params_from (l.k + 1) l.direction (drop l.k l.params)
    ≡ l.initial.members ++ params_from 1 l.direction l.params
