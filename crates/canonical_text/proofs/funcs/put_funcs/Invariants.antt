use Rattle.std.proofs.Common.{◌≡◌, ◌++◌, drop}
use Rattle.std.specs.List.{flat_map}
use Rattle.canonical_text.specs.Canonical.{func_line}
use Rattle.canonical_text.proofs.funcs.put_funcs.Given as goal

-- the text so far and that of what is left
abbrev pub invariant-loop-func : goal.invariant-loop-func
invariant-loop-func l =
    l.text ++ flat_map (func_line l.schema l.home) (drop l.func-index l.funcs) ≡ l.initial.text ++ flat_map (func_line l.schema l.home) l.funcs
