use Rattle.std.proofs.Common.{◌≡◌, ◌++◌, codes, drop}
use Rattle.std.specs.List.{flat_map}
use Rattle.canonical_text.specs.Canonical.{param_text}
use Rattle.canonical_text.proofs.funcs.put_others.Given as goal

-- the text so far and that of what is left
abbrev pub invariant-loop-param : goal.invariant-loop-param
invariant-loop-param l =
    l.text ++ flat_map (λ p. codes ", " ++ param_text l.schema l.home p) (drop l.param-index l.params) ≡ l.initial.text ++ flat_map (λ p. codes ", " ++ param_text l.schema l.home p) l.params
