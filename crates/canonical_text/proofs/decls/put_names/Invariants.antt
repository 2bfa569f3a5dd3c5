use Rattle.std.proofs.Common.{◌≡◌, ◌++◌, codes, drop}
use Rattle.std.specs.List.{flat_map}
use Rattle.canonical_text.proofs.decls.put_names.Given as goal

-- the text so far and that of what is left
abbrev pub invariant-loop-name : goal.invariant-loop-name
invariant-loop-name l =
    l.text ++ flat_map (λ name. codes ", " ++ name) (drop l.name-index l.names) ≡ l.initial.text ++ flat_map (λ name. codes ", " ++ name) l.names
