use Rattle.std.proofs.Common.{◌≡◌, ◌++◌, None, drop}
use Rattle.std.specs.Option.{option_map}
use Rattle.canonical_text.specs.Canonical.{blocks}
use Rattle.canonical_text.proofs.blocks.put_blocks.Given as goal

-- the text so far and that of what is left
abbrev pub invariant-loop-decl : goal.invariant-loop-decl
invariant-loop-decl l =
    l.text ++ blocks l.schema (option_map (λ b. b.now) l.block) (drop l.decl-index l.schema.order) ≡ l.initial.text ++ blocks l.schema None l.schema.order
