use Rattle.std.proofs.Common.{◌≡◌, ◌++◌, drop}
use Rattle.std.specs.List.{flat_map}
use Rattle.canonical_text.specs.Canonical.{item_line}
use Rattle.canonical_text.proofs.members.put_items.Given as goal

-- the text so far and that of what is left
abbrev pub invariant-loop-item : goal.invariant-loop-item
invariant-loop-item l =
    l.text ++ flat_map item_line (drop l.item-index l.items) ≡ l.initial.text ++ flat_map item_line l.items
