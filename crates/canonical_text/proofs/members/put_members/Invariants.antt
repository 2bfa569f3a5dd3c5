use Rattle.std.proofs.Common.{◌≡◌, ◌++◌, drop}
use Rattle.std.specs.List.{flat_map}
use Rattle.canonical_text.specs.Canonical.{member_line}
use Rattle.canonical_text.proofs.members.put_members.Given as goal

-- the text so far and that of what is left
abbrev pub invariant-loop-member : goal.invariant-loop-member
invariant-loop-member l =
    l.text ++ flat_map (member_line l.schema l.home) (drop l.member-index l.members) ≡ l.initial.text ++ flat_map (member_line l.schema l.home) l.members
