use Rattle.std.proofs.Common.{◌≡◌, ◌++◌, map, reverse, length}
use Rattle.rpc_packet.specs.Packets.{text_pair}
use Rattle.rpc_packet.proofs.texts.into_pairs.Given as goal

-- what is left, and what was taken from the last on
abbrev pub invariant-loop-entry : goal.invariant-loop-entry
invariant-loop-entry l = map text_pair l.initial.entries ≡ map text_pair l.entries ++ reverse l.texts.items

abbrev pub decreases-loop-entry : goal.decreases-loop-entry
decreases-loop-entry l = length l.entries
