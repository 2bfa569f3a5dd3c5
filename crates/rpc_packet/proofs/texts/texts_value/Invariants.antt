use Rattle.std.proofs.Common.{◌≡◌, ◌++◌, map, reverse, length}
use Rattle.rpc_packet.specs.Packets.{entry_of}
use Rattle.rpc_packet.proofs.texts.texts_value.Given as goal

-- what is left, and what was taken from the last on
abbrev pub invariant-loop-text : goal.invariant-loop-text
invariant-loop-text l = map entry_of l.initial.texts ≡ map entry_of l.texts ++ reverse l.entries.items

abbrev pub decreases-loop-text : goal.decreases-loop-text
decreases-loop-text l = length l.texts
