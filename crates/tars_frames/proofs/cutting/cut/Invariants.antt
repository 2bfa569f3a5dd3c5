use Rattle.std.proofs.Common.{length}
use Rattle.tars_frames.proofs.Cuts.{IsCutSoFar}
use Rattle.tars_frames.proofs.cutting.cut.Given as goal

-- the packets so far, joined, and the rest are the bytes
abbrev pub invariant-loop-packet : goal.invariant-loop-packet
invariant-loop-packet l = IsCutSoFar l.bytes l.packets.items l.rest

abbrev pub decreases-loop-packet : goal.decreases-loop-packet
decreases-loop-packet l = length l.rest
