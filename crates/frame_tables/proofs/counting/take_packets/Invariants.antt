use Rattle.std.proofs.Common.{length}
use Rattle.frame_tables.proofs.counting.take_packets.Given as goal

-- what waits gets shorter
abbrev pub decreases-loop-packet : goal.decreases-loop-packet
decreases-loop-packet l = length l.frames.rest
