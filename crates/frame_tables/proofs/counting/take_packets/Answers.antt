use Rattle.tars_frames.proofs.CallerLemmas.{shorter}
use Rattle.frame_tables.proofs.counting.take_packets.Goals as goal

pub loop-packet-smaller : goal.loop-packet-smaller
loop-packet-smaller c =
    shorter c.loop-packet.frames.rest c.in-Some._packet c.next.new.self.rest c.in-Some.ensures.taken.0 c.in-Some.ensures.taken.1
