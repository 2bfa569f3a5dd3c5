use Rattle.tars_frames.proofs.Readings.{framed_is_packet as a_packet}
use Rattle.tars_frames.proofs.laws.framed_is_packet.Goals as goal

pub returns : goal.returns
returns c = a_packet
