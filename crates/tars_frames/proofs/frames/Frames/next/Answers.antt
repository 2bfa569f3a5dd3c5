use Rattle.tars_frames.specs.Streams.{LONGEST}
use Rattle.tars_frames.proofs.Histories.{next_packet, next_taken}
use Rattle.tars_frames.proofs.frames.Frames.next.Goals as goal

pub returns-clause-packet : goal.returns-clause-packet
returns-clause-packet c = next_packet LONGEST c.args.self.now c.take_one.new.self c.take_one.result c.take_one.ensures

pub returns-clause-taken : goal.returns-clause-taken
returns-clause-taken c = next_taken LONGEST c.args.self.now c.take_one.new.self c.take_one.result c.take_one.ensures
