use Rattle.std.proofs.Common.{◌<◌, drop}
use Rattle.std.proofs.lemmas.List.Elements.{All-drop, All-from_get_or}
use Rattle.wire_reading.specs.Readings.{AreBytes}
use Rattle.tars_frames.specs.Streams.{LENGTH_BYTES}
use Rattle.rpc_packet.proofs.BodyReads.{values_read, values_refused, after_length}
use Rattle.rpc_packet.proofs.reading.read_values.Goals as goal

pub returns-clause-read : goal.returns-clause-read
returns-clause-read c =
    let packet = c.args.packet.now in
    let are : AreBytes packet = All-from_get_or (λ byte. byte < 256) packet 0 (λ i within. (c.type_inv.packet i).fits) in
    values_read c.args.members.now (drop LENGTH_BYTES packet) c.decode-2.result (All-drop (λ byte. byte < 256) LENGTH_BYTES packet are)
    (rw (c.empty.ensures, after_length packet) at c.decode-2.ensures.reads) (rw (after_length packet) at c.decode-2.ensures.judged)

pub returns-clause-refused : goal.returns-clause-refused
returns-clause-refused c =
    let packet = c.args.packet.now in
    values_refused c.args.members.now (drop LENGTH_BYTES packet) c.decode-2.result
    (rw (c.empty.ensures, after_length packet) at c.decode-2.ensures.reads) (rw (after_length packet) at c.decode-2.ensures.judged)
