use Rattle.tars_frames.proofs.Cuts.{cut_first, cut_added, cut_done, shorter}
use Rattle.tars_frames.proofs.cutting.cut.Goals as goal

pub loop-packet-init : goal.loop-packet-init
loop-packet-init c = cut_first c.args.bytes.now c.new-packets.result.items c.new-packets.ensures.items

pub loop-packet-smaller : goal.loop-packet-smaller
loop-packet-smaller c = shorter c.loop-packet.rest.now c.in-Some.packet.now c.in-Some.after.now c.in-Some.ensures.0 c.in-Some.ensures.1

pub loop-packet-preserved : goal.loop-packet-preserved
loop-packet-preserved c =
    cut_added c.args.bytes.now c.loop-packet.rest.now c.in-Some.packet.now c.in-Some.after.now c.in_ok-from_slice.field-0
    c.loop-packet.packets.items c.push_back.new.self.items c.loop-packet.invariant
    c.in-Some.ensures.0 c.in-Some.ensures.1 c.in_ok-from_slice.ensures c.in_ok-push_back.ensures.items

pub returns : goal.returns
returns c = cut_done c.args.bytes.now c.loop-packet.rest.now c.loop-packet.packets.items c.loop-packet.invariant c.in_default.ensures
