use Rattle.std.proofs.Common.{◌∙◌, refl}
use Rattle.rpc_packet.proofs.FrameSplit.{six_put, five_framed}
use Rattle.rpc_packet.proofs.filling.filled.Goals as goal

pub returns : goal.returns
returns c =
    c.from_vec.ensures
    ∙ (six_put c.args.room.items c.put.new.out.items c.put-2.new.out.items c.put-3.new.out.items c.put-4.new.out.items c.put-5.new.out.items c.put-6.new.out.items
    c.to_be_bytes.result c.args.front.now c.args.id.now c.args.middle.now c.args.timeout.now c.args.tail.now
    c.requires.empty.items c.put.ensures.items c.put-2.ensures.items c.put-3.ensures.items c.put-4.ensures.items c.put-5.ensures.items c.put-6.ensures.items
    ∙ five_framed c.to_be_bytes.result c.args.front.now c.args.id.now c.args.middle.now c.args.timeout.now c.args.tail.now _ c.to_be_bytes.ensures refl)
