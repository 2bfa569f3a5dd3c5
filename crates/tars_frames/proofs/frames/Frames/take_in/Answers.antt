use Rattle.std.proofs.Common.{sym, ap, ◌∙◌, drop, length}
use Rattle.tars_frames.proofs.Cuts.{cut_taken}
use Rattle.tars_frames.proofs.frames.Frames.take_in.Goals as goal

pub invariant_of-self-in-Ok : goal.invariant_of-self-in-Ok
invariant_of-self-in-Ok c =
    cut_taken c.self.inside.bytes.items c.args.piece.now c.extend_from_slice.new.self.items c.split_at.result.1.now c.self.inside.start
    c.self.inside.end c.len.result c.in-Ok.left c.self.inside.packets.items c.add_packets.new.waiting.items c.self.invariant
    c.in_ok-extend_from_slice.ensures.items
    (c.split_at.ensures.back ∙ ap (λ s. drop c.self.inside.end s) c.deref.ensures.value)
    (c.len.ensures ∙ sym c.deref.ensures.len ∙ ap length c.deref.ensures.value)
    c.in-Ok.ensures
