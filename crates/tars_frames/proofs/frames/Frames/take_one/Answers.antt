use Rattle.tars_frames.proofs.Cuts.{cut_given, given_takes}
use Rattle.std.proofs.Common.{◌+◌, ap, ◌∙◌, drop, length}
use Rattle.tars_frames.proofs.frames.Frames.take_one.Goals as goal

pub invariant_of-self-2 : goal.invariant_of-self-2
invariant_of-self-2 c =
    cut_given c.self.inside.bytes.items c.in_ok-packet.packet c.bytes-length.result.now c.self.inside.start c.self.inside.end
    c.self.inside.packets.items c.pop_front.new.self.items c.self.invariant c.in_ok-packet.ensures.items c.bytes-length.ensures.value

pub returns : goal.returns
returns c =
    given_takes c.self.inside.bytes.items c.in_ok-packet.packet c.bytes-length.result.now c.self.inside.start c.self.inside.end c.self.inside.place
    c.self.inside.packets.items c.pop_front.new.self.items c.args.self.now c.let_go.new.self c.self.invariant
    c.in_ok-packet.ensures.items c.bytes-length.ensures.value c.bytes-length.ensures.whole c.self.view_is
    (c.let_go.ensures ∙ ap (λ n. record { rest = drop (c.self.inside.start + length c.bytes-length.result.now) c.self.inside.bytes.items; place = n })
    c.saturating_add-self-inside.ensures)
