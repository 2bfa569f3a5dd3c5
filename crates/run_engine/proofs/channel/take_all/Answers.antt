use Rattle.run_engine.proofs.Channels.{one_given, all_given, all_taken}
use Rattle.std.proofs.Common.{◌++◌, append-nil, subst}
use Rattle.tars_frames.specs.Feeding.{IsAt}
use Rattle.tars_frames.specs.Streams.{LONGEST}
use Rattle.run_engine.proofs.channel.take_all.Goals as goal

pub loop-packet-preserved : goal.loop-packet-preserved
loop-packet-preserved c = λ stream given at.
    one_given stream given c.loop-packet.packets.items c.push.new.self.items c.in-Some.packet _ c.in_ok-push.ensures.items
    (c.in-Some.ensures.kept stream (given ++ c.loop-packet.packets.items) (c.loop-packet.invariant stream given at))

pub returns-clause-packets : goal.returns-clause-packets
returns-clause-packets c = λ stream given at.
    let all = c.loop-packet.invariant stream given at in
    all_given stream (given ++ c.loop-packet.packets.items) c.loop-packet.frames all (c.in_default.ensures.packet stream (given ++ c.loop-packet.packets.items) all)

pub returns-clause-kept : goal.returns-clause-kept
returns-clause-kept c = λ stream given at.
    let all = c.loop-packet.invariant stream given at in
    all_taken stream (given ++ c.loop-packet.packets.items) _
    (subst (λ packets. IsAt LONGEST stream packets c.next.new.self) (append-nil (given ++ c.loop-packet.packets.items)) (c.in_default.ensures.kept stream (given ++ c.loop-packet.packets.items) all))
    (c.in_default.ensures.packet stream (given ++ c.loop-packet.packets.items) all)
