use Rattle.std.proofs.Common.{◌≡◌, ◌++◌, List, ℕ, sym, subst, ◌∙◌, ap, w32}
use Rattle.std.proofs.lemmas.Int.{to_z-of_z}
use Rattle.tars_frames.specs.Streams.{IsPacket, LONGEST, framed}
use Rattle.rpc_packet.specs.Packets.{request_frame}
use Rattle.rpc_packet.specs.Prepared.{with_both}
use Rattle.rpc_packet.proofs.Within.{filled_packet}
use Rattle.rpc_packet.specs.FrameParts.{id_field, timeout_field}
use Rattle.rpc_packet.proofs.FrameSplit.{room_for, filled_is}
use Rattle.rpc_packet.proofs.frame.Frame.with_id.Goals as goal

pub filled-requires : goal.filled-requires
filled-requires c =
    let kept = c.self.invariant in
    room_for c.self.inside.longest c.self.inside.id_at c.self.inside.timeout_at kept.0
    c.parts.result.0.now c.as_slice-2.result.now c.parts.result.1.now c.as_slice-3.result.now c.parts.result.2.now
    (rw c.as_slice.ensures at c.parts.ensures.front) (rw c.as_slice.ensures at c.parts.ensures.middle) (rw c.as_slice.ensures at c.parts.ensures.tail)
    c.self.inside.room c.as_slice-2.ensures.few c.as_slice-3.ensures.few kept.1 kept.2

module _ (c : goal.After-drop-longest-inside) where
  body_is : framed (c.parts.result.0.now ++ (c.as_slice-2.result.now ++ (c.parts.result.1.now ++ (c.as_slice-3.result.now ++ c.parts.result.2.now))))
      ≡ request_frame (with_both c.args.id c.args.timeout c.args.self)
  body_is =
      filled_is c.self.inside.longest c.self.inside.id_at c.self.inside.timeout_at c.self.invariant.0
      c.parts.result.0.now c.as_slice-2.result.now c.parts.result.1.now c.as_slice-3.result.now c.parts.result.2.now
      (rw c.as_slice.ensures at c.parts.ensures.front) (rw c.as_slice.ensures at c.parts.ensures.middle) (rw c.as_slice.ensures at c.parts.ensures.tail)
      c.args.self c.args.id c.args.timeout c.self.view_is
      (c.as_slice-2.ensures.value ∙ c.new-id.ensures ∙ ap id_field (to_z-of_z w32 c.args.id c.ranges.id))
      (c.as_slice-3.ensures.value ∙ c.new-timeout.ensures ∙ ap timeout_field (to_z-of_z w32 c.args.timeout c.ranges.timeout))

pub returns-clause-frame : goal.returns-clause-frame
returns-clause-frame c = c.filled.ensures ∙ body_is c

pub returns-clause-packet : goal.returns-clause-packet
returns-clause-packet c =
    subst (λ (frame : List ℕ). IsPacket LONGEST frame) (sym (returns-clause-frame c))
    (filled_packet (c.parts.result.0.now ++ (c.as_slice-2.result.now ++ (c.parts.result.1.now ++ (c.as_slice-3.result.now ++ c.parts.result.2.now))))
    (with_both c.args.id c.args.timeout c.args.self) (body_is c) (filled-requires c.before.before).within)
