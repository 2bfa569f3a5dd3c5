use Rattle.std.proofs.Common.{◌≡◌, true, sym, subst, arith, List, ℕ}
use Rattle.tars_frames.specs.Streams.{LONGEST, IsPacket}
use Rattle.tars_frames.specs.Cutting.{is_length}
use Rattle.tars_frames.proofs.Readings.{no_length, no_room, packet_here}
use Rattle.tars_frames.proofs.cutting.first_packet.Goals.{then-not-is_length-via-then-not-is_length, then-not-is_length-via-else-not-is_length+then-bytes-length}
use Rattle.tars_frames.proofs.cutting.first_packet.Goals as goal

pub returns-then-not-is_length : goal.returns-then-not-is_length
returns-then-not-is_length c = elim c.then-not-is_length.branch [
  | then-not-is_length-via-then-not-is_length w ↦
      no_length LONGEST c.args.bytes.now c.in_ok-length.length c.in_ok-length.ensures.1 (sym w.if-not-is_length.ensures)
  | then-not-is_length-via-else-not-is_length+then-bytes-length w ↦
      no_room LONGEST c.args.bytes.now c.in_ok-length.length c.in_ok-length.ensures.1 (omega (arith, w.if-bytes-length))
]

pub returns : goal.returns
returns c =
    let good : is_length LONGEST c.in_ok-length.length ≡ true = sym c.if-not-is_length.ensures in (
      subst (λ (s : List ℕ). IsPacket LONGEST s) (sym c.split_at.ensures.front)
          (packet_here LONGEST c.args.bytes.now c.in_ok-length.length c.in_ok-length.ensures.1 good c.if-bytes-length.false),
      c.split_at.ensures.by_index.0,
    )
