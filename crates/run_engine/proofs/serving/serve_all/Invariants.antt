use Rattle.std.proofs.Common.{ℕ, drop}
use Rattle.std.specs.Prelude.{filter_map, fold}
use Rattle.rpc_packet.specs.Packets.{read_request}
use Rattle.run_course.specs.Nodes.{Node, offers}
use Rattle.run_engine.specs.Tracks.{TracksSide}
use Rattle.run_engine.proofs.Nodes.{Leads}
use Rattle.run_engine.proofs.serving.serve_all.Given as goal

-- what is left leads where all leads
abbrev pub invariant-loop-packet : goal.invariant-loop-packet
invariant-loop-packet l =
    (n : Node) (at : ℕ) → TracksSide l.service l.initial.node l.initial.to_caller n at
    → Leads l.service l.now l.node l.to_caller at (drop l.packet-index l.news) (fold (offers l.service l.now) n (filter_map read_request l.news))
