-- Worked rows of docs/SCRIPTS.md, "Events", and docs/PROTOCOL.md, "Packets" and "Adapters' queues".
use Rattle.std.proofs.Common.{◌≡◌, ◌+◌, ℕ, pos, true, false, List, [], ◌∷◌, ◌++◌, Some, None, refl}
use Rattle.std.proofs.lemmas.List.{append-nil}
use Rattle.std.specs.Prelude.{slice_get}
use Rattle.script_session.specs.Sessions.{live_node, node_of}
use Rattle.script_session.specs.declared.link_log.GotFate.TheVariants.{Used, Late}
use Rattle.script_session.specs.declared.session.CallSpec.{CallSpec}
use Rattle.script_session.specs.declared.session.Event.TheVariants.{Call, Close}
use Rattle.script_session.specs.declared.report.Refusal.TheVariants as refusal
use Rattle.tars_frames.specs.Streams.{first_length}
use Rattle.tars_frames.specs.Cutting.{packets_of, has_packet, is_length}
use Rattle.rpc_packet.specs.Packets.{read_response}
use Rattle.rpc_packet.specs.declared.request.Request.{Request}
use Rattle.rpc_packet.specs.declared.response.Response.{Response}
use Rattle.servant_core.specs.Answers.{OVERLOAD, unseen}
use Rattle.script_session.specs.declared.session.Session.{Session}
use Rattle.run_course.specs.Nodes.{Node, fresh, frames_of, offers, works}
use Rattle.run_course.specs.Courses.{closed, Life, opened, Desk, unused, called, came, refused_call, after_all}
use Rattle.run_course.specs.Legal.{overload_of, taken_of, overload_frames, taken_frames}

-- two packets in a stream, and two bytes of a third
pub two_packets : packets_of 100 (0 ∷ 0 ∷ 0 ∷ 5 ∷ 11 ∷ 0 ∷ 0 ∷ 0 ∷ 6 ∷ 1 ∷ 2 ∷ 0 ∷ 0 ∷ []) ≡ (0 ∷ 0 ∷ 0 ∷ 5 ∷ 11 ∷ []) ∷ (0 ∷ 0 ∷ 0 ∷ 6 ∷ 1 ∷ 2 ∷ []) ∷ []
unfolding packets_of has_packet is_length first_length
two_packets = refl

abbrev a_call : ℕ → CallSpec
a_call n = record { call = n; line = 1; func = 0; two_way = true; begin = false; key = 0; args = [] }

abbrev a_life : Session → Life
a_life s = record { id = 1; node = 1; deadline = 0 + (node_of s).timeout; fate = None; collected = false }

-- a close ends the call before it and refuses the call after it
pub a_close : (s : Session) → (after_all s (Call (a_call 1) ∷ Close ∷ Call (a_call 2) ∷ [])).calls
    ≡ record { spec = a_call 1; pick = live_node; stage = opened (record (a_life s) { fate = Some closed }) }
    ∷ refused_call (a_call 2) live_node (refusal.Closed 0) ∷ []
unfolding called
a_close s = refl

-- the ninth call of a line is refused as full
pub a_ninth : (s : Session) → slice_get (after_all s (Call (a_call 1) ∷ Call (a_call 2) ∷ Call (a_call 3) ∷ Call (a_call 4) ∷ Call (a_call 5) ∷ Call (a_call 6)
    ∷ Call (a_call 7) ∷ Call (a_call 8) ∷ Call (a_call 9) ∷ [])).calls 8 ≡ Some (refused_call (a_call 9) None refusal.Full)
unfolding called
a_ninth s = refl

-- of two packets for one call the first is used, and the second is late
abbrev a_desk : Session → Desk
a_desk s = record { calls = record { spec = a_call 1; pick = live_node; stage = opened (a_life s) } ∷ []; link = unused }

pub twice : (s : Session) (packet : List ℕ) (r : Response) → read_response packet ≡ Some (record r { id = pos 1 })
    → (came s 1 (came s 1 (a_desk s) packet) packet).link.got
    ≡ record { packet = packet; fate = Used (record { 0 = 1 }) } ∷ record { packet = packet; fate = Late 0 } ∷ []
unfolding came
twice s packet r e = rw e refl

-- a queue of one has room for the first of two requests, and the second is answered at once
pub a_full_queue : (s : Session) (first second : Request) → s.queue ≡ 1 → offers s 0 (offers s 0 fresh first) second
    ≡ record {
      offered = record { request = first; moment = 0; has_room = true } ∷ record { request = second; moment = 0; has_room = false } ∷ [];
      taken = [];
      answers = frames_of (unseen second OVERLOAD);
    }
unfolding offers
a_full_queue s first second e = rw e refl

-- the first is taken then, and its answer follows
pub a_late_answer : (s : Session) (first second : Request) → s.queue ≡ 1
    → (let node : Node = works s 0 (offers s 0 (offers s 0 fresh first) second) in node.answers ≡ overload_frames s node ++ taken_frames s node)
unfolding offers works
a_late_answer s first second e =
    rw (e, append-nil (overload_of (record { request = second; moment = 0; has_room = false })), append-nil (taken_of s (record { item = first; entered = 0 }, 0))) refl
