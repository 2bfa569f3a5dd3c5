-- For the proofs: how what the engine keeps is tied to what has happened (`run_course`, specs/Courses.antt), part by part.
use Rattle.std.specs.Prelude.{◌≡◌, ◌≤◌, ◌<◌, ℕ, suc, Option, List, [], ◌∷◌, ◌++◌, length, take, drop}
use Rattle.std.specs.List.{AllByRecursion}
use Rattle.tars_frames.specs.Cutting.{is_refused}
use Rattle.tars_frames.specs.Feeding.{IsAt}
use Rattle.tars_frames.specs.Streams.{LONGEST}
use Rattle.std.specs.Option.{option_to_list}
use Rattle.tars_frames.specs.Streams.{joined}
use Rattle.adapter_queue.specs.Histories.{IsAfter}
use Rattle.adapter_queue.specs.declared.taken.Taken.{Taken}
use Rattle.adapter_queue.specs.declared.taken.Taken.TheVariants.{Work, Stale}
use Rattle.adapter_queue.specs.declared.timed.Timed.{Timed}
use Rattle.rpc_packet.specs.Outcomes.{AreTexts, IsSendable}
use Rattle.rpc_packet.specs.Packets.{response_frame}
use Rattle.rpc_packet.specs.declared.request.Request.{Request}
use Rattle.rpc_packet.specs.declared.response.Response.{Response}
use Rattle.servant_core.specs.Rules.{table_reply}
use Rattle.servant_core.specs.Servants.{Always, Handled, IsSuited}
use Rattle.servant_core.specs.Tables.{Table, functions}
use Rattle.script_session.specs.declared.session.Session.{Session}
use Rattle.script_session.specs.declared.link_log.GotRow.{GotRow}
use Rattle.run_engine.specs.Claims.{Claim, claims_of}
use Rattle.run_course.specs.Courses.{Course, Link, Desk, packets_to, requests_stream}
use Rattle.run_course.specs.Nodes.{Node, accepted}
use Rattle.script_session.specs.Sessions.{client_funcs, server_funcs, replies}
use Rattle.run_engine.specs.declared.node.NodeEnd.{NodeEnd}
use Rattle.run_engine.specs.Notes.{notes_of}
use Rattle.run_engine.specs.declared.call_note.CallNote.{CallNote}
use Rattle.run_engine.specs.declared.plan.Plan.{Plan}
use Rattle.run_engine.specs.declared.channel.Channel.{Channel}
use Rattle.run_engine.specs.declared.link_ends.LinkEnds.{LinkEnds}

-- of this stream so many bytes were read, and all packets in these were given
pub record Reads (channel : Channel) (stream : List ℕ) (at : ℕ) : Type 0 where
  pub within : at ≤ length stream
  pub waiting_is : channel.waiting.items ≡ drop at stream
  pub frames : IsAt LONGEST (take at stream) (packets_to at stream) channel.frames
  pub refused_is : channel.refused ≡ is_refused LONGEST (take at stream)

-- a response that is within the limit of a packet
pub record IsWritable (r : Response) : Type 0 where
  pub status : AreTexts r.status
  pub within : length (response_frame r) ≤ LONGEST

-- whatever it handled before, a servant replies as the session says
pub record IsServantOf (s : Session) (table : Table) : Type 0 where
  pub replies_are : (call : Handled) → table_reply table.schema (functions table) table.rules call ≡ replies s call
  pub suited : Always (IsSuited s.server (server_funcs s)) (λ earlier last. table_reply table.schema (functions table) table.rules last)

-- the servant is asked for what did not wait for too long
abbrev pub MayBeAnswered : Taken Request → Type 0
MayBeAnswered (Work r) = IsSendable r
MayBeAnswered (Stale r) = Unit {0}

abbrev pub IsWaiting : Timed Request → Type 0
IsWaiting timed = IsSendable timed.item

-- what a node has taken in and what it replies
pub record TracksNode (s : Session) (end : NodeEnd) (node : Node) : Type 0 where
  pub queue : IsAfter (accepted node) (length node.taken) end.queue
  pub capacity : end.queue.capacity ≡ s.queue
  pub timeout : end.queue.timeout ≡ s.queue_timeout
  pub sendable : AllByRecursion IsWaiting end.queue.items
  pub servant : IsServantOf s end.servant

-- a step of a node, and what it writes
pub record TracksStep (s : Session) (end : NodeEnd) (before after : Node) (frame : Option (List ℕ)) : Type 0 where
  pub node : TracksNode s end after
  pub wrote : after.answers ≡ before.answers ++ option_to_list frame

-- a node, and the direction in which it writes
pub record TracksSide (s : Session) (end : NodeEnd) (to_caller : Channel) (state : Node) (delivered : ℕ) : Type 0 where
  pub node : TracksNode s end state
  pub answers : Reads to_caller (joined state.answers) delivered

-- what passed on a link
pub record TracksLink (s : Session) (ends : LinkEnds) (link : Link) : Type 0 where
  pub requests : Reads ends.to_node (requests_stream link) link.served
  pub side : TracksSide s ends.node ends.to_caller link.node link.delivered
  pub sent_is : ends.sent.items ≡ link.sent
  pub got_is : ends.got.items ≡ link.got

-- what a read of the caller changes: the calls in the table, and what was got of a node
pub record TracksDesk {T : Type 0} (IsOf : T → List Claim → Type 0) (table : T) (got : List GotRow) (d : Desk) : Type 0 where
  pub claims : IsOf table (claims_of d.calls)
  pub got_is : got ≡ d.link.got

-- the calls in the table, and the link, after a read
pub record TracksEnds {T : Type 0} (IsOf : T → List Claim → Type 0) (s : Session) (table : T) (ends : LinkEnds) (d : Desk) : Type 0 where
  pub claims : IsOf table (claims_of d.calls)
  pub link : TracksLink s ends d.link

-- each link is what passed on it
abbrev pub TrackLinks : Session → List LinkEnds → List Link → Type 0
TrackLinks s [] [] = Unit {0}
TrackLinks s (ends ∷ more) (link ∷ links) = TracksLink s ends link × TrackLinks s more links
TrackLinks s _ _ = ⊥

-- the link to a node stands here, or there is none
pub record IsNode (links : List LinkEnds) (node k : ℕ) : Type 0 where
  pub node_is : node ≡ suc k
  pub within : k < length links

abbrev pub NoNode : List LinkEnds → ℕ → Type 0
NoNode links node = (k : ℕ) → IsNode links node k → ⊥

-- how many nodes an object may have
abbrev pub MAX_NODES : ℕ
MAX_NODES = 16

-- a run so far, and all that has happened in it; no event moves the moment yet
pub record Tracks {T : Type 0} (IsOf : T → List Claim → Type 0) (plan : Plan T) (c : Course) : Type 0 where
  pub start : c.moment ≡ 0
  pub moment_is : plan.moment ≡ c.moment
  pub closed_is : plan.closed ≡ c.closed
  pub notes_are : plan.notes.items ≡ notes_of c.calls
  pub funcs : AllByRecursion (λ (note : CallNote). note.func < length (client_funcs plan.service)) plan.notes.items
  pub claims : IsOf plan.table (claims_of c.calls)
  pub links : TrackLinks plan.service plan.links.items c.links
  pub few : length plan.links.items ≤ MAX_NODES
