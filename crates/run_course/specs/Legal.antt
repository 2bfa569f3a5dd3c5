-- What holds after every list of events (docs/SCRIPTS.md, "Events" and "Reports"). Calls go by their places from 0, packets of a
-- node by their numbers from 1.
use Rattle.std.specs.Prelude.{◌≡◌, All, ◌≤◌, ℕ, suc, true, ◌==◌, if◌then◌else◌, Option, Some, None, List, [], length, take, map, filter_map, flat_map, zip, slice_get, Bool, false, ◌&&◌, nat_le, count_by, ◌∷◌}
use Rattle.script_session.specs.declared.link_log.GotFate.TheVariants.{Used}
use Rattle.script_session.specs.declared.link_log.GotRow.{GotRow}
use Rattle.script_session.specs.declared.link_log.SentRow.{SentRow}
use Rattle.script_session.specs.declared.session.CallSpec.{CallSpec}
use Rattle.script_session.specs.Sessions.{WIDTH, NODE, live_node}
use Rattle.script_session.specs.declared.session.Event.{Event}
use Rattle.script_session.specs.declared.session.Event.TheVariants.{Call, Serve, Work, Deliver, Close}
use Rattle.script_session.specs.declared.report.PickNote.{PickNote}
use Rattle.script_session.specs.declared.report.Refusal.TheVariants as refusal
use Rattle.script_session.specs.declared.report.Why.TheVariants.{Live}
use Rattle.adapter_queue.specs.Queues.{taken_at}
use Rattle.adapter_queue.specs.declared.timed.Timed.{Timed}
use Rattle.rpc_packet.specs.Packets.{read_request, read_response}
use Rattle.rpc_packet.specs.declared.request.Request.{Request}
use Rattle.rpc_packet.specs.declared.response.Response.{Response}
use Rattle.run_course.specs.Merges.{IsMerge}
use Rattle.run_course.specs.Nodes.{Offer, Node, accepted, frames_of, answer_of}
use Rattle.servant_core.specs.Answers.{OVERLOAD, unseen}
use Rattle.script_session.specs.declared.session.Session.{Session}
use Rattle.run_course.specs.Courses.{Fate, replied, closed, Life, Stage, refused, opened, Noted, Link, Course, link_of, packets_to, requests_stream, answers_stream, named_id, sent_row, is_opened, next_id}

abbrev pub IsCallAt : Course → ℕ → Noted → Type 0
IsCallAt c k call = slice_get c.calls k ≡ Some call

abbrev pub IsLinkAt : Course → ℕ → Link → Type 0
IsLinkAt c node link = link_of node c.links ≡ Some link

-- What was read.

-- an offer stands at this place among those of a node
abbrev pub IsOfferAt : Node → ℕ → Offer → Type 0
IsOfferAt node k offer = slice_get node.offered k ≡ Some offer

-- a request that found room, and when it was taken
pub record IsTakenAt (node : Node) (k : ℕ) (next : Timed Request) (now : ℕ) : Type 0 where
  pub next_is : slice_get (accepted node) k ≡ Some next
  pub now_is : slice_get node.taken k ≡ Some now

-- a node writes a frame to a request that found no room, or to one that was taken
pub data IsAnswer (s : Session) (node : Node) (frame : List ℕ) : Type 0 where
  overloaded :
      (k : ℕ) (offer : Offer) → IsOfferAt node k offer → offer.has_room ≡ false
      → frames_of (unseen offer.request OVERLOAD) ≡ frame ∷ [] → IsAnswer s node frame
  taken :
      (k : ℕ) (next : Timed Request) (now : ℕ) → IsTakenAt node k next now
      → frames_of (answer_of s now (taken_at s.queue_timeout now next)) ≡ frame ∷ [] → IsAnswer s node frame

-- the frame to a request that found no room; a one-way one gets none
abbrev pub overload_of : Offer → List (List ℕ)
overload_of offer = if offer.has_room then [] else frames_of (unseen offer.request OVERLOAD)

-- those to all of these, in the order in which they were offered
abbrev pub overload_frames : Session → Node → List (List ℕ)
overload_frames s node = flat_map overload_of node.offered

-- the frame to a request that was taken at a moment; a one-way one gets none, nor does one that the servant leaves unanswered
abbrev pub taken_of : Session → Timed Request × ℕ → List (List ℕ)
taken_of s pair = frames_of (answer_of s pair.1 (taken_at s.queue_timeout pair.1 pair.0))

-- those to all that were taken, in the order in which they were taken
abbrev pub taken_frames : Session → Node → List (List ℕ)
taken_frames s node = flat_map (taken_of s) (zip (accepted node) node.taken)

-- on a link: the requests that were offered to a node are those that the bytes it has read say, each of its frames answers one, none
-- is answered twice, those that found no room are answered in their order and so are those that were taken, none is refused for want
-- of room while fewer came before it than the queue holds, and the packets that the caller got are those that the bytes it has read
-- say
pub record IsRead (s : Session) (link : Link) : Type 0 where
  pub served_within : link.served ≤ length (requests_stream link)
  pub requests : map (λ (offer : Offer). offer.request) link.node.offered ≡ filter_map read_request (packets_to link.served (requests_stream link))
  pub taken_within : length link.node.taken ≤ length (accepted link.node)
  pub room : (k : ℕ) (offer : Offer) → IsOfferAt link.node k offer → offer.has_room ≡ false → s.queue ≤ k
  pub answers : All (IsAnswer s link.node) link.node.answers
  pub order : IsMerge (overload_frames s link.node) (taken_frames s link.node) link.node.answers
  pub delivered_within : link.delivered ≤ length (answers_stream link)
  pub packets : map (λ (row : GotRow). row.packet) link.got ≡ packets_to link.delivered (answers_stream link)

-- no event moves the moment yet: it is 0, and so is that of each offer and that at which each request was taken
pub record IsStill (c : Course) : Type 0 where
  pub moment : c.moment ≡ 0
  pub offered : (node : ℕ) (link : Link) (k : ℕ) (offer : Offer) → IsLinkAt c node link → IsOfferAt link.node k offer → offer.moment ≡ 0
  pub taken : (node : ℕ) (link : Link) (k now : ℕ) → IsLinkAt c node link → slice_get link.node.taken k ≡ Some now → now ≡ 0

-- How calls end.

abbrev pub got_of : Option Link → List GotRow
got_of None = []
got_of (Some link) = link.got

-- the packets that the caller got of a node
abbrev pub got_at : Course → ℕ → List GotRow
got_at c node = got_of (link_of node c.links)

-- these bytes were the packet of this number, and settled the call with this id
abbrev pub IsUsed : Course → (node packet : ℕ) → List ℕ → ℕ → Type 0
IsUsed c node packet bytes id =
    (k : ℕ) × (packet ≡ suc k) × (slice_get (got_at c node) k ≡ Some (record { packet = bytes; fate = Used (record { 0 = id }) }))

-- a packet settled the call with this id: it reads as this response, which names the id
pub record CameFor (s : Session) (c : Course) (id node packet : ℕ) (r : Response) : Type 0 where
  pub bytes : List ℕ
  pub used : IsUsed c node packet bytes id
  pub reads : read_response bytes ≡ Some r
  pub names : named_id r.id ≡ id

-- a call ends by a packet that came for it, or by a close
abbrev pub FateHasCause : Session → Course → ℕ → Option Fate → Type 0
FateHasCause s c id (Some (replied node packet r)) = CameFor s c id node packet r
FateHasCause s c id (Some closed) = c.closed ≡ true
FateHasCause s c id None = Unit {0}

abbrev pub HasCause : Session → Course → Stage → Type 0
HasCause s c (refused why) = Unit {0}
HasCause s c (opened life) = FateHasCause s c life.id life.fate

-- a call with this id ended so
pub record EndsAs (stage : Stage) (id : ℕ) (fate : Fate) : Type 0 where
  pub life : Life
  pub life_is : stage ≡ opened life
  pub id_is : life.id ≡ id
  pub fate_is : life.fate ≡ Some fate

-- the call with this id ended by this packet
pub record IsNamed (c : Course) (node packet id : ℕ) : Type 0 where
  pub place : ℕ
  pub call : Noted
  pub response : Response
  pub call_is : IsCallAt c place call
  pub ends : EndsAs call.stage id (replied node packet response)

-- What was sent.

-- the frame of a call that was opened at this node: the request of its arguments under its id
abbrev pub sent_of_stage : Session → ℕ → CallSpec → Stage → Option SentRow
sent_of_stage s node spec (refused why) = None
sent_of_stage s node spec (opened life) = if life.node == node then Some (sent_row s spec life.id) else None

abbrev pub sent_of : Session → ℕ → Noted → Option SentRow
sent_of s node call = sent_of_stage s node call.spec call.stage

-- Which calls are opened.

-- a scripted call, and whether a close came before it
pub record Scripted : Type 0 where
  pub spec : CallSpec
  pub closed : Bool

abbrev pub scripted_after : Bool → List Event → List Scripted
scripted_after shut [] = []
scripted_after shut (Call spec ∷ events) = record { spec = spec; closed = shut } ∷ scripted_after shut events
scripted_after shut (Serve node bytes ∷ events) = scripted_after shut events
scripted_after shut (Work node ∷ events) = scripted_after shut events
scripted_after shut (Deliver node bytes ∷ events) = scripted_after shut events
scripted_after shut (Close ∷ events) = scripted_after true events

abbrev pub scripted : List Event → List Scripted
scripted events = scripted_after false events

-- what a call was at first: refused, by the word of a closed session where it tells so, or opened under an id at a node
pub data Opening : Type 0 where
  as_full : Opening
  as_closed : (word : ℕ) → Opening
  under : (id node : ℕ) → Opening

abbrev pub opening_of : Stage → Opening
opening_of (refused refusal.Full) = as_full
opening_of (refused (refusal.Closed word)) = as_closed word
opening_of (opened life) = under life.id life.node

-- a full line picks no node, and else the one node is picked, at which a call is opened
abbrev pub pick_of : Opening → Option PickNote
pick_of as_full = None
pick_of (as_closed word) = live_node
pick_of (under id node) = Some (record { node = node; why = Live })

-- how many of these calls of a line were opened
abbrev pub opened_of : ℕ → List Noted → ℕ
opened_of line calls = count_by (λ (call : Noted). is_opened call.stage && (call.spec.line == line)) calls

-- While nothing is collected before the end and there is one node: a call is refused as full where so many of its line were opened
-- before, else as closed where a close came before, and is else opened at the one node, under the number of calls opened so far.
abbrev pub opening_after : List Noted → Scripted → Opening
opening_after before call =
    if nat_le WIDTH (opened_of call.spec.line before) then as_full
    else (if call.closed then as_closed 0 else under (next_id before) NODE)

-- the call at a place is the scripted one there, and was opened or refused by these rules
pub record IsAsScripted (c : Course) (k : ℕ) (call : Noted) (scripted : Scripted) : Type 0 where
  pub spec : call.spec ≡ scripted.spec
  pub opening : opening_of call.stage ≡ opening_after (take k c.calls) scripted
  pub pick : call.pick ≡ pick_of (opening_of call.stage)
