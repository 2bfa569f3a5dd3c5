-- What has happened after each event of a script, in plain lists (docs/SCRIPTS.md, "Events"). A packet is what the bytes that
-- were read say, whoever wrote them.
use Rattle.std.specs.Prelude.{ℕ, zero, suc, ◌+◌, min, ℤ, pos, negsuc, Bool, true, false, not, ◌&&◌, ◌==◌, nat_le, if◌then◌else◌, Option, Some, None, is_none, List, [], ◌∷◌, ◌++◌, length, take, drop, map, fold, count_by, filter_map, slice_get}
use Rattle.std.specs.List.{list_any}
use Rattle.tars_frames.specs.Streams.{LONGEST, joined}
use Rattle.tars_frames.specs.Cutting.{packets_of, is_refused}
use Rattle.script_session.specs.Sessions.{WIDTH, NODE, live_node, node_of, request_of}
use Rattle.script_session.specs.declared.link_log.GotFate.{GotFate}
use Rattle.script_session.specs.declared.link_log.GotFate.TheVariants.{Used, Late}
use Rattle.script_session.specs.declared.link_log.GotRow.{GotRow}
use Rattle.script_session.specs.declared.link_log.SentRow.{SentRow}
use Rattle.script_session.specs.declared.session.CallSpec.{CallSpec}
use Rattle.script_session.specs.declared.session.Event.{Event}
use Rattle.script_session.specs.declared.session.Event.TheVariants.{Call, Serve, Work, Deliver, Close}
use Rattle.script_session.specs.declared.report.PickNote.{PickNote}
use Rattle.script_session.specs.declared.report.Refusal.{Refusal}
use Rattle.script_session.specs.declared.report.Refusal.TheVariants as refusal
use Rattle.rpc_packet.specs.Packets.{request_frame, read_request, read_response}
use Rattle.rpc_packet.specs.declared.response.Response.{Response}
use Rattle.run_course.specs.Nodes.{Node, fresh, offers, works}
use Rattle.script_session.specs.declared.session.Session.{Session}

-- What has happened.

-- what ended a call: the packet of this number of this node, as it reads, or the close
pub data Fate : Type 0 where
  replied : (node packet : ℕ) → Response → Fate
  closed : Fate

-- a call that was opened: in flight until it is collected; what ends it first stands
pub record Life : Type 0 where
  pub id : ℕ
  pub node : ℕ
  pub deadline : ℕ
  pub fate : Option Fate
  pub collected : Bool

pub data Stage : Type 0 where
  refused : Refusal → Stage
  opened : Life → Stage

-- a scripted call
pub record Noted : Type 0 where
  pub spec : CallSpec
  pub pick : Option PickNote
  pub stage : Stage

-- What passed between the caller and a node: the frames sent, how many of their bytes the node has read, and what it did; how many
-- bytes of its answers the caller has read, and the packets in these.
pub record Link : Type 0 where
  pub sent : List SentRow
  pub served : ℕ
  pub node : Node
  pub delivered : ℕ
  pub got : List GotRow

-- the moment, in milliseconds, whether the session was closed, the calls in order, and the nodes in order
pub record Course : Type 0 where
  pub moment : ℕ
  pub closed : Bool
  pub calls : List Noted
  pub links : List Link

abbrev pub unused : Link
unused = record { sent = []; served = 0; node = fresh; delivered = 0; got = [] }

-- there is one node
abbrev pub start : Course
start = record { moment = 0; closed = false; calls = []; links = unused ∷ [] }

-- Links go by the numbers of their nodes, from 1.

abbrev pub link_of : ℕ → List Link → Option Link
link_of zero links = None
link_of (suc k) links = slice_get links k

abbrev pub changed_at : ℕ → (Link → Link) → List Link → List Link
changed_at k change [] = []
changed_at zero change (link ∷ links) = change link ∷ links
changed_at (suc k) change (link ∷ links) = link ∷ changed_at k change links

abbrev pub at_node : ℕ → (Link → Link) → List Link → List Link
at_node zero change links = links
at_node (suc k) change links = changed_at k change links

-- Reading, the same in both directions.

-- so many of the bytes that wait, or all of them
abbrev pub count_of : Option ℕ → ℕ → ℕ
count_of None waiting = waiting
count_of (Some most) waiting = min most waiting

-- the place in a stream after a read; after a bad length nothing is read
unfoldable pub read_to : ℕ → Option ℕ → List ℕ → ℕ
read_to at bytes stream = if is_refused LONGEST (take at stream) then at else at + count_of bytes (length (drop at stream))

-- the packets in a prefix of a stream, and those that get whole between two places
abbrev pub packets_to : ℕ → List ℕ → List (List ℕ)
packets_to at stream = packets_of LONGEST (take at stream)

unfoldable pub news : ℕ → ℕ → List ℕ → List (List ℕ)
news at to stream = drop (length (packets_to at stream)) (packets_to to stream)

abbrev pub frames_sent : Link → List (List ℕ)
frames_sent link = map (λ (row : SentRow). row.frame) link.sent

-- the bytes that the caller has written to a node, and those that the node has written
abbrev pub requests_stream : Link → List ℕ
requests_stream link = joined (frames_sent link)

abbrev pub answers_stream : Link → List ℕ
answers_stream link = joined link.node.answers

-- A call.

abbrev pub is_opened : Stage → Bool
is_opened (refused why) = false
is_opened (opened life) = true

abbrev pub is_in_flight : Stage → Bool
is_in_flight (refused why) = false
is_in_flight (opened life) = not life.collected

-- how many calls of a line are in flight
abbrev pub in_flight : ℕ → List Noted → ℕ
in_flight line calls = count_by (λ (call : Noted). is_in_flight call.stage && (call.spec.line == line)) calls

-- the next id, from 1
abbrev pub next_id : List Noted → ℕ
next_id calls = suc (count_by (λ (call : Noted). is_opened call.stage) calls)

abbrev pub refused_call : CallSpec → Option PickNote → Refusal → Noted
refused_call spec pick why = record { spec = spec; pick = pick; stage = refused why }

abbrev pub opened_call : Session → Course → CallSpec → Noted
opened_call s c spec =
    record {
      spec = spec;
      pick = live_node;
      stage = opened (record { id = next_id c.calls; node = NODE; deadline = c.moment + (node_of s).timeout; fate = None; collected = false });
    }

abbrev pub sent_row : Session → CallSpec → ℕ → SentRow
sent_row s spec id = record { call = spec.call; frame = request_frame (request_of s spec id) }

abbrev pub sends : SentRow → Link → Link
sends row link = record link { sent = link.sent ++ row ∷ [] }

abbrev pub not_sent : Course → Noted → Course
not_sent c call = record c { calls = c.calls ++ call ∷ [] }

abbrev pub is_sent : Session → Course → CallSpec → Course
is_sent s c spec =
    record c {
      calls = c.calls ++ opened_call s c spec ∷ [];
      links = at_node NODE (sends (sent_row s spec (next_id c.calls))) c.links;
    }

-- full where so many calls of the line are in flight, else a node is picked; refused where the session was closed
unfoldable pub called : Session → Course → CallSpec → Course
called s c spec =
    if nat_le WIDTH (in_flight spec.line c.calls) then not_sent c (refused_call spec None refusal.Full)
    else (if c.closed then not_sent c (refused_call spec live_node (refusal.Closed 0)) else is_sent s c spec)

-- A node.

-- it reads at a moment, and each request that gets whole is offered to its queue
unfoldable pub serves : Session → ℕ → Option ℕ → Link → Link
serves s moment bytes link =
    record link {
      served = read_to link.served bytes (requests_stream link);
      node = fold (offers s moment) link.node (filter_map read_request (news link.served (read_to link.served bytes (requests_stream link)) (requests_stream link)));
    }

abbrev pub worked : Session → ℕ → Link → Link
worked s moment link = record link { node = works s moment link.node }

-- The caller reads.

-- what a read of the caller changes: the calls, and one link
pub record Desk : Type 0 where
  pub calls : List Noted
  pub link : Link

-- the id that a packet names; no call has the id 0
abbrev pub named_id : ℤ → ℕ
named_id (pos n) = n
named_id (negsuc n) = 0

-- an end comes to a life; the first stands
abbrev pub first_fate : Fate → Option Fate → Option Fate
first_fate fate None = Some fate
first_fate fate (Some before) = Some before

abbrev pub ends_with : Fate → Stage → Stage
ends_with fate (refused why) = refused why
ends_with fate (opened life) = opened (record life { fate = first_fate fate life.fate })

abbrev pub has_id : ℕ → Stage → Bool
has_id id (refused why) = false
has_id id (opened life) = life.id == id

abbrev pub is_open : Stage → Bool
is_open (refused why) = false
is_open (opened life) = is_none life.fate

-- the calls under an id end
abbrev pub settled : ℕ → Fate → Stage → Stage
settled id fate stage = if has_id id stage then ends_with fate stage else stage

abbrev pub settles : ℕ → Fate → Noted → Noted
settles id fate call = record call { stage = settled id fate call.stage }

abbrev pub is_open_under : ℕ → Noted → Bool
is_open_under id call = has_id id call.stage && is_open call.stage

abbrev pub gets : Link → List ℕ → GotFate → Link
gets link packet fate = record link { got = link.got ++ record { packet = packet; fate = fate } ∷ [] }

abbrev pub is_late : Desk → List ℕ → Desk
is_late d packet = record d { link = gets d.link packet (Late 0) }

abbrev pub is_used : ℕ → Desk → List ℕ → Response → Desk
is_used node d packet r =
    record {
      calls = map (settles (named_id r.id) (replied node (suc (length d.link.got)) r)) d.calls;
      link = gets d.link packet (Used (record { 0 = named_id r.id }));
    }

abbrev pub came_as : ℕ → Desk → List ℕ → Option Response → Desk
came_as node d packet None = is_late d packet
came_as node d packet (Some r) =
    if list_any (is_open_under (named_id r.id)) d.calls then is_used node d packet r else is_late d packet

-- a packet came: it settles the call that is open under the id that it names, or is late
unfoldable pub came : Session → ℕ → Desk → List ℕ → Desk
came s node d packet = came_as node d packet (read_response packet)

-- the caller reads, and each packet that gets whole comes
unfoldable pub delivers : Session → ℕ → Option ℕ → List Noted → Link → Desk
delivers s node bytes calls link =
    fold (came s node)
    (record { calls = calls; link = record link { delivered = read_to link.delivered bytes (answers_stream link) } })
    (news link.delivered (read_to link.delivered bytes (answers_stream link)) (answers_stream link))

abbrev pub with_desk : Course → ℕ → Desk → Course
with_desk c node d = record c { calls = d.calls; links = at_node node (λ link. d.link) c.links }

abbrev pub delivered_at : Session → Course → ℕ → Option ℕ → Option Link → Course
delivered_at s c node bytes None = c
delivered_at s c node bytes (Some link) = with_desk c node (delivers s node bytes c.calls link)

-- A close.

abbrev pub closes : Noted → Noted
closes call = record call { stage = ends_with closed call.stage }

-- What an event makes of what has happened.

abbrev pub step : Session → Course → Event → Course
step s c (Call spec) = called s c spec
step s c (Serve node bytes) = record c { links = at_node node (serves s c.moment bytes) c.links }
step s c (Work node) = record c { links = at_node node (worked s c.moment) c.links }
step s c (Deliver node bytes) = delivered_at s c node bytes (link_of node c.links)
step s c Close = record c { calls = map closes c.calls; closed = true }

abbrev pub after_all : Session → List Event → Course
after_all s events = fold (step s) start events
