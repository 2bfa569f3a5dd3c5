-- What holds of the report of every session (docs/SCRIPTS.md, "Reports"). Rows go by their places from 0, nodes and the packets of a
-- node by their numbers from 1. What holds besides while there is one node is `IsOneNode` in specs/OneNode.antt.
use Rattle.std.specs.Prelude.{◌≡◌, ◌↔◌, ℕ, zero, suc, ℤ, ◌==◌, Bool, true, false, if◌then◌else◌, Option, Some, None, is_some, Result, Ok, Err, List, [], ◌++◌, map, filter_map, slice_get}
use Rattle.std.specs.List.{zip}
use Rattle.tars_model.specs.declared.value.Value.{Value}
use Rattle.tars_decode.specs.Reads.{is_zero}
use Rattle.tars_decode.specs.declared.refuse.Refuse.{Refuse}
use Rattle.script_session.specs.declared.link_log.GotFate.TheVariants.{Used}
use Rattle.script_session.specs.declared.link_log.GotRow.{GotRow}
use Rattle.script_session.specs.declared.link_log.LinkLog.{LinkLog}
use Rattle.script_session.specs.declared.link_log.SentRow.{SentRow}
use Rattle.script_session.specs.declared.session.CallSpec.{CallSpec}
use Rattle.script_session.specs.declared.report.CallId.{CallId}
use Rattle.script_session.specs.declared.report.End.{End}
use Rattle.script_session.specs.declared.report.End.TheVariants.{Value as ValueEnd, Code, Undecoded, Closed, Refused}
use Rattle.script_session.specs.declared.report.PickNote.{PickNote}
use Rattle.script_session.specs.declared.report.Report.{Report}
use Rattle.script_session.specs.declared.report.RouteStep.{RouteStep}
use Rattle.script_session.specs.declared.report.RouteStep.TheVariants.{Reported}
use Rattle.script_session.specs.declared.report.Row.{Row}
use Rattle.rpc_packet.specs.Packets.{read_response}
use Rattle.rpc_packet.specs.declared.response.Response.{Response}
use Rattle.script_session.specs.declared.session.Session.{Session}
use Rattle.run_course.specs.Courses.{named_id, sent_row}
use Rattle.run_course.specs.Planned.{reply_values, pick_step}
use Rattle.run_course.specs.Legal.{Scripted, scripted}

abbrev pub IsRowAt : Report → ℕ → Row → Type 0
IsRowAt r k row = slice_get r.calls k ≡ Some row

-- what a row repeats of its call: its number, its line, its function, and whether it waits for a reply
pub record Heading : Type 0 where
  pub call : ℕ
  pub line : ℕ
  pub func : ℕ
  pub two_way : Bool

abbrev pub heading_of_call : CallSpec → Heading
heading_of_call spec = record { call = spec.call; line = spec.line; func = spec.func; two_way = spec.two_way }

abbrev pub heading_of : Row → Heading
heading_of row = record { call = row.call; line = row.line; func = row.func; two_way = row.two_way }

-- the log of a node
abbrev pub log_of : ℕ → List LinkLog → Option LinkLog
log_of zero logs = None
log_of (suc k) logs = slice_get logs k

abbrev pub IsLogAt : Report → ℕ → LinkLog → Type 0
IsLogAt r node log = log_of node r.links ≡ Some log

-- What was sent.

-- the frame that a call has at a node: where it has an id and picked this node, the request of its arguments under the id
abbrev pub frame_under : Session → ℕ → CallSpec → Option PickNote → Option CallId → Option SentRow
frame_under s node spec None id = None
frame_under s node spec (Some note) None = None
frame_under s node spec (Some note) (Some id) = if note.node == node then Some (sent_row s spec id.0) else None

-- of a row and its scripted call
abbrev pub frame_of : Session → ℕ → Row × Scripted → Option SentRow
frame_of s node call = frame_under s node call.1.spec call.0.pick call.0.id

-- the node that was picked has a log
pub record HasLog (r : Report) (pick : Option PickNote) : Type 0 where
  pub note : PickNote
  pub pick_is : pick ≡ Some note
  pub log : LinkLog
  pub log_is : IsLogAt r note.node log

pub record AreSent (s : Session) (r : Report) : Type 0 where
  -- logs go by the numbers of their nodes
  pub nodes : (node : ℕ) (log : LinkLog) → IsLogAt r node log → log.node ≡ node
  -- a node was sent the requests of the calls with an id that picked it, each once, in order, and nothing else
  pub frames :
      (node : ℕ) (log : LinkLog) → IsLogAt r node log
      → log.sent ≡ filter_map (frame_of s node) (zip r.calls (scripted s.events))
  -- and each call with an id picked a node that has a log
  pub logs : (k : ℕ) (row : Row) (id : CallId) → IsRowAt r k row → row.id ≡ Some id → HasLog r row.pick

-- What was got.

-- the packets that the caller got of a node
abbrev pub got_in_log : Option LinkLog → List GotRow
got_in_log None = []
got_in_log (Some log) = log.got

abbrev pub got_in : Report → ℕ → List GotRow
got_in r node = got_in_log (log_of node r.links)

-- these bytes were the packet of this number, and settled the call with this id
abbrev pub IsUsedRow : Report → (node packet : ℕ) → List ℕ → CallId → Type 0
IsUsedRow r node packet bytes id = (k : ℕ) × (packet ≡ suc k) × (slice_get (got_in r node) k ≡ Some (record { packet = bytes; fate = Used id }))

-- no packet settled the call with this id
abbrev pub IsUnused : Report → CallId → Type 0
IsUnused r id = (node packet : ℕ) (bytes : List ℕ) → IsUsedRow r node packet bytes id → ⊥

-- a packet was used for the row with this id: it reads as a response that names the id, and says so
pub record IsSaid (s : Session) (r : Report) (own : Option CallId) (node packet : ℕ) (Says : Response → Type 0) : Type 0 where
  pub id : CallId
  pub id_is : own ≡ Some id
  pub bytes : List ℕ
  pub used : IsUsedRow r node packet bytes id
  pub response : Response
  pub reads : read_response bytes ≡ Some response
  pub names : named_id response.id ≡ id.0
  pub says : Says response

-- under the code 0, what the body says in the caller's version of the function: values, or why there are none
abbrev pub SaysBody : Session → ℕ → Result (List Value) Refuse → Response → Type 0
SaysBody s func said response = (is_zero response.ret ≡ true) × (reply_values s func response.body ≡ said)

-- another code is the response's own
abbrev pub SaysCode : ℤ → Response → Type 0
SaysCode ret response = (is_zero response.ret ≡ false) × (ret ≡ response.ret)

-- the end of a call of a function has its cause: a call has an id exactly where it is not refused
abbrev pub EndHasCause : Session → Report → ℕ → Option CallId → End → Type 0
EndHasCause s r func own (ValueEnd node packet values) = IsSaid s r own node packet (SaysBody s func (Ok values))
EndHasCause s r func own (Undecoded node packet why) = IsSaid s r own node packet (SaysBody s func (Err why))
EndHasCause s r func own (Code node packet ret) = IsSaid s r own node packet (SaysCode ret)
EndHasCause s r func own Closed = is_some own ≡ true
EndHasCause s r func own (Refused why) = own ≡ None

-- the node and the number of the packet that ended a call
abbrev pub packet_of : End → Option (ℕ × ℕ)
packet_of (ValueEnd node packet values) = Some (node, packet)
packet_of (Code node packet ret) = Some (node, packet)
packet_of (Undecoded node packet why) = Some (node, packet)
packet_of Closed = None
packet_of (Refused why) = None

-- the row with this id names this packet
pub record IsNamedRow (r : Report) (node packet : ℕ) (id : CallId) : Type 0 where
  pub place : ℕ
  pub row : Row
  pub row_is : IsRowAt r place row
  pub id_is : row.id ≡ Some id
  pub packet_is : packet_of row.end ≡ Some (node, packet)

-- what the router did: the pick of a call, and that its reply was reported
abbrev pub picked_of : Row → Option RouteStep
picked_of row = pick_step row.call row.pick

abbrev pub report_of_packet : ℕ → Option (ℕ × ℕ) → Option RouteStep
report_of_packet call None = None
report_of_packet call (Some packet) = Some (Reported call packet.0 0 true 0)

abbrev pub reported_of : Row → Option RouteStep
reported_of row = report_of_packet row.call (packet_of row.end)

-- The report of a session.
pub record IsLegal (s : Session) (r : Report) : Type 0 where
  -- a row for each scripted call, in order
  pub rows : map heading_of r.calls ≡ map (λ (text : Scripted). heading_of_call text.spec) (scripted s.events)
  -- no id stands twice
  pub ids : (j k : ℕ) (row other : Row) (id : CallId) → IsRowAt r j row → IsRowAt r k other → row.id ≡ Some id → other.id ≡ Some id → j ≡ k
  -- what was sent are the requests of the calls with an id
  pub sends : AreSent s r
  -- each end has its cause
  pub ends : (k : ℕ) (row : Row) → IsRowAt r k row → EndHasCause s r row.func row.id row.end
  -- each packet that settled a call is named by the row with its id
  pub replies : (node packet : ℕ) (bytes : List ℕ) (id : CallId) → IsUsedRow r node packet bytes id → IsNamedRow r node packet id
  -- and a row with an id ends by the close exactly where none did
  pub closed : (k : ℕ) (row : Row) (id : CallId) → IsRowAt r k row → row.id ≡ Some id → (row.end ≡ Closed) ↔ IsUnused r id
  -- each pick is reported in the order of the calls, and then each reply
  pub routes : r.routes ≡ filter_map picked_of r.calls ++ filter_map reported_of r.calls
