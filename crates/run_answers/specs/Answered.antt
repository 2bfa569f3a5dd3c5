-- What holds of the report of a session that loading has judged, by values alone: each end says what the servant replies to the
-- arguments of its call, as the caller's version reads it, or that the node's queue was full (docs/PROTOCOL.md, "Return codes" and
-- "Projection"; docs/SCRIPTS.md, "Rules"); and nothing is left of a packet.
use Rattle.std.specs.Prelude.{◌≡◌, ◌≢◌, ◌⊎◌, ◌≤◌, ◌<◌, ℕ, ℤ, if◌then◌else◌, Option, Some, None, Ok, Err, List, [], ◌∷◌, length, position, slice_get, slice_index_or}
use Rattle.std.specs.Str.{bytes_eq}
use Rattle.tars_model.specs.Members.{arguments_of, reply_members_of}
use Rattle.tars_model.specs.declared.func_desc.FuncDesc.{FuncDesc}
use Rattle.tars_model.specs.declared.member.Member.{Member}
use Rattle.tars_model.specs.declared.value.Value.{Value}
use Rattle.tars_decode.specs.Reads.{Read}
use Rattle.tars_codec.specs.Written.{written}
use Rattle.tars_frames.specs.Streams.{LONGEST}
use Rattle.tars_versions.specs.Projected.{project_members}
use Rattle.rpc_packet.specs.Bodies.{refusal_told}
use Rattle.rpc_packet.specs.Packets.{response_frame}
use Rattle.rpc_packet.specs.declared.response.Response.{Response}
use Rattle.servant_core.specs.Answers.{SUCCESS, NOT_READ, TOO_LONG, NO_FUNCTION, OVERLOAD, PING, response_to, answered, unseen}
use Rattle.servant_core.specs.declared.replies.Reply.{Reply}
use Rattle.servant_core.specs.declared.replies.Reply.TheVariants.{Values, Code as CodeReply, Silent}
use Rattle.script_session.specs.Sessions.{server_funcs, func_of, request_of, replies}
use Rattle.script_session.specs.declared.link_log.LinkLog.{LinkLog}
use Rattle.script_session.specs.declared.link_log.SentRow.{SentRow}
use Rattle.script_session.specs.declared.report.CallId.{CallId}
use Rattle.script_session.specs.declared.report.End.{End}
use Rattle.script_session.specs.declared.report.End.TheVariants.{Value as ValueEnd, Code, Undecoded}
use Rattle.script_session.specs.declared.report.Report.{Report}
use Rattle.script_session.specs.declared.report.Row.{Row}
use Rattle.script_session.specs.declared.session.CallSpec.{CallSpec}
use Rattle.script_session.specs.declared.session.Event.{Event}
use Rattle.script_session.specs.declared.session.Event.TheVariants.{Deliver}
use Rattle.run_course.specs.Nodes.{frames_of}
use Rattle.run_course.specs.Courses.{sent_row}
use Rattle.run_course.specs.Legal.{Scripted}
use Rattle.run_course.specs.LegalReports.{IsRowAt, IsLogAt, IsUsedRow, packet_of}
use Rattle.run_course.specs.OneNode.{IsScriptedAt}
use Rattle.script_session.specs.declared.session.Session.{Session}

-- ---- what is answered to a call

-- values under members of the server's version, a return code, or nothing
pub data Answer : Type 0 where
  success : (members : List Member) → List Value → Answer
  code : ℤ → Answer
  nothing : Answer

-- a function of the server's version, by its number
abbrev pub server_func : Session → ℕ → FuncDesc
server_func s k = slice_index_or (server_funcs s) k (record { name = []; ret = None; params = [] })

-- the number of the function of the server's version that has the name of the called one
abbrev pub called_func : Session → CallSpec → Option ℕ
called_func s spec = position (λ (func : FuncDesc). bytes_eq (func_of s spec.func).name func.name) (server_funcs s)

-- what the servant replies
abbrev pub of_reply : FuncDesc → Reply → Answer
of_reply func (Values values) = success (reply_members_of func) values
of_reply func (CodeReply n) = code n
of_reply func Silent = nothing

-- to the arguments as they are read in the server's version
abbrev pub of_arguments : Session → ℕ → Read (List Value) → Answer
of_arguments s func (Ok args) = of_reply (server_func s func) (replies s (record { func = func; args = args; moment = 0 }))
of_arguments s func (Err why) = code NOT_READ

-- the arguments of a call in the server's version of the function of this number
abbrev pub server_arguments : Session → CallSpec → ℕ → Read (List Value)
server_arguments s spec func = project_members s.client (arguments_of (func_of s spec.func)) spec.args s.server (arguments_of (server_func s func))

abbrev pub of_function : Session → CallSpec → Option ℕ → Answer
of_function s spec (Some func) = of_arguments s func (server_arguments s spec func)
of_function s spec None = code NO_FUNCTION

-- a ping is a success without values
unfoldable pub answer_to : Session → CallSpec → Answer
answer_to s spec = if bytes_eq (func_of s spec.func).name PING then success [] [] else of_function s spec (called_func s spec)

-- ---- what an end says

-- values of the server's version in the caller's
abbrev pub client_values : Session → CallSpec → List Member → List Value → Read (List Value)
client_values s spec members values = project_members s.server members values s.client (reply_members_of (func_of s spec.func))

-- the response with these values to a call's request under an id
abbrev pub success_response : Session → CallSpec → ℕ → List Member → List Value → Response
success_response s spec id members values = response_to (request_of s spec id) SUCCESS (written s.server members values)

-- an end says these values, why the caller's version has none, or that they are too long for a packet
abbrev pub SaysValues : Session → CallSpec → ℕ → List Member → List Value → End → Type 0
SaysValues s spec id members values (ValueEnd node packet got) = client_values s spec members values ≡ Ok got
SaysValues s spec id members values (Undecoded node packet why) = refusal_told (client_values s spec members values) ≡ Err why
SaysValues s spec id members values (Code node packet ret) = (ret ≡ TOO_LONG) × (LONGEST < length (response_frame (success_response s spec id members values)))
SaysValues s spec id members values _ = ⊥

-- an end says this code, which is not that of a success
abbrev pub SaysCode : ℤ → End → Type 0
SaysCode n (Code node packet ret) = (ret ≡ n) × (n ≢ SUCCESS)
SaysCode n _ = ⊥

-- the end of a call under an id says this answer; none says nothing
abbrev pub Says : Session → CallSpec → ℕ → Answer → End → Type 0
Says s spec id (success members values) end = SaysValues s spec id members values end
Says s spec id (code n) end = SaysCode n end
Says s spec id nothing end = ⊥

-- ---- what a full queue answers

-- a frame stands among those that were sent to a node after at least as many as its queue holds
pub record IsCrowded (s : Session) (r : Report) (node : ℕ) (row : SentRow) : Type 0 where
  pub log : LinkLog
  pub log_is : IsLogAt r node log
  pub place : ℕ
  pub sent : slice_get log.sent place ≡ Some row
  pub behind : s.queue ≤ place

-- the end of a call under an id is that of a full queue
abbrev pub IsOverloaded : Session → Report → CallSpec → ℕ → End → Type 0
IsOverloaded s r spec id (Code node packet ret) = (ret ≡ OVERLOAD) × IsCrowded s r node (sent_row s spec id)
IsOverloaded s r spec id _ = ⊥

-- ---- the report

-- the packet with the answer to a call's request
abbrev pub IsAnswerFrame : Session → CallSpec → ℕ → List ℕ → Type 0
IsAnswerFrame s spec id bytes = frames_of (answered s.server s.server_interface s.object.id (replies s) (request_of s spec id) 0) ≡ bytes ∷ []

-- or with that of a full queue
abbrev pub IsOverloadFrame : Session → CallSpec → ℕ → List ℕ → Type 0
IsOverloadFrame s spec id bytes = frames_of (unseen (request_of s spec id) OVERLOAD) ≡ bytes ∷ []

pub record IsAnswered (s : Session) (r : Report) : Type 0 where
  -- the end of a call that a packet ended says what is answered to the call, or that the queue was full
  pub rows :
      (k : ℕ) (row : Row) (call : Scripted) (id : CallId) (node packet : ℕ) → IsRowAt r k row → IsScriptedAt s k call → row.id ≡ Some id
      → packet_of row.end ≡ Some (node, packet) → Says s call.spec id.0 (answer_to s call.spec) row.end ⊎ IsOverloaded s r call.spec id.0 row.end
  -- and the packet that settled it is that of this answer
  pub packets :
      (k : ℕ) (row : Row) (call : Scripted) (id : CallId) (node packet : ℕ) (bytes : List ℕ) → IsRowAt r k row → IsScriptedAt s k call
      → row.id ≡ Some id → IsUsedRow r node packet bytes id
      → IsAnswerFrame s call.spec id.0 bytes ⊎ (IsOverloadFrame s call.spec id.0 bytes × IsCrowded s r node (sent_row s call.spec id.0))
  -- where nothing is answered, no packet but that of a full queue ends the call
  pub none :
      (k : ℕ) (row : Row) (call : Scripted) (id : CallId) (node packet : ℕ) → IsRowAt r k row → IsScriptedAt s k call → row.id ≡ Some id
      → answer_to s call.spec ≡ nothing → packet_of row.end ≡ Some (node, packet) → IsOverloaded s r call.spec id.0 row.end

-- Where each delivery takes all the bytes that wait, nothing is left of a packet.

abbrev pub TakesAll : Event → Type 0
TakesAll (Deliver node bytes) = bytes ≡ None
TakesAll _ = Unit {0}

abbrev pub HasNoRest : Report → Type 0
HasNoRest r = (node : ℕ) (log : LinkLog) → IsLogAt r node log → log.rest ≡ []
