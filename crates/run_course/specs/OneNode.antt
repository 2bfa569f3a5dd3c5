-- What holds of a report only while there is one line of eight and one node, and nothing is collected before the end
-- (docs/SCRIPTS.md, "Events"). What holds whatever lines and nodes there are is `IsLegal` in specs/LegalReports.antt.
use Rattle.std.specs.Prelude.{◌≡◌, ◌<◌, ◌≤◌, ◌↔◌, ℕ, suc, ◌==◌, true, ◌&&◌, Option, Some, None, is_some, [], ◌∷◌, take, count_by, slice_get}
use Rattle.script_session.specs.Sessions.{WIDTH, NODE, live_node}
use Rattle.script_session.specs.declared.link_log.LinkLog.{LinkLog}
use Rattle.script_session.specs.declared.report.CallId.{CallId}
use Rattle.script_session.specs.declared.report.End.{End}
use Rattle.script_session.specs.declared.report.End.TheVariants.{Refused}
use Rattle.script_session.specs.declared.report.PickNote.{PickNote}
use Rattle.script_session.specs.declared.report.Refusal.{Refusal}
use Rattle.script_session.specs.declared.report.Refusal.TheVariants as refusal
use Rattle.script_session.specs.declared.report.Report.{Report}
use Rattle.script_session.specs.declared.report.Row.{Row}
use Rattle.script_session.specs.declared.session.Session.{Session}
use Rattle.run_course.specs.Legal.{Scripted, scripted}
use Rattle.run_course.specs.LegalReports.{IsRowAt, packet_of}

-- how many of the rows before this one have an id
abbrev pub ids_before : Report → ℕ → ℕ
ids_before r k = count_by (λ (row : Row). is_some row.id) (take k r.calls)

-- and how many of those are of this line
abbrev pub ids_of_line_before : Report → ℕ → ℕ → ℕ
ids_of_line_before r line k = count_by (λ (row : Row). is_some row.id && (row.line == line)) (take k r.calls)

abbrev pub IsScriptedAt : Session → ℕ → Scripted → Type 0
IsScriptedAt s k call = slice_get (scripted s.events) k ≡ Some call

abbrev pub IsRefusal : End → Type 0
IsRefusal (Refused why) = Unit {0}
IsRefusal _ = ⊥

-- a full line picks no node, and else the one node is picked
abbrev pub pick_before : Refusal → Option PickNote
pick_before refusal.Full = None
pick_before (refusal.Closed word) = live_node

abbrev pub pick_of_end : End → Option PickNote
pick_of_end (Refused why) = pick_before why
pick_of_end _ = live_node

pub record IsOneNode (s : Session) (r : Report) : Type 0 where
  -- one log, of the one node
  pub log : LinkLog
  pub one_log : r.links ≡ log ∷ []
  pub node : log.node ≡ NODE
  -- and the link was not cut
  pub whole : (log.torn ≡ []) × (log.cut ≡ None)
  -- so a call that a packet ended was ended by one of that node
  pub nodes : (k : ℕ) (row : Row) (node packet : ℕ) → IsRowAt r k row → packet_of row.end ≡ Some (node, packet) → node ≡ NODE
  -- a call is refused as full exactly where as many as the width of the calls of its line before it have an id
  pub full : (k : ℕ) (row : Row) → IsRowAt r k row → (row.end ≡ Refused refusal.Full) ↔ (WIDTH ≤ ids_of_line_before r row.line k)
  -- a call is refused as closed exactly where a close came before it and its line is not full
  pub late :
      (k : ℕ) (row : Row) (call : Scripted) → IsRowAt r k row → IsScriptedAt s k call
      → (row.end ≡ Refused (refusal.Closed 0)) ↔ ((call.closed ≡ true) × (ids_of_line_before r row.line k < WIDTH))
  -- a call has no id exactly where it is refused
  pub unsent : (k : ℕ) (row : Row) → IsRowAt r k row → (row.id ≡ None) ↔ IsRefusal row.end
  -- ids count from 1
  pub ids : (k : ℕ) (row : Row) (id : CallId) → IsRowAt r k row → row.id ≡ Some id → id.0 ≡ suc (ids_before r k)
  -- the one node is picked, but not where the line is full
  pub picks : (k : ℕ) (row : Row) → IsRowAt r k row → row.pick ≡ pick_of_end row.end
