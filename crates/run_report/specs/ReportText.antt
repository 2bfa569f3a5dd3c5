-- The text of a report (docs/SCRIPTS.md, "Reports").
use Rattle.std.specs.Prelude.{ℕ, ◌+◌, Bool, false, ◌==◌, not, if◌then◌else◌, Option, Some, None, List, [], ◌∷◌, ◌++◌, length, count_by, slice_get, codes}
use Rattle.std.specs.List.{flat_map}
use Rattle.std.specs.Fmt.{decimal}
use Rattle.hex.specs.Hex.{encode_upper}
use Rattle.script_session.specs.declared.link_log.GotFate.{GotFate}
use Rattle.script_session.specs.declared.link_log.GotFate.TheVariants.{Used, Late}
use Rattle.script_session.specs.declared.link_log.GotRow.{GotRow}
use Rattle.script_session.specs.declared.link_log.LinkLog.{LinkLog}
use Rattle.script_session.specs.declared.link_log.SentRow.{SentRow}
use Rattle.script_session.specs.declared.session.Session.{Session}
use Rattle.script_session.specs.declared.report.CallId.{CallId}
use Rattle.script_session.specs.declared.report.PickNote.{PickNote}
use Rattle.script_session.specs.declared.report.Report.{Report}
use Rattle.script_session.specs.declared.report.Row.{Row}
use Rattle.script_session.specs.ReportWords.{why_text}
use Rattle.script_session.specs.Sessions.{client_funcs}
use Rattle.tars_model.specs.declared.func_desc.FuncDesc.{FuncDesc}
use Rattle.run_report.specs.EndText.{end_text}

-- The line of a call: `call K line L FUNC[ node N WHY][ id I] END`.

-- ` node N WHY`, where a node was picked
unfoldable pub pick_text : Option PickNote → List ℕ
pick_text None = []
pick_text (Some pick) = codes " node " ++ decimal pick.node ++ codes " " ++ why_text pick.why

-- ` id I`, where the call was opened
unfoldable pub id_text : Option CallId → List ℕ
id_text None = []
id_text (Some id) = codes " id " ++ decimal id.0

-- the function of a number in the caller's version
abbrev pub func_at : Session → ℕ → Option FuncDesc
func_at l func = slice_get (client_funcs l) func

abbrev pub name_of : Option FuncDesc → List ℕ
name_of None = []
name_of (Some func) = func.name

-- what follows the function's name
unfoldable pub outcome_text : Session → Row → List ℕ
outcome_text l row =
    pick_text row.pick ++ id_text row.id ++ codes " " ++ end_text l.client (func_at l row.func) row.end ++ codes "\n"

unfoldable pub call_line : Session → Row → List ℕ
call_line l row =
    codes "call " ++ decimal row.call ++ codes " line " ++ decimal row.line ++ codes " " ++ name_of (func_at l row.func)
    ++ outcome_text l row

-- The lines of a node: `sent NODE NUMBER call K HEX` and `got NODE NUMBER FATE HEX`, numbers from 1.

unfoldable pub sent_line : ℕ → ℕ → SentRow → List ℕ
sent_line node number row =
    codes "sent " ++ decimal node ++ codes " " ++ decimal number ++ codes " call " ++ decimal row.call
    ++ codes " " ++ encode_upper row.frame ++ codes "\n"

abbrev pub is_id : CallId → Option CallId → Bool
is_id id None = false
is_id id (Some own) = own.0 == id.0

-- the number of the call whose row has the id, and 0 where none has it
abbrev pub call_with : List Row → CallId → ℕ
call_with [] id = 0
call_with (row ∷ rows) id = if is_id id row.id then row.call else call_with rows id

-- `used K`, with the number of the call that the packet settled, or `late`
unfoldable pub fate_text : (CallId → ℕ) → GotFate → List ℕ
fate_text call (Used id) = codes "used " ++ decimal (call id)
fate_text call (Late word) = codes "late"

unfoldable pub got_line : (CallId → ℕ) → ℕ → ℕ → GotRow → List ℕ
got_line call node number row =
    codes "got " ++ decimal node ++ codes " " ++ decimal number ++ codes " " ++ fate_text call row.fate
    ++ codes " " ++ encode_upper row.packet ++ codes "\n"

-- a line for each row, which is given its number
abbrev pub numbered_lines : {X : Type 0} → (ℕ → X → List ℕ) → ℕ → List X → List ℕ
numbered_lines line number [] = []
numbered_lines line number (row ∷ rows) = line number row ++ numbered_lines line (number + 1) rows

-- what was sent to a node
abbrev pub sent_lines : LinkLog → List ℕ
sent_lines link = numbered_lines (sent_line link.node) 1 link.sent

-- what was got from a node
abbrev pub got_lines : (CallId → ℕ) → LinkLog → List ℕ
got_lines call link = numbered_lines (got_line call link.node) 1 link.got

-- `done calls C two-way T one-way O`
unfoldable pub done_line : List Row → List ℕ
done_line rows =
    codes "done calls " ++ decimal (length rows) ++ codes " two-way " ++ decimal (count_by (λ row. row.two_way) rows)
    ++ codes " one-way " ++ decimal (count_by (λ row. not row.two_way) rows) ++ codes "\n"

-- the lines of the calls, the sent lines of all nodes, the got lines of all nodes, and the last line
abbrev pub report_text_of : Session → Report → List ℕ
report_text_of l report =
    flat_map (call_line l) report.calls ++ flat_map sent_lines report.links
    ++ flat_map (got_lines (call_with report.calls)) report.links ++ done_line report.calls
