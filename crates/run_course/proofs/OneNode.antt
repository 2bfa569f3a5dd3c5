-- The rows of the report, while there is one node: which are refused, their ids, and what they picked.
use Rattle.std.proofs.Common.{◌≡◌, ◌<◌, ◌≤◌, ◌↔◌, ℕ, zero, suc, true, false, ◌&&◌, List, [], ◌∷◌, take, Option, Some, None, is_some, refl, sym, ap, ◌∙◌, subst, arith, count_by, slice_get}
use Rattle.std.specs.Prelude.{nat_le, ◌==◌, Result, Ok, Err}
use Rattle.std.proofs.lemmas.Bool.{leb-true, leb-false, le-leb}
use Rattle.std.proofs.lemmas.List.{take-map}
use Rattle.tars_decode.specs.Reads.{is_zero}
use Rattle.tars_decode.specs.declared.refuse.Refuse.{Refuse}
use Rattle.tars_model.specs.declared.value.Value.{Value}
use Rattle.script_session.specs.Sessions.{WIDTH, NODE, live_node}
use Rattle.script_session.specs.declared.link_log.GotRow.{GotRow}
use Rattle.script_session.specs.declared.link_log.LinkLog.{LinkLog}
use Rattle.script_session.specs.declared.report.Report.{Report}
use Rattle.script_session.specs.declared.report.CallId.{CallId}
use Rattle.script_session.specs.declared.report.End.{End}
use Rattle.script_session.specs.declared.report.End.TheVariants.{Value as ValueEnd, Code, Undecoded, Closed, Refused}
use Rattle.script_session.specs.declared.report.Refusal.{Refusal}
use Rattle.script_session.specs.declared.report.Refusal.TheVariants as refusal
use Rattle.script_session.specs.declared.report.Row.{Row}
use Rattle.script_session.specs.declared.session.CallSpec.{CallSpec}
use Rattle.script_session.specs.declared.session.Session.{Session}
use Rattle.rpc_packet.specs.declared.response.Response.{Response}
use Rattle.run_course.specs.Courses.{Fate, replied, closed, Stage, refused, opened, Noted, Course, is_opened, next_id}
use Rattle.run_course.specs.Planned.{body_end, reply_values, reply_end, fate_end, stage_end, id_of, row_of, link_log, ended, report_of, planned}
use Rattle.run_course.specs.Legal.{IsCallAt, Scripted, Opening, as_full, as_closed, under, opening_of, pick_of, opened_of, opening_after, IsAsScripted}
use Rattle.run_course.specs.LegalReports.{log_of, got_in_log, got_in, IsRowAt, IsSaid, EndHasCause, packet_of}
use Rattle.run_course.specs.OneNode.{ids_before, ids_of_line_before, IsScriptedAt, IsRefusal, pick_of_end, IsOneNode}
use Rattle.run_course.proofs.Lists.{some_same, none_some, get_unmap, of_cond, count_map}
use Rattle.run_course.proofs.Openings.{as_scripted, id_after}
use Rattle.run_course.proofs.SentRows.{by_opening}
use Rattle.run_course.proofs.Reports.{opened_under, row_cause}
use Rattle.run_course.proofs.Runs.{runs_caused}
use Rattle.run_course.proofs.OneLink.{one_log, runs_one}

-- ---- how a call that was opened ends

-- no reply is a refusal, and a reply is of the one node
pub record IsOpenEnd (end : End) : Type 0 where
  pub not_refused : IsRefusal end → ⊥
  pub pick : pick_of_end end ≡ live_node

reply_open : (s : Session) (func node packet : ℕ) (r : Response) → IsOpenEnd (reply_end s func node packet r)
unfolding reply_end
reply_open s func node packet r =
    of_cond (is_zero r.ret) IsOpenEnd (body_end node packet (reply_values s func r.body)) (Code node packet r.ret)
    (λ success. values (reply_values s func r.body)) (λ failure. record { not_refused = λ e. e; pick = refl })
  where
    values : (o : Result (List Value) Refuse) → IsOpenEnd (body_end node packet o)
    values (Err why) = record { not_refused = λ e. e; pick = refl }
    values (Ok vs) = record { not_refused = λ e. e; pick = refl }

fate_open : (s : Session) (func : ℕ) (fate : Option Fate) → IsOpenEnd (fate_end s func fate)
fate_open s func None = record { not_refused = λ e. e; pick = refl }
fate_open s func (Some closed) = record { not_refused = λ e. e; pick = refl }
fate_open s func (Some (replied node packet r)) = reply_open s func node packet r

refuses : (why : Refusal) (end : End) → end ≡ Refused why → IsRefusal end
refuses why end e = subst IsRefusal (sym e) (record {})

same_refusal : (why other : Refusal) → Refused why ≡ Refused other → why ≡ other
same_refusal why other e = cc e

-- a call ends as refused where it was refused at first
full_end : (s : Session) (func : ℕ) (stage : Stage) → (stage_end s func stage ≡ Refused refusal.Full) ↔ (opening_of stage ≡ as_full)
full_end s func (refused refusal.Full) = (λ e. refl, λ o. refl)
full_end s func (refused (refusal.Closed word)) = (λ e. absurd (cc e), λ o. absurd (cc o))
full_end s func (opened life) = (λ e. absurd ((fate_open s func life.fate).not_refused (refuses refusal.Full (fate_end s func life.fate) e)), λ o. absurd (cc o))

late_end : (s : Session) (func : ℕ) (stage : Stage) → (stage_end s func stage ≡ Refused (refusal.Closed 0)) ↔ (opening_of stage ≡ as_closed 0)
late_end s func (refused refusal.Full) = (λ e. absurd (cc e), λ o. absurd (cc o))
late_end s func (refused (refusal.Closed word)) = (λ e. cc e, λ o. cc o)
late_end s func (opened life) = (λ e. absurd ((fate_open s func life.fate).not_refused (refuses (refusal.Closed 0) (fate_end s func life.fate) e)), λ o. absurd (cc o))

unsent_end : (s : Session) (func : ℕ) (stage : Stage) → (id_of stage ≡ None) ↔ IsRefusal (stage_end s func stage)
unsent_end s func (refused why) = (λ e. record {}, λ r. refl)
unsent_end s func (opened life) = (λ e. absurd (none_some _ (sym e)), λ r. absurd ((fate_open s func life.fate).not_refused r))

picked_end : (s : Session) (func : ℕ) (stage : Stage) (before : List Noted) (text : Scripted) → opening_of stage ≡ opening_after before text → pick_of (opening_of stage) ≡ pick_of_end (stage_end s func stage)
picked_end s func (refused refusal.Full) before text e = refl
picked_end s func (refused (refusal.Closed word)) before text e = refl
picked_end s func (opened life) before text e =
    by_opening before text (λ (o : Opening). under life.id life.node ≡ o → pick_of (under life.id life.node) ≡ live_node) (λ full o. absurd (cc o)) (λ room late o. absurd (cc o))
    (λ room open_still o. ap pick_of o) e ∙ sym (fate_open s func life.fate).pick

-- ---- which openings are refused

full_opening : (before : List Noted) (text : Scripted) → (opening_after before text ≡ as_full) ↔ (WIDTH ≤ opened_of text.spec.line before)
full_opening before text =
    by_opening before text (λ (o : Opening). (o ≡ as_full) ↔ (WIDTH ≤ opened_of text.spec.line before))
    (λ full. (λ o. leb-true WIDTH (opened_of text.spec.line before) full, λ more. refl))
    (λ room late. (λ o. absurd (cc o), λ more. absurd (not_both more room)))
    (λ room open_still. (λ o. absurd (cc o), λ more. absurd (not_both more room)))
  where
    not_both : WIDTH ≤ opened_of text.spec.line before → nat_le WIDTH (opened_of text.spec.line before) ≡ false → ⊥
    not_both more room = let test = le-leb WIDTH (opened_of text.spec.line before) more in cc (test, room)

late_opening : (before : List Noted) (text : Scripted) → (opening_after before text ≡ as_closed 0) ↔ ((text.closed ≡ true) × (opened_of text.spec.line before < WIDTH))
late_opening before text =
    by_opening before text (λ (o : Opening). (o ≡ as_closed 0) ↔ ((text.closed ≡ true) × (opened_of text.spec.line before < WIDTH)))
    (λ full. (λ o. absurd (cc o), λ both. absurd (not_less both.1 (leb-true WIDTH (opened_of text.spec.line before) full))))
    (λ room late. (λ o. (late, leb-false WIDTH (opened_of text.spec.line before) room), λ both. refl))
    (λ room open_still. (λ o. absurd (cc o), λ both. absurd (not_both both.0 open_still)))
  where
    not_less : opened_of text.spec.line before < WIDTH → WIDTH ≤ opened_of text.spec.line before → ⊥
    not_less less more = absurd (omega (arith, less, more))

    not_both : text.closed ≡ true → text.closed ≡ false → ⊥
    not_both late open_still = cc (late, open_still)

-- ---- rows are counted as calls

id_is_some : (stage : Stage) → is_some (id_of stage) ≡ is_opened stage
id_is_some (refused why) = refl
id_is_some (opened life) = refl

line_count : (s : Session) (c : Course) (line k : ℕ) → ids_of_line_before (report_of s c) line k ≡ opened_of line (take k c.calls)
line_count s c line k =
    ap (λ rows. count_by (λ (row : Row). is_some row.id && (row.line == line)) rows) (take-map (row_of s) k c.calls)
    ∙ count_map (λ (row : Row). is_some row.id && (row.line == line)) (λ (call : Noted). is_opened call.stage && (call.spec.line == line)) (row_of s)
    (λ call. ap (λ b. b && (call.spec.line == line)) (id_is_some call.stage)) (take k c.calls)

id_count : (s : Session) (c : Course) (k : ℕ) → suc (ids_before (report_of s c) k) ≡ next_id (take k c.calls)
id_count s c k =
    ap (λ rows. suc (count_by (λ (row : Row). is_some row.id) rows)) (take-map (row_of s) k c.calls)
    ∙ ap suc (count_map (λ (row : Row). is_some row.id) (λ (call : Noted). is_opened call.stage) (row_of s) (λ call. id_is_some call.stage) (take k c.calls))

-- ---- the rows of the report

pub record IsRowOf (s : Session) (k : ℕ) (row : Row) : Type 0 where
  pub call : Noted
  pub call_is : IsCallAt (ended s s.events) k call
  pub row_is : row ≡ row_of s call
  pub text : Scripted
  pub text_is : IsScriptedAt s k text
  pub is_as : IsAsScripted (ended s s.events) k call text

pub row_is_of : (s : Session) (k : ℕ) (row : Row) → IsRowAt (report_of s (ended s s.events)) k row → IsRowOf s k row
row_is_of s k row e =
    let found = get_unmap (row_of s) (ended s s.events).calls k row e in
    let after = as_scripted s s.events k found.0 found.1 in
    record { call = found.0; call_is = found.1; row_is = found.2; text = after.0; text_is = after.1; is_as = after.2 }

-- what holds of the row of a call holds of the row
of_row : (s : Session) (k : ℕ) (row : Row) (of : IsRowOf s k row) (P : Row → Type 0) → P (row_of s of.call) → P row
of_row s k row of P holds = subst P (sym of.row_is) holds

both : {A B C : Type 0} → A ↔ B → B ↔ C → A ↔ C
both f g = (λ a. g.0 (f.0 a), λ c. f.1 (g.1 c))

same_first : (o p q : Opening) → o ≡ p → (o ≡ q) ↔ (p ≡ q)
same_first o p q e = (λ f. sym e ∙ f, λ f. e ∙ f)

full_row : (s : Session) (k : ℕ) (row : Row) → IsRowOf s k row → (row.end ≡ Refused refusal.Full) ↔ (WIDTH ≤ ids_of_line_before (report_of s (ended s s.events)) row.line k)
full_row s k row of =
    of_row s k row of (λ (r : Row). (r.end ≡ Refused refusal.Full) ↔ (WIDTH ≤ ids_of_line_before (report_of s (ended s s.events)) r.line k))
    (both (full_end s of.call.spec.func of.call.stage) (both (same_first _ _ as_full of.is_as.opening)
    (subst (λ n. (opening_after before of.text ≡ as_full) ↔ (WIDTH ≤ n)) counts (full_opening before of.text))))
  where
    before : List Noted
    before = take k (ended s s.events).calls

    counts : opened_of of.text.spec.line before ≡ ids_of_line_before (report_of s (ended s s.events)) of.call.spec.line k
    counts = ap (λ (p : CallSpec). opened_of p.line before) (sym of.is_as.spec) ∙ sym (line_count s (ended s s.events) of.call.spec.line k)

late_row : (s : Session) (k : ℕ) (row : Row) (text : Scripted) → IsRowOf s k row → IsScriptedAt s k text
    → (row.end ≡ Refused (refusal.Closed 0)) ↔ ((text.closed ≡ true) × (ids_of_line_before (report_of s (ended s s.events)) row.line k < WIDTH))
late_row s k row text of e =
    subst (λ (t : Scripted). (row.end ≡ Refused (refusal.Closed 0)) ↔ ((t.closed ≡ true) × (ids_of_line_before (report_of s (ended s s.events)) row.line k < WIDTH)))
    (some_same of.text text (sym of.text_is ∙ e))
    (of_row s k row of (λ (r : Row). (r.end ≡ Refused (refusal.Closed 0)) ↔ ((of.text.closed ≡ true) × (ids_of_line_before (report_of s (ended s s.events)) r.line k < WIDTH)))
    (both (late_end s of.call.spec.func of.call.stage) (both (same_first _ _ (as_closed 0) of.is_as.opening)
    (subst (λ n. (opening_after before of.text ≡ as_closed 0) ↔ ((of.text.closed ≡ true) × (n < WIDTH))) counts (late_opening before of.text)))))
  where
    before : List Noted
    before = take k (ended s s.events).calls

    counts : opened_of of.text.spec.line before ≡ ids_of_line_before (report_of s (ended s s.events)) of.call.spec.line k
    counts = ap (λ (p : CallSpec). opened_of p.line before) (sym of.is_as.spec) ∙ sym (line_count s (ended s s.events) of.call.spec.line k)

id_row : (s : Session) (k : ℕ) (row : Row) (id : CallId) → IsRowOf s k row → row.id ≡ Some id → id.0 ≡ suc (ids_before (report_of s (ended s s.events)) k)
id_row s k row id of e =
    let life = opened_under of.call.stage id (sym (ap (λ (r : Row). r.id) of.row_is) ∙ e) in
    sym life.2 ∙ (id_after s s.events k of.call life.0 of.call_is life.1 ∙ sym (id_count s (ended s s.events) k))

-- what was got of a node that has a log was got of the one node
got_of_one : (r : Report) (log : LinkLog) → r.links ≡ log ∷ [] → (node j : ℕ) (got : GotRow) → slice_get (got_in r node) j ≡ Some got → node ≡ NODE
got_of_one r log one zero j got e = absurd (none_some got e)
got_of_one r log one (suc zero) j got e = refl
got_of_one r log one (suc (suc k)) j got e = absurd (none_some got (sym (ap (λ logs. slice_get (got_in_log (log_of (suc (suc k)) logs)) j) one) ∙ e))

said_of_one : (s : Session) (r : Report) (log : LinkLog) → r.links ≡ log ∷ [] → (own : Option CallId) (node packet : ℕ) (Says : Response → Type 0) → IsSaid s r own node packet Says → node ≡ NODE
said_of_one s r log one own node packet Says said = got_of_one r log one node said.used.0 _ said.used.2

ended_of_one : (s : Session) (r : Report) (log : LinkLog) → r.links ≡ log ∷ [] → (func : ℕ) (own : Option CallId) (end : End) (node packet : ℕ) → EndHasCause s r func own end
    → packet_of end ≡ Some (node, packet) → node ≡ NODE
ended_of_one s r log one func own (ValueEnd n p values) node packet cause e = sym (ap (λ (place : ℕ × ℕ). place.0) (some_same (n, p) (node, packet) e)) ∙ said_of_one s r log one own n p _ cause
ended_of_one s r log one func own (Code n p ret) node packet cause e = sym (ap (λ (place : ℕ × ℕ). place.0) (some_same (n, p) (node, packet) e)) ∙ said_of_one s r log one own n p _ cause
ended_of_one s r log one func own (Undecoded n p why) node packet cause e = sym (ap (λ (place : ℕ × ℕ). place.0) (some_same (n, p) (node, packet) e)) ∙ said_of_one s r log one own n p _ cause
ended_of_one s r log one func own Closed node packet cause e = absurd (none_some (node, packet) e)
ended_of_one s r log one func own (Refused why) node packet cause e = absurd (none_some (node, packet) e)

pub one_node_law : (s : Session) → IsOneNode s (planned s)
unfolding planned
one_node_law s =
    let one = one_log s (ended s s.events) (runs_one s s.events) in
    record {
      log = link_log NODE one.0;
      one_log = one.1;
      node = refl;
      whole = (refl, refl);
      nodes = λ k row node packet e ends.
          ended_of_one s (report_of s (ended s s.events)) (link_log NODE one.0) one.1 row.func row.id row.end node packet (row_cause s (ended s s.events) (runs_caused s s.events) k row e) ends;
      full = λ k row e. full_row s k row (row_is_of s k row e);
      late = λ k row text e t. late_row s k row text (row_is_of s k row e) t;
      unsent = λ k row e. let of = row_is_of s k row e in
          of_row s k row of (λ (r : Row). (r.id ≡ None) ↔ IsRefusal r.end) (unsent_end s of.call.spec.func of.call.stage);
      ids = λ k row id e row_id. id_row s k row id (row_is_of s k row e) row_id;
      picks = λ k row e. let of = row_is_of s k row e in
          of_row s k row of (λ (r : Row). r.pick ≡ pick_of_end r.end)
          (of.is_as.pick ∙ picked_end s of.call.spec.func of.call.stage (take k (ended s s.events).calls) of.text of.is_as.opening);
    }
