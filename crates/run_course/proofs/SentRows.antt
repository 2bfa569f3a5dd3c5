-- What was sent are the requests of the calls with an id, by the rows of the report.
use Rattle.std.proofs.Common.{◌≡◌, ℕ, true, false, List, [], ◌∷◌, ◌++◌, take, map, Option, Some, refl, sym, ap, ◌∙◌}
use Rattle.std.specs.Prelude.{slice_get, filter_map, nat_le, if◌then◌else◌}
use Rattle.std.specs.List.{zip}
use Rattle.script_session.specs.Sessions.{WIDTH, NODE}
use Rattle.script_session.specs.declared.link_log.LinkLog.{LinkLog}
use Rattle.script_session.specs.declared.session.CallSpec.{CallSpec}
use Rattle.script_session.specs.declared.report.CallId.{CallId}
use Rattle.script_session.specs.declared.report.PickNote.{PickNote}
use Rattle.script_session.specs.declared.report.Refusal.TheVariants as refusal
use Rattle.script_session.specs.declared.report.Row.{Row}
use Rattle.script_session.specs.declared.report.Why.TheVariants.{Live}
use Rattle.script_session.specs.declared.session.Session.{Session}
use Rattle.run_course.specs.Courses.{Stage, refused, opened, Noted, Link, Course, next_id}
use Rattle.run_course.specs.Planned.{id_of, row_of, link_log, ended, report_of}
use Rattle.run_course.specs.Legal.{sent_of_stage, sent_of, Scripted, scripted, Opening, as_full, as_closed, under, opening_of, pick_of, opened_of, opening_after, IsAsScripted}
use Rattle.run_course.specs.LegalReports.{log_of, IsRowAt, frame_under, frame_of, HasLog, AreSent}
use Rattle.run_course.proofs.Lists.{none_some, get_unmap, of_cond}
use Rattle.run_course.proofs.Openings.{AllAfter, runs_open, as_scripted}
use Rattle.run_course.proofs.Sent.{runs_sent}
use Rattle.run_course.proofs.OneLink.{log_is, one_log, runs_one}

-- ---- frames, by rows

stage_frame : (s : Session) (node : ℕ) (spec : CallSpec) (stage : Stage) → sent_of_stage s node spec stage ≡ frame_under s node spec (pick_of (opening_of stage)) (id_of stage)
stage_frame s node spec (refused refusal.Full) = refl
stage_frame s node spec (refused (refusal.Closed word)) = refl
stage_frame s node spec (opened life) = refl

call_frame : (s : Session) (node : ℕ) (text : Scripted) (call : Noted) → call.spec ≡ text.spec → call.pick ≡ pick_of (opening_of call.stage)
    → sent_of s node call ≡ frame_of s node (row_of s call, text)
call_frame s node text call spec pick =
    ap (λ (p : CallSpec). sent_of_stage s node p call.stage) spec
    ∙ (stage_frame s node text.spec call.stage ∙ ap (λ (p : Option PickNote). frame_under s node text.spec p (id_of call.stage)) (sym pick))

rows_frames : (s : Session) (node : ℕ) (before : List Noted) (texts : List Scripted) (calls : List Noted) → AllAfter before texts calls
    → filter_map (sent_of s node) calls ≡ filter_map (frame_of s node) (zip (map (row_of s) calls) texts)
rows_frames s node before [] [] all = refl
rows_frames s node before [] (c ∷ calls) all = absurd all
rows_frames s node before (t ∷ texts) [] all = absurd all
rows_frames s node before (t ∷ texts) (c ∷ calls) all =
    rw (call_frame s node t c all.0.spec all.0.pick, rows_frames s node (before ++ c ∷ []) texts calls all.1) refl

-- ---- the node of a call

-- by the cases of an opening
pub by_opening : (before : List Noted) (text : Scripted) (Q : Opening → Type 0) → (nat_le WIDTH (opened_of text.spec.line before) ≡ true → Q as_full)
    → (nat_le WIDTH (opened_of text.spec.line before) ≡ false → text.closed ≡ true → Q (as_closed 0))
    → (nat_le WIDTH (opened_of text.spec.line before) ≡ false → text.closed ≡ false → Q (under (next_id before) NODE)) → Q (opening_after before text)
by_opening before text Q full late sent =
    of_cond (nat_le WIDTH (opened_of text.spec.line before)) Q as_full (if text.closed then as_closed 0 else under (next_id before) NODE) full
    (λ room. of_cond text.closed Q (as_closed 0) (under (next_id before) NODE) (late room) (sent room))

abbrev node_of_opening : Opening → ℕ
node_of_opening as_full = NODE
node_of_opening (as_closed word) = NODE
node_of_opening (under id node) = node

opened_at_node : (before : List Noted) (text : Scripted) → node_of_opening (opening_after before text) ≡ NODE
opened_at_node before text = by_opening before text (λ o. node_of_opening o ≡ NODE) (λ full. refl) (λ room late. refl) (λ room open_still. refl)

picked : (stage : Stage) (id : CallId) → id_of stage ≡ Some id → pick_of (opening_of stage) ≡ Some (record { node = node_of_opening (opening_of stage); why = Live })
picked (refused why) id e = absurd (none_some id e)
picked (opened life) id e = refl

row_has_log : (s : Session) (k : ℕ) (row : Row) (id : CallId) → IsRowAt (report_of s (ended s s.events)) k row → row.id ≡ Some id → HasLog (report_of s (ended s s.events)) row.pick
row_has_log s k row id e row_id =
    record {
      note = record { node = NODE; why = Live };
      pick_is = ap (λ (r : Row). r.pick) found.2
          ∙ (after.2.pick ∙ (picked found.0.stage id (sym (ap (λ (r : Row). r.id) found.2) ∙ row_id)
          ∙ ap (λ n. Some (record { node = n; why = Live })) (ap node_of_opening after.2.opening ∙ opened_at_node (take k (ended s s.events).calls) after.0)));
      log = link_log NODE one.0;
      log_is = ap (λ ls. log_of NODE ls) one.1;
    }
  where
    found : (call : Noted) × (slice_get (ended s s.events).calls k ≡ Some call) × (row ≡ row_of s call)
    found = get_unmap (row_of s) (ended s s.events).calls k row e

    after : (text : Scripted) × (slice_get (scripted s.events) k ≡ Some text) × IsAsScripted (ended s s.events) k found.0 text
    after = as_scripted s s.events k found.0 found.1

    one : (link : Link) × ((report_of s (ended s s.events)).links ≡ link_log NODE link ∷ [])
    one = one_log s (ended s s.events) (runs_one s s.events)

pub rows_sent : (s : Session) → AreSent s (report_of s (ended s s.events))
rows_sent s =
    record {
      nodes = λ node log e. ap (λ (l : LinkLog). l.node) (log_is s c node log e).2;
      frames = λ node log e. let found = log_is s c node log e in
          ap (λ (l : LinkLog). l.sent) found.2 ∙ (runs_sent s s.events node found.0 found.1 ∙ rows_frames s node [] (scripted s.events) c.calls (runs_open s s.events));
      logs = row_has_log s;
    }
  where
    c : Course
    c = ended s s.events
