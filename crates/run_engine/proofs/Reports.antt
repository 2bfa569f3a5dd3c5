-- The report that a run ends in.
use Rattle.std.proofs.Common.{◌≡◌, ◌+◌, ℕ, suc, add-one, Bool, true, false, cond, List, [], ◌∷◌, ◌++◌, map, Option, Some, None, refl, sym, ap, ◌∙◌, subst, append-nil, append_assoc}
use Rattle.std.specs.Prelude.{option_map, filter_map, Result, Ok, Err}
use Rattle.tars_decode.specs.declared.refuse.Refuse.{Refuse}
use Rattle.std.specs.List.{cons_option}
use Rattle.script_session.specs.declared.link_log.LinkLog.{LinkLog}
use Rattle.tars_decode.specs.Reads.{is_zero}
use Rattle.tars_model.specs.declared.value.Value.{Value}
use Rattle.script_session.specs.declared.report.End.TheVariants.{Code}
use Rattle.script_session.specs.declared.report.Report.{Report}
use Rattle.script_session.specs.declared.report.RouteStep.TheVariants.{Reported}
use Rattle.script_session.specs.declared.report.RouteStep.{RouteStep}
use Rattle.script_session.specs.declared.report.Row.{Row}
use Rattle.script_session.specs.declared.session.Session.{Session}
use Rattle.run_course.specs.Courses as course
use Rattle.run_course.specs.Courses.{Course, Link, Noted, Stage, refused, opened}
use Rattle.run_course.specs.Planned.{row_of, stage_end, fate_end, reply_end, reply_values, body_end, success, link_log, logs_from, collects, collected_call, collected_all, picked_step, report_step, reported_step, report_of}
use Rattle.run_course.specs.LegalReports.{picked_of, reported_of, report_of_packet, packet_of}
use Rattle.run_course.proofs.Lists.{map_same, filter_map_same}
use Rattle.run_engine.specs.declared.call_note.CallNote.{CallNote}
use Rattle.run_engine.specs.declared.fate.Fate.{Fate}
use Rattle.run_engine.specs.declared.link_ends.LinkEnds.{LinkEnds}
use Rattle.run_engine.specs.Tracks.{TracksLink, TrackLinks}
use Rattle.run_engine.specs.Claims.{claim_of_stage, claims_of, fate_of, told}
use Rattle.run_engine.specs.Notes.{note_of, notes_of, fates_left}
use Rattle.run_engine.proofs.Lists.{same_head, same_tail}

fates_of_stage : (line : ℕ) (stage : Stage) (calls : List Noted) → map fate_of (cons_option (claim_of_stage line stage) (claims_of calls)) ≡ fates_left stage (map fate_of (claims_of calls))
fates_of_stage line (refused why) calls = refl
fates_of_stage line (opened life) calls = refl

pub fates_of_call : (call : Noted) (calls : List Noted) → map fate_of (claims_of (call ∷ calls)) ≡ fates_left call.stage (map fate_of (claims_of calls))
fates_of_call call calls = fates_of_stage call.spec.line call.stage calls

-- these calls are left, and with their rows the rows are those of all
pub record AreLeft (s : Session) (notes : List CallNote) (fates : List (Option Fate)) (rows all : List Row) : Type 0 where
  pub calls : List Noted
  pub notes_are : notes ≡ notes_of calls
  pub fates_are : map (option_map told) fates ≡ map fate_of (claims_of calls)
  pub rows_are : rows ++ map (row_of s) calls ≡ all

-- the first of them
pub record IsFirst (s : Session) (note : CallNote) (notes : List CallNote) (fates : List (Option Fate)) (rows all : List Row) : Type 0 where
  pub call : Noted
  pub others : List Noted
  pub note_is : note ≡ note_of call
  pub notes_are : notes ≡ notes_of others
  pub fates_are : map (option_map told) fates ≡ fates_left call.stage (map fate_of (claims_of others))
  pub rows_are : rows ++ row_of s call ∷ map (row_of s) others ≡ all

no_notes : {note : CallNote} {notes : List CallNote} → ◌≡◌ {A = List CallNote} [] (note ∷ notes) → ⊥
no_notes e = cc

pub first_left : (s : Session) (note : CallNote) (notes left : List CallNote) (fates : List (Option Fate)) (rows all : List Row) → AreLeft s left fates rows all → left ≡ note ∷ notes
    → IsFirst s note notes fates rows all
first_left s note notes left fates rows all l e = go l.calls l.notes_are l.fates_are l.rows_are
  where
    go : (calls : List Noted) → left ≡ notes_of calls → map (option_map told) fates ≡ map fate_of (claims_of calls) → rows ++ map (row_of s) calls ≡ all → IsFirst s note notes fates rows all
    go [] n f r = absurd (no_notes (sym n ∙ e))
    go (call ∷ calls) n f r = record {
      call = call;
      others = calls;
      note_is = same_head (sym e ∙ n);
      notes_are = same_tail (sym e ∙ n);
      fates_are = f ∙ fates_of_call call calls;
      rows_are = r;
    }

pub one_row : (s : Session) (note : CallNote) (notes : List CallNote) (fates left : List (Option Fate)) (rows new all : List Row) (row : Row)
    → (f : IsFirst s note notes fates rows all) → row ≡ row_of s f.call → new ≡ rows ++ row ∷ [] → map (option_map told) left ≡ map fate_of (claims_of f.others) → AreLeft s notes left new all
one_row s note notes fates left rows new all row f is more rest = record {
  calls = f.others;
  notes_are = f.notes_are;
  fates_are = rest;
  rows_are = ap (λ rs. rs ++ map (row_of s) f.others) more ∙ append_assoc rows (row ∷ []) (map (row_of s) f.others)
      ∙ ap (λ (r : Row). rows ++ r ∷ map (row_of s) f.others) is ∙ f.rows_are;
}

pub no_rows_left : (s : Session) (notes : List CallNote) (fates : List (Option Fate)) (rows all : List Row) → AreLeft s notes fates rows all → notes ≡ [] → rows ≡ all
no_rows_left s notes fates rows all l none = go l.calls (sym l.notes_are ∙ none) l.rows_are
  where
    go : (calls : List Noted) → notes_of calls ≡ [] → rows ++ map (row_of s) calls ≡ all → rows ≡ all
    go [] e r = sym (append-nil rows) ∙ r
    go (call ∷ calls) e r = absurd (no_notes (sym e))

-- ---- logs

pub record IsFirstLink (s : Session) (ends : LinkEnds) (more : List LinkEnds) (node : ℕ) (logs all : List LinkLog) : Type 0 where
  pub link : Link
  pub others : List Link
  pub tracks : TracksLink s ends link
  pub others_track : TrackLinks s more others
  pub logs_are : logs ++ link_log node link ∷ logs_from (suc node) others ≡ all

first_link : (s : Session) (ends : LinkEnds) (more : List LinkEnds) (node : ℕ) (logs all : List LinkLog) (left : List Link) → TrackLinks s (ends ∷ more) left → logs ++ logs_from node left ≡ all
    → IsFirstLink s ends more node logs all
first_link s ends more node logs all [] t e = absurd t
first_link s ends more node logs all (link ∷ others) t e = record { link = link; others = others; tracks = t.0; others_track = t.1; logs_are = e }

pub link_first : (s : Session) (ends : LinkEnds) (more links : List LinkEnds) (node : ℕ) (logs all : List LinkLog) (left : List Link) → links ≡ ends ∷ more → TrackLinks s links left
    → logs ++ logs_from node left ≡ all → IsFirstLink s ends more node logs all
link_first s ends more links node logs all left first t e = first_link s ends more node logs all left (subst (λ ls. TrackLinks s ls left) first t) e

pub one_log : (node : ℕ) (logs new all : List LinkLog) (log : LinkLog) (link : Link) (others : List Link) → logs ++ link_log node link ∷ logs_from (suc node) others ≡ all
    → log ≡ link_log node link → new ≡ logs ++ log ∷ [] → new ++ logs_from (node + 1) others ≡ all
one_log node logs new all log link others e is more =
    ap (λ ls. ls ++ logs_from (node + 1) others) more ∙ append_assoc logs (log ∷ []) (logs_from (node + 1) others)
    ∙ ap (λ (l : LinkLog). logs ++ l ∷ logs_from (node + 1) others) is ∙ ap (λ n. logs ++ link_log node link ∷ logs_from n others) (add-one node) ∙ e

pub no_logs_left : (s : Session) (links : List LinkEnds) (node : ℕ) (logs all : List LinkLog) (left : List Link) → links ≡ [] → TrackLinks s links left → logs ++ logs_from node left ≡ all → logs ≡ all
no_logs_left s links node logs all left none t e = go left (subst (λ ls. TrackLinks s ls left) none t) e
  where
    go : (left : List Link) → TrackLinks s [] left → logs ++ logs_from node left ≡ all → logs ≡ all
    go [] t e = sym (append-nil logs) ∙ e
    go (link ∷ links) t e = absurd t

-- ---- the report

collected_row : (s : Session) (call : Noted) → row_of s (collected_call call) ≡ row_of s call
collected_row s call = go call.stage
  where
    go : (stage : Stage) → row_of s (record call { stage = collects stage }) ≡ row_of s (record call { stage = stage })
    go (refused why) = refl
    go (opened life) = refl

collected_reported : (call : Noted) → reported_step (collected_call call) ≡ reported_step call
collected_reported call = go call.stage
  where
    go : (stage : Stage) → report_step call.spec.call (collects stage) ≡ report_step call.spec.call stage
    go (refused why) = refl
    go (opened life) = refl

end_reported : (s : Session) (func call : ℕ) (fate : Option course.Fate) → report_of_packet call (packet_of (fate_end s func fate)) ≡ success call fate
unfolding reply_end
end_reported s func call None = refl
end_reported s func call (Some course.closed) = refl
end_reported s func call (Some (course.replied node packet r)) = by_code (is_zero r.ret) (reply_values s func r.body)
  where
    by_values : (values : Result (List Value) Refuse) → report_of_packet call (packet_of (body_end node packet values)) ≡ Some (Reported call node 0 true 0)
    by_values (Ok values) = refl
    by_values (Err why) = refl

    by_code : (b : Bool) (values : Result (List Value) Refuse) → report_of_packet call (packet_of (cond b (body_end node packet values) (Code node packet r.ret))) ≡ Some (Reported call node 0 true 0)
    by_code true values = by_values values
    by_code false values = refl

row_reported : (s : Session) (func call : ℕ) (stage : Stage) → report_of_packet call (packet_of (stage_end s func stage)) ≡ report_step call stage
row_reported s func call (refused why) = refl
row_reported s func call (opened life) = end_reported s func call life.fate

pub report_is : (s : Session) (c : Course) (rows : List Row) (links : List LinkLog) (routes : List RouteStep) → rows ≡ map (row_of s) c.calls → links ≡ logs_from 1 c.links
    → routes ≡ filter_map picked_of rows ++ filter_map reported_of rows
    → ◌≡◌ {A = Report} (record { calls = rows; links = links; routes = routes }) (report_of s (collected_all c))
report_is s c rows links routes are logs steps = same
    (are ∙ sym (map_same (row_of s) collected_call (row_of s) (collected_row s) c.calls)) logs
    (steps ∙ both
    (ap (λ rs. filter_map picked_of rs) are ∙ filter_map_same picked_of (row_of s) picked_step (λ call. refl) c.calls ∙ sym (filter_map_same picked_step collected_call picked_step (λ call. refl) c.calls))
    (ap (λ rs. filter_map reported_of rs) are ∙ filter_map_same reported_of (row_of s) reported_step (λ (call : Noted). row_reported s call.spec.func call.spec.call call.stage) c.calls ∙ sym (filter_map_same reported_step collected_call reported_step collected_reported c.calls)))
  where
    both : {a b x y : List RouteStep} → a ≡ x → b ≡ y → a ++ b ≡ x ++ y
    both e f = cc

    same : {a x : List Row} {b y : List LinkLog} {d z : List RouteStep} → a ≡ x → b ≡ y → d ≡ z
        → ◌≡◌ {A = Report} (record { calls = a; links = b; routes = d }) (record { calls = x; links = y; routes = z })
    same e f g = cc
