-- The report of what happened is legal.
use Rattle.std.proofs.Common.{◌≡◌, ℕ, zero, suc, true, List, [], ◌∷◌, ◌++◌, map, Option, Some, None, refl, sym, ap, ◌∙◌, subst}
use Rattle.std.specs.Prelude.{slice_get, filter_map, Result, Ok, Err}
use Rattle.tars_model.specs.declared.value.Value.{Value}
use Rattle.tars_decode.specs.Reads.{is_zero}
use Rattle.tars_decode.specs.declared.refuse.Refuse.{Refuse}
use Rattle.script_session.specs.declared.link_log.GotFate.TheVariants.{Used}
use Rattle.script_session.specs.declared.link_log.GotRow.{GotRow}
use Rattle.script_session.specs.declared.report.CallId.{CallId}
use Rattle.script_session.specs.declared.report.End.{End}
use Rattle.script_session.specs.declared.report.End.TheVariants.{Value as ValueEnd, Code, Undecoded, Closed, Refused}
use Rattle.script_session.specs.declared.report.Report.{Report}
use Rattle.script_session.specs.declared.report.Row.{Row}
use Rattle.rpc_packet.specs.declared.response.Response.{Response}
use Rattle.script_session.specs.declared.session.Session.{Session}
use Rattle.run_course.specs.Courses.{Fate, replied, closed, Life, Stage, refused, opened, Noted, Link, Course}
use Rattle.run_course.specs.Planned.{body_end, reply_values, reply_end, fate_end, stage_end, id_of, row_of, logs_from, picked_step, reported_step, report_step, success, ended, report_of, planned}
use Rattle.run_course.specs.Legal.{got_of, got_at, HasCause, FateHasCause, CameFor, EndsAs, IsNamed, Scripted, scripted}
use Rattle.run_course.specs.LegalReports.{IsRowAt, heading_of, heading_of_call, got_in_log, got_in, IsUsedRow, IsUnused, IsSaid, SaysBody, SaysCode, EndHasCause, packet_of, IsNamedRow, picked_of, report_of_packet, reported_of, IsLegal}
use Rattle.run_course.proofs.Lists.{some_same, none_some, get_map, get_unmap, map_same, filter_map_same, of_cond}
use Rattle.run_course.proofs.Runs.{runs_caused, runs_named}
use Rattle.run_course.proofs.Openings.{same_specs, runs_open, ids_differ}
use Rattle.run_course.proofs.SentRows.{rows_sent}

-- ---- what was got, in the report

place_logs : (n k : ℕ) (links : List Link) → got_in_log (slice_get (logs_from n links) k) ≡ got_of (slice_get links k)
place_logs n k [] = refl
place_logs n zero (link ∷ links) = refl
place_logs n (suc k) (link ∷ links) = place_logs (suc n) k links

pub logs_got : (s : Session) (c : Course) (node : ℕ) → got_in (report_of s c) node ≡ got_at c node
logs_got s c zero = refl
logs_got s c (suc k) = place_logs 1 k c.links

-- ---- ends

used_row : (s : Session) (c : Course) (node k : ℕ) (row : GotRow) → slice_get (got_at c node) k ≡ Some row → slice_get (got_in (report_of s c) node) k ≡ Some row
used_row s c node k row e = ap (λ g. slice_get g k) (logs_got s c node) ∙ e

said : (s : Session) (c : Course) (life : Life) (node packet : ℕ) (response : Response) (Says : Response → Type 0) → CameFor s c life.id node packet response → Says response
    → IsSaid s (report_of s c) (Some (record { 0 = life.id })) node packet Says
said s c life node packet response Says came says =
    record {
      id = record { 0 = life.id };
      id_is = refl;
      bytes = came.bytes;
      used = (came.used.0, came.used.1, used_row s c node came.used.0 _ came.used.2);
      response = response;
      reads = came.reads;
      names = came.names;
      says = says;
    }

reply_cause : (s : Session) (c : Course) (func : ℕ) (life : Life) (node packet : ℕ) (response : Response) → CameFor s c life.id node packet response
    → EndHasCause s (report_of s c) func (Some (record { 0 = life.id })) (reply_end s func node packet response)
unfolding reply_end
reply_cause s c func life node packet response came =
    of_cond (is_zero response.ret) (λ (e : End). EndHasCause s (report_of s c) func (Some (record { 0 = life.id })) e)
    (body_end node packet (reply_values s func response.body)) (Code node packet response.ret)
    (λ success. by_values success (reply_values s func response.body) refl)
    (λ failure. said s c life node packet response (SaysCode response.ret) came (failure, refl))
  where
    by_values : is_zero response.ret ≡ true → (o : Result (List Value) Refuse) → reply_values s func response.body ≡ o
        → EndHasCause s (report_of s c) func (Some (record { 0 = life.id })) (body_end node packet o)
    by_values success (Ok values) e = said s c life node packet response (SaysBody s func (Ok values)) came (success, e)
    by_values success (Err why) e = said s c life node packet response (SaysBody s func (Err why)) came (success, e)

stage_cause : (s : Session) (c : Course) (func : ℕ) (stage : Stage) → HasCause s c stage → EndHasCause s (report_of s c) func (id_of stage) (stage_end s func stage)
stage_cause s c func (refused why) cause = refl
stage_cause s c func (opened life) cause = go life.fate cause
  where
    go : (fate : Option Fate) → FateHasCause s c life.id fate → EndHasCause s (report_of s c) func (Some (record { 0 = life.id })) (fate_end s func fate)
    go None cause = refl
    go (Some closed) cause = refl
    go (Some (replied node packet response)) cause = reply_cause s c func life node packet response cause

pub row_cause : (s : Session) (c : Course) → ((k : ℕ) (call : Noted) → slice_get c.calls k ≡ Some call → HasCause s c call.stage)
    → (k : ℕ) (row : Row) → IsRowAt (report_of s c) k row → EndHasCause s (report_of s c) row.func row.id row.end
row_cause s c all k row e =
    let found = get_unmap (row_of s) c.calls k row e in
    subst (λ (r : Row). EndHasCause s (report_of s c) r.func r.id r.end) (sym found.2)
    (stage_cause s c found.0.spec.func found.0.stage (all k found.0 found.1))

-- ---- packets

pub reply_packet : (s : Session) (func node packet : ℕ) (response : Response) → packet_of (reply_end s func node packet response) ≡ Some (node, packet)
unfolding reply_end
reply_packet s func node packet response =
    of_cond (is_zero response.ret) (λ (e : End). packet_of e ≡ Some (node, packet)) (body_end node packet (reply_values s func response.body)) (Code node packet response.ret)
    (λ success. by_values (reply_values s func response.body)) (λ failure. refl)
  where
    by_values : (o : Result (List Value) Refuse) → packet_of (body_end node packet o) ≡ Some (node, packet)
    by_values (Ok values) = refl
    by_values (Err why) = refl

-- the end of a call that a packet settled
settled_end : (s : Session) (func : ℕ) (stage : Stage) (id node packet : ℕ) (response : Response) → EndsAs stage id (replied node packet response)
    → packet_of (stage_end s func stage) ≡ Some (node, packet)
settled_end s func stage id node packet response ends =
    ap (λ (t : Stage). packet_of (stage_end s func t)) ends.life_is ∙ (ap (λ (f : Option Fate). packet_of (fate_end s func f)) ends.fate_is ∙ reply_packet s func node packet response)

ends_id : (stage : Stage) (id : ℕ) (fate : Fate) → EndsAs stage id fate → id_of stage ≡ Some (record { 0 = id })
ends_id stage id fate ends = ap id_of ends.life_is ∙ ap (λ i. Some (record { 0 = i })) ends.id_is

named_row : (s : Session) (c : Course) (node packet : ℕ) (id : CallId) → IsNamed c node packet id.0 → IsNamedRow (report_of s c) node packet id
named_row s c node packet id named =
    record {
      place = named.place;
      row = row_of s named.call;
      row_is = get_map (row_of s) c.calls named.place named.call named.call_is;
      id_is = ends_id named.call.stage id.0 (replied node packet named.response) named.ends;
      packet_is = settled_end s named.call.spec.func named.call.stage id.0 node packet named.response named.ends;
    }

used_named : (s : Session) (c : Course) → ((node k : ℕ) (bytes : List ℕ) (id : CallId) → slice_get (got_at c node) k ≡ Some (record { packet = bytes; fate = Used id }) → IsNamed c node (suc k) id.0)
    → (node packet : ℕ) (bytes : List ℕ) (id : CallId) → IsUsedRow (report_of s c) node packet bytes id → IsNamedRow (report_of s c) node packet id
used_named s c all node packet bytes id used =
    subst (λ n. IsNamedRow (report_of s c) node n id) (sym used.1)
    (named_row s c node (suc used.0) id (all node used.0 bytes id (sym (ap (λ g. slice_get g used.0) (logs_got s c node)) ∙ used.2)))

-- ---- ids

pub opened_under : (stage : Stage) (id : CallId) → id_of stage ≡ Some id → (life : Life) × (stage ≡ opened life) × (life.id ≡ id.0)
opened_under (refused why) id e = absurd (none_some id e)
opened_under (opened life) id e = (life, refl, ap (λ (i : CallId). i.0) (some_same (record { 0 = life.id }) id e))

rows_differ : (s : Session) (j k : ℕ) (row other : Row) (id : CallId) → IsRowAt (report_of s (ended s s.events)) j row → IsRowAt (report_of s (ended s s.events)) k other
    → row.id ≡ Some id → other.id ≡ Some id → j ≡ k
rows_differ s j k row other id e f row_id other_id =
    let first = get_unmap (row_of s) (ended s s.events).calls j row e in
    let second = get_unmap (row_of s) (ended s s.events).calls k other f in
    let life = opened_under first.0.stage id (sym (ap (λ (r : Row). r.id) first.2) ∙ row_id) in
    let next = opened_under second.0.stage id (sym (ap (λ (r : Row). r.id) second.2) ∙ other_id) in
    ids_differ s s.events j k first.0 second.0 life.0 next.0 first.1 second.1 life.1 next.1 (life.2 ∙ sym next.2)

-- a row that ends by the close is that of no packet
not_closed : (r : Report) (k : ℕ) (row : Row) (id : CallId) → ((j i : ℕ) (one two : Row) (own : CallId) → IsRowAt r j one → IsRowAt r i two → one.id ≡ Some own → two.id ≡ Some own → j ≡ i)
    → IsRowAt r k row → row.id ≡ Some id → row.end ≡ Closed → (node packet : ℕ) → IsNamedRow r node packet id → ⊥
not_closed r k row id differ e row_id is_closed node packet named =
    let place = differ k named.place row named.row id e named.row_is row_id named.id_is in
    let same = some_same row named.row (sym e ∙ (ap (λ i. slice_get r.calls i) place ∙ named.row_is)) in
    none_some (node, packet) (sym (ap packet_of is_closed) ∙ (ap (λ (o : Row). packet_of o.end) same ∙ named.packet_is))

said_unused : (s : Session) (r : Report) (own : Option CallId) (node packet : ℕ) (Says : Response → Type 0) (id : CallId) → IsSaid s r own node packet Says → own ≡ Some id → IsUnused r id → ⊥
said_unused s r own node packet Says id said e unused =
    unused node packet said.bytes (subst (λ (i : CallId). IsUsedRow r node packet said.bytes i) (some_same said.id id (sym said.id_is ∙ e)) said.used)

-- and a row with an id that no packet settled is that of the close
is_closed : (s : Session) (r : Report) (func : ℕ) (own : Option CallId) (end : End) (id : CallId) → EndHasCause s r func own end → own ≡ Some id → IsUnused r id → end ≡ Closed
is_closed s r func own (ValueEnd node packet values) id cause e unused = absurd (said_unused s r own node packet (SaysBody s func (Ok values)) id cause e unused)
is_closed s r func own (Code node packet ret) id cause e unused = absurd (said_unused s r own node packet (SaysCode ret) id cause e unused)
is_closed s r func own (Undecoded node packet why) id cause e unused = absurd (said_unused s r own node packet (SaysBody s func (Err why)) id cause e unused)
is_closed s r func own Closed id cause e unused = refl
is_closed s r func own (Refused why) id cause e unused = absurd (none_some id (sym cause ∙ e))

-- ---- rows and routes

headings : (s : Session) (c : Course) (texts : List Scripted) → map (λ (call : Noted). call.spec) c.calls ≡ map (λ (text : Scripted). text.spec) texts
    → map heading_of (map (row_of s) c.calls) ≡ map (λ (text : Scripted). heading_of_call text.spec) texts
headings s c texts specs =
    map_same heading_of (row_of s) (λ (call : Noted). heading_of_call call.spec) (λ call. refl) c.calls
    ∙ (sym (map_same heading_of_call (λ (call : Noted). call.spec) (λ (call : Noted). heading_of_call call.spec) (λ call. refl) c.calls)
    ∙ (ap (λ xs. map heading_of_call xs) specs ∙ map_same heading_of_call (λ (text : Scripted). text.spec) (λ (text : Scripted). heading_of_call text.spec) (λ text. refl) texts))

reported_same : (s : Session) (func call : ℕ) (stage : Stage) → report_of_packet call (packet_of (stage_end s func stage)) ≡ report_step call stage
reported_same s func call (refused why) = refl
reported_same s func call (opened life) = go life.fate
  where
    go : (fate : Option Fate) → report_of_packet call (packet_of (fate_end s func fate)) ≡ success call fate
    go None = refl
    go (Some closed) = refl
    go (Some (replied node packet response)) = ap (λ o. report_of_packet call o) (reply_packet s func node packet response)

routes_are : (s : Session) (calls : List Noted) → filter_map picked_step calls ++ filter_map reported_step calls ≡ filter_map picked_of (map (row_of s) calls) ++ filter_map reported_of (map (row_of s) calls)
routes_are s calls =
    ap (λ xs. xs ++ filter_map reported_step calls) (sym (filter_map_same picked_of (row_of s) picked_step (λ call. refl) calls))
    ∙ ap (λ xs. filter_map picked_of (map (row_of s) calls) ++ xs) (sym (filter_map_same reported_of (row_of s) reported_step (λ (call : Noted). reported_same s call.spec.func call.spec.call call.stage) calls))

pub legal_law : (s : Session) → IsLegal s (planned s)
unfolding planned
legal_law s =
    let c : Course = ended s s.events in
    record {
      rows = headings s c (scripted s.events) (same_specs [] (scripted s.events) c.calls (runs_open s s.events));
      ids = rows_differ s;
      sends = rows_sent s;
      ends = row_cause s c (runs_caused s s.events);
      replies = used_named s c (runs_named s s.events);
      closed = λ k row id e row_id. (
        λ ends node packet bytes used.
            not_closed (report_of s c) k row id (rows_differ s) e row_id ends node packet (used_named s c (runs_named s s.events) node packet bytes id used),
        λ unused. is_closed s (report_of s c) row.func row.id row.end id (row_cause s c (runs_caused s s.events) k row e) row_id unused,
      );
      routes = routes_are s c.calls;
    }
