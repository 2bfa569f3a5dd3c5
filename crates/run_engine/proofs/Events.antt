-- What each event makes of a run.
use Rattle.std.proofs.Common.{◌≡◌, ◌≤◌, ◌<◌, ◌+◌, ℕ, zero, suc, Bool, true, false, cond, ◌⊎◌, inl, inr, List, [], ◌∷◌, ◌++◌, length, map, Option, Some, None, refl, sym, ap, ◌∙◌, subst, arith}
use Rattle.std.specs.Prelude.{slice_get, slice_set, count_by, ◌==◌, ◌&&◌, not, nat_le}
use Rattle.std.specs.List.{AllByRecursion, cons_option}
use Rattle.std.proofs.lemmas.List.{map-append, length-map, length-set}
use Rattle.std.proofs.lemmas.List.Elements.{filter_map-append}
use Rattle.std.proofs.lemmas.Bool.{cases_lt}
use Rattle.rpc_packet.specs.Packets.{request_frame}
use Rattle.script_session.specs.Judged.{IDS}
use Rattle.script_session.specs.Sessions.{WIDTH, NODE, client_funcs, node_of, request_of}
use Rattle.script_session.specs.declared.link_log.SentRow.{SentRow}
use Rattle.script_session.specs.declared.report.Refusal.TheVariants as refusal
use Rattle.script_session.specs.declared.session.CallSpec.{CallSpec}
use Rattle.script_session.specs.declared.session.Event.TheVariants.{Deliver}
use Rattle.script_session.specs.declared.session.Session.{Session}
use Rattle.script_session.specs.Sessions.{live_node}
use Rattle.run_course.specs.Courses as course
use Rattle.run_course.specs.Courses.{Course, Link, Desk, Noted, Stage, Life, refused, opened, is_opened, ends_with, settled, settles, has_id, named_id, closes, closed, next_id, in_flight, called, not_sent, is_sent, refused_call, opened_call, sent_row, sends, link_of, at_node, came, delivers, with_desk, step, news, read_to, answers_stream, is_in_flight}
use Rattle.run_course.proofs.Lists.{count_cons, fold_keeps, map_same}
use Rattle.run_course.proofs.Got.{came_by}
use Rattle.run_engine.specs.declared.call_note.CallNote.{CallNote}
use Rattle.run_engine.specs.declared.link_ends.LinkEnds.{LinkEnds}
use Rattle.run_engine.specs.declared.plan.Plan.{Plan}
use Rattle.run_engine.specs.Claims.{Claim, claim_of, claim_of_stage, claims_of, opened_claim, is_full, ended}
use Rattle.run_engine.specs.Notes.{note_of, note_under, notes_of, opening_of}
use Rattle.run_engine.specs.Tracks.{TracksEnds, TrackLinks, IsNode, NoNode, MAX_NODES, Tracks}
use Rattle.run_engine.proofs.Plans.{all_more, link_count, changed_node}

-- ---- a close

closed_of : (line : ℕ) (stage : Stage) (claims others : List Claim) → claims ≡ map (ended closed) others
    → cons_option (claim_of_stage line (ends_with closed stage)) claims ≡ map (ended closed) (cons_option (claim_of_stage line stage) others)
closed_of line (refused why) claims others e = e
closed_of line (opened life) claims others e = ap (λ cs. ended closed (record { line = line; life = life }) ∷ cs) e

closed_are : (calls : List Noted) → claims_of (map closes calls) ≡ map (ended closed) (claims_of calls)
closed_are [] = refl
closed_are (call ∷ calls) = closed_of call.spec.line call.stage (claims_of (map closes calls)) (claims_of calls) (closed_are calls)

ended_opening : (fate : course.Fate) (stage : Stage) → opening_of (ends_with fate stage) ≡ opening_of stage
ended_opening fate (refused why) = refl
ended_opening fate (opened life) = refl

note_with : (call : Noted) (stage : Stage) → opening_of stage ≡ opening_of call.stage → note_of (record call { stage = stage }) ≡ note_of call
note_with call stage e = ap (λ o. record { call = call.spec.call; line = call.spec.line; func = call.spec.func; two_way = call.spec.two_way; pick = call.pick; opening = o }) e

closed_notes : (calls : List Noted) → notes_of (map closes calls) ≡ notes_of calls
closed_notes calls = map_same note_of closes note_of (λ call. note_with call (ends_with closed call.stage) (ended_opening closed call.stage)) calls

pub closed_tracks : {T : Type 0} (IsOf : T → List Claim → Type 0) (old new : Plan T) (c : Course) → Tracks IsOf old c
    → ((claims : List Claim) → IsOf old.table claims → IsOf new.table (map (ended closed) claims))
    → new.closed ≡ true → new.service ≡ old.service → new.moment ≡ old.moment → new.notes ≡ old.notes → new.links ≡ old.links
    → Tracks IsOf new (record c { calls = map closes c.calls; closed = true })
closed_tracks IsOf old new c t closes_all closed_is service moment notes links = record {
  start = t.start;
  moment_is = moment ∙ t.moment_is;
  closed_is = closed_is;
  notes_are = ap (λ ns. ns.items) notes ∙ t.notes_are ∙ sym (closed_notes c.calls);
  funcs =
      subst (λ ns. AllByRecursion (λ (note : CallNote). note.func < length (client_funcs new.service)) ns.items) (sym notes)
      (subst (λ s. AllByRecursion (λ (note : CallNote). note.func < length (client_funcs s)) old.notes.items) (sym service) t.funcs);
  claims = subst (λ claims. IsOf new.table claims) (sym (closed_are c.calls)) (closes_all (claims_of c.calls) t.claims);
  links = subst (λ s. TrackLinks s new.links.items c.links) (sym service) (subst (λ ls. TrackLinks old.service ls.items c.links) (sym links) t.links);
  few = subst (λ ls. length ls.items ≤ MAX_NODES) (sym links) t.few;
}

-- ---- a read of the caller

settled_opening : (id : ℕ) (fate : course.Fate) (stage : Stage) → opening_of (settled id fate stage) ≡ opening_of stage
settled_opening id fate stage = go (has_id id stage)
  where
    go : (b : Bool) → opening_of (cond b (ends_with fate stage) stage) ≡ opening_of stage
    go true = ended_opening fate stage
    go false = refl

settled_notes : (id : ℕ) (fate : course.Fate) (calls : List Noted) → notes_of (map (settles id fate) calls) ≡ notes_of calls
settled_notes id fate calls = map_same note_of (settles id fate) note_of (λ call. note_with call (settled id fate call.stage) (settled_opening id fate call.stage)) calls

delivered_notes : (s : Session) (node : ℕ) (bytes : Option ℕ) (calls : List Noted) (link : Link) → notes_of (delivers s node bytes calls link).calls ≡ notes_of calls
unfolding delivers
delivered_notes s node bytes calls link =
    fold_keeps (λ (d : Desk). notes_of d.calls ≡ notes_of calls) (came s node)
    (λ d packet kept. came_by s node (λ (e : Desk). notes_of e.calls ≡ notes_of calls) d packet kept (λ r read any. settled_notes (named_id r.id) _ d.calls ∙ kept))
    (news link.delivered (read_to link.delivered bytes (answers_stream link)) (answers_stream link))
    (record { calls = calls; link = record link { delivered = read_to link.delivered bytes (answers_stream link) } }) refl

no_link : (s : Session) (links : List LinkEnds) (cs : List Link) (node : ℕ) → TrackLinks s links cs → NoNode links node → link_of node cs ≡ None
no_link s links cs zero t none = refl
no_link s links cs (suc k) t none = past_none cs k (beyond (cases_lt k (length links)))
  where
    past_none : (cs : List Link) (k : ℕ) → length cs ≤ k → slice_get cs k ≡ None
    past_none [] k past = refl
    past_none (c ∷ cs) zero past = absurd (omega arith)
    past_none (c ∷ cs) (suc k) past = past_none cs k (omega arith)

    beyond : (k < length links) ⊎ (length links ≤ k) → length cs ≤ k
    beyond (inl within) = absurd (none k (record { node_is = refl; within = within }))
    beyond (inr after) = let same = link_count s links cs t in omega (arith, after, same)

pub undelivered_tracks : {T : Type 0} (IsOf : T → List Claim → Type 0) (plan : Plan T) (s : Session) (c : Course) (node : ℕ) (bytes : Option ℕ) → Tracks IsOf plan c
    → NoNode plan.links.items node → Tracks IsOf plan (step s c (Deliver node bytes))
undelivered_tracks IsOf plan s c node bytes t none = rw (no_link plan.service plan.links.items c.links node t.links none) t

pub delivered_plan : {T : Type 0} (IsOf : T → List Claim → Type 0) (old new : Plan T) (s : Session) (c : Course) (node k : ℕ) (bytes : Option ℕ) (ends : LinkEnds) (link : Link)
    → Tracks IsOf old c → IsNode old.links.items node k → slice_get c.links k ≡ Some link
    → TracksEnds IsOf old.service new.table ends (delivers s node bytes c.calls link) → new.links.items ≡ slice_set old.links.items k ends
    → new.service ≡ old.service → new.moment ≡ old.moment → new.closed ≡ old.closed → new.notes ≡ old.notes
    → Tracks IsOf new (step s c (Deliver node bytes))
delivered_plan IsOf old new s c node k bytes ends link t at found tracks links service moment closed_is notes =
    rw (ap (λ n. link_of n c.links) at.node_is ∙ found)
    (record {
      start = t.start;
      moment_is = moment ∙ t.moment_is;
      closed_is = closed_is ∙ t.closed_is;
      notes_are = ap (λ ns. ns.items) notes ∙ t.notes_are ∙ sym (delivered_notes s node bytes c.calls link);
      funcs =
          subst (λ ns. AllByRecursion (λ (note : CallNote). note.func < length (client_funcs new.service)) ns.items) (sym notes)
          (subst (λ s. AllByRecursion (λ (note : CallNote). note.func < length (client_funcs s)) old.notes.items) (sym service) t.funcs);
      claims = tracks.claims;
      links =
          subst (λ own. TrackLinks own new.links.items (at_node node (λ l. (delivers s node bytes c.calls link).link) c.links)) (sym service)
          (subst (λ ls. TrackLinks old.service ls (at_node node (λ l. (delivers s node bytes c.calls link).link) c.links)) (sym links)
          (changed_node old.service (λ l. (delivers s node bytes c.calls link).link) old.links.items c.links node k ends link t.links at found tracks.link));
      few = let same = ap length links ∙ length-set old.links.items k ends in omega (arith, same, t.few);
    })

-- ---- a call

count_more : (b : Bool) (n m k : ℕ) → n ≡ cond b 1 0 + m → m ≡ k → n ≡ cond b 1 0 + k
count_more b n m k e f = e ∙ ap (λ x. cond b 1 0 + x) f

opened_count : (calls : List Noted) → count_by (λ (call : Noted). is_opened call.stage) calls ≡ length (claims_of calls)
opened_count [] = refl
opened_count (call ∷ calls) =
    count_more (is_opened call.stage) _ _ _ (count_cons (λ (x : Noted). is_opened x.stage) call calls) (opened_count calls) ∙ lengths call.spec.line call.stage (claims_of calls)
  where
    lengths : (line : ℕ) (stage : Stage) (claims : List Claim) → cond (is_opened stage) 1 0 + length claims ≡ length (cons_option (claim_of_stage line stage) claims)
    lengths line (refused why) claims = omega arith
    lengths line (opened life) claims = omega arith

pub next_is : (calls : List Noted) → suc (length (claims_of calls)) ≡ next_id calls
next_is calls = ap suc (sym (opened_count calls))

full_count : (line : ℕ) (calls : List Noted) → in_flight line calls ≡ count_by (λ (claim : Claim). not claim.life.collected && (claim.line == line)) (claims_of calls)
full_count line [] = refl
full_count line (call ∷ calls) =
    count_cons (λ (x : Noted). is_in_flight x.stage && (x.spec.line == line)) call calls
    ∙ ap (λ n. cond (is_in_flight call.stage && (call.spec.line == line)) 1 0 + n) (full_count line calls) ∙ counts call.spec.line call.stage (claims_of calls)
  where
    counts : (own : ℕ) (stage : Stage) (claims : List Claim) → cond (is_in_flight stage && (own == line)) 1 0 + count_by (λ (claim : Claim). not claim.life.collected && (claim.line == line)) claims
        ≡ count_by (λ (claim : Claim). not claim.life.collected && (claim.line == line)) (cons_option (claim_of_stage own stage) claims)
    counts own (refused why) claims = omega arith
    counts own (opened life) claims = sym (count_cons (λ (claim : Claim). not claim.life.collected && (claim.line == line)) (record { line = own; life = life }) claims)

full_is : (line : ℕ) (calls : List Noted) → is_full line (claims_of calls) ≡ nat_le WIDTH (in_flight line calls)
full_is line calls = ap (λ n. nat_le WIDTH n) (sym (full_count line calls))

pub called_full : (s : Session) (c : Course) (spec : CallSpec) → is_full spec.line (claims_of c.calls) ≡ true → called s c spec ≡ not_sent c (refused_call spec None refusal.Full)
unfolding called
called_full s c spec full = rw (sym (full_is spec.line c.calls) ∙ full) refl

pub called_closed : (s : Session) (c : Course) (spec : CallSpec) → is_full spec.line (claims_of c.calls) ≡ false → c.closed ≡ true
    → called s c spec ≡ not_sent c (refused_call spec live_node (refusal.Closed 0))
unfolding called
called_closed s c spec room shut = rw (sym (full_is spec.line c.calls) ∙ room, shut) refl

pub called_open : (s : Session) (c : Course) (spec : CallSpec) → is_full spec.line (claims_of c.calls) ≡ false → c.closed ≡ false → called s c spec ≡ is_sent s c spec
unfolding called
called_open s c spec room shut = rw (sym (full_is spec.line c.calls) ∙ room, shut) refl

claims_few : (calls : List Noted) → length (claims_of calls) ≤ length calls
claims_few [] = omega arith
claims_few (call ∷ calls) = few call.spec.line call.stage (claims_of calls) (claims_few calls)
  where
    few : (line : ℕ) (stage : Stage) (claims : List Claim) → length claims ≤ length calls → length (cons_option (claim_of_stage line stage) claims) ≤ suc (length calls)
    few line (refused why) claims h = omega (arith, h)
    few line (opened life) claims h = omega (arith, h)

-- the next id is small enough
pub id_small : {T : Type 0} (IsOf : T → List Claim → Type 0) (plan : Plan T) (c : Course) → Tracks IsOf plan c → length plan.notes.items + 1 < IDS → suc (length (claims_of c.calls)) < IDS
id_small IsOf plan c t room =
    let few = claims_few c.calls in
    let notes = ap length t.notes_are ∙ length-map c.calls note_of in
    omega (arith, few, notes, room)

-- a call that is opened, before its request is written
pub opened_tracks : {T : Type 0} (IsOf : T → List Claim → Type 0) (old new : Plan T) (s : Session) (c : Course) (spec : CallSpec) (id deadline : ℕ) → Tracks IsOf old c
    → s ≡ old.service → spec.func < length (client_funcs s) → id ≡ suc (length (claims_of c.calls)) → deadline ≡ old.moment + (node_of s).timeout
    → IsOf new.table (claims_of c.calls ++ opened_claim (claims_of c.calls) spec.line NODE deadline ∷ [])
    → new.notes.items ≡ old.notes.items ++ note_under spec id ∷ []
    → new.service ≡ old.service → new.moment ≡ old.moment → new.closed ≡ old.closed → new.links ≡ old.links
    → Tracks IsOf new (record c { calls = c.calls ++ opened_call s c spec ∷ [] })
opened_tracks IsOf old new s c spec id deadline t own within id_is deadline_is table notes service moment closed_is links = record {
  start = t.start;
  moment_is = moment ∙ t.moment_is;
  closed_is = closed_is ∙ t.closed_is;
  notes_are =
      notes ∙ ap (λ ns. ns ++ note_under spec id ∷ []) t.notes_are
      ∙ ap (λ n. notes_of c.calls ++ note_under spec n ∷ []) (id_is ∙ next_is c.calls)
      ∙ sym (map-append note_of c.calls (opened_call s c spec ∷ []));
  funcs =
      subst (λ ns. AllByRecursion (λ (note : CallNote). note.func < length (client_funcs new.service)) ns) (sym notes)
      (subst (λ s. AllByRecursion (λ (note : CallNote). note.func < length (client_funcs s)) (old.notes.items ++ note_under spec id ∷ [])) (sym service)
      (all_more _ old.notes.items (note_under spec id) t.funcs (subst (λ s. spec.func < length (client_funcs s)) own within)));
  claims =
      subst (λ claims. IsOf new.table claims)
      (ap (λ n. claims_of c.calls ++ record { line = spec.line; life = record { id = n; node = NODE; deadline = deadline; fate = None; collected = false } } ∷ []) (next_is c.calls)
      ∙ ap (λ n. claims_of c.calls ++ record { line = spec.line; life = record { id = next_id c.calls; node = NODE; deadline = n; fate = None; collected = false } } ∷ [])
      (deadline_is ∙ ap (λ m. m + (node_of s).timeout) t.moment_is)
      ∙ sym (filter_map-append claim_of c.calls (opened_call s c spec ∷ [])))
      table;
  links = subst (λ s. TrackLinks s new.links.items c.links) (sym service) (subst (λ ls. TrackLinks old.service ls.items c.links) (sym links) t.links);
  few = subst (λ ls. length ls.items ≤ MAX_NODES) (sym links) t.few;
}

-- and after it was written
pub sent_row_is : (s : Session) (c : Course) (spec : CallSpec) (id : ℕ) (frame : List ℕ) → id ≡ suc (length (claims_of c.calls)) → frame ≡ request_frame (request_of s spec id)
    → ◌≡◌ {A = SentRow} (record { call = spec.call; frame = frame }) (sent_row s spec (next_id c.calls))
sent_row_is s c spec id frame id_is frame_is =
    ap (λ f. record { call = spec.call; frame = f }) (frame_is ∙ ap (λ n. request_frame (request_of s spec n)) (id_is ∙ next_is c.calls))
