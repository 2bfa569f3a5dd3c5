-- A run so far, and what an event makes of it.
use Rattle.std.proofs.Common.{◌≡◌, ◌≤◌, ◌<◌, ℕ, zero, suc, false, ◌⊎◌, inl, inr, List, [], ◌∷◌, ◌++◌, length, Option, Some, refl, sym, ap, ◌∙◌, subst, arith, append-nil}
use Rattle.std.specs.Prelude.{slice_get, slice_set, slice_index_or}
use Rattle.std.specs.List.{AllByRecursion}
use Rattle.std.proofs.lemmas.Bool.{cases_lt}
use Rattle.std.proofs.lemmas.List.{map-append, length-set}
use Rattle.std.proofs.lemmas.List.Elements.{filter_map-append}
use Rattle.run_course.proofs.Lists.{some_same}
use Rattle.script_session.specs.Sessions.{client_funcs}
use Rattle.script_session.specs.declared.report.PickNote.{PickNote}
use Rattle.script_session.specs.declared.report.Refusal.{Refusal}
use Rattle.script_session.specs.declared.session.CallSpec.{CallSpec}
use Rattle.script_session.specs.declared.session.Session.{Session}
use Rattle.run_course.specs.Courses.{Course, Link, Noted, start, unused, not_sent, refused_call, changed_at, at_node}
use Rattle.run_engine.specs.declared.call_note.CallNote.{CallNote}
use Rattle.run_engine.specs.declared.link_ends.LinkEnds.{LinkEnds}
use Rattle.run_engine.specs.declared.plan.Plan.{Plan}
use Rattle.run_engine.specs.Claims.{Claim, claim_of, claims_of}
use Rattle.run_engine.specs.Notes.{note_of, notes_of}
use Rattle.run_engine.specs.Tracks.{TracksLink, TrackLinks, IsNode, NoNode, MAX_NODES, Tracks}

-- ---- links by their nodes

pub link_count : (s : Session) (links : List LinkEnds) (cs : List Link) → TrackLinks s links cs → length links ≡ length cs
link_count s [] [] t = refl
link_count s (ends ∷ links) (c ∷ cs) t = ap suc (link_count s links cs t.1)
link_count s [] (c ∷ cs) t = absurd t
link_count s (ends ∷ links) [] t = absurd t

pub record IsLinkHere (s : Session) (ends : LinkEnds) (cs : List Link) (k : ℕ) : Type 0 where
  pub link : Link
  pub link_is : slice_get cs k ≡ Some link
  pub tracks : TracksLink s ends link

pub link_here : (s : Session) (links : List LinkEnds) (cs : List Link) (k : ℕ) (ends : LinkEnds) → TrackLinks s links cs → k < length links → ends ≡ slice_index_or links k ends → IsLinkHere s ends cs k
link_here s [] cs k ends t within here = absurd (omega arith)
link_here s (x ∷ links) [] k ends t within here = absurd t
link_here s (x ∷ links) (c ∷ cs) zero ends t within here = record { link = c; link_is = refl; tracks = subst (λ (e : LinkEnds). TracksLink s e c) (sym here) t.0 }
link_here s (x ∷ links) (c ∷ cs) (suc k) ends t within here =
    let later = link_here s links cs k ends t.1 (omega arith) here in record { link = later.link; link_is = later.link_is; tracks = later.tracks }

pub changed_here : (s : Session) (change : Link → Link) (links : List LinkEnds) (cs : List Link) (k : ℕ) (new : LinkEnds) (link : Link) → TrackLinks s links cs → slice_get cs k ≡ Some link
    → TracksLink s new (change link) → TrackLinks s (slice_set links k new) (changed_at k change cs)
changed_here s change [] [] k new link t found tracks = tt
changed_here s change [] (c ∷ cs) k new link t found tracks = absurd t
changed_here s change (x ∷ links) [] k new link t found tracks = absurd t
changed_here s change (x ∷ links) (c ∷ cs) zero new link t found tracks = (subst (λ l. TracksLink s new (change l)) (sym (some_same c link found)) tracks, t.1)
changed_here s change (x ∷ links) (c ∷ cs) (suc k) new link t found tracks = (t.0, changed_here s change links cs k new link t.1 found tracks)

-- where a link is, it changes
pub changed_node : (s : Session) (change : Link → Link) (links : List LinkEnds) (cs : List Link) (node k : ℕ) (new : LinkEnds) (link : Link) → TrackLinks s links cs → IsNode links node k
    → slice_get cs k ≡ Some link → TracksLink s new (change link) → TrackLinks s (slice_set links k new) (at_node node change cs)
changed_node s change links cs node k new link t at found tracks =
    subst (λ n. TrackLinks s (slice_set links k new) (at_node n change cs)) (sym at.node_is) (changed_here s change links cs k new link t found tracks)

unchanged_at : (change : Link → Link) (cs : List Link) (k : ℕ) → length cs ≤ k → changed_at k change cs ≡ cs
unchanged_at change [] k past = refl
unchanged_at change (c ∷ cs) zero past = absurd (omega arith)
unchanged_at change (c ∷ cs) (suc k) past = ap (λ more. c ∷ more) (unchanged_at change cs k (omega arith))

-- where there is none, nothing does
pub no_change : (s : Session) (change : Link → Link) (links : List LinkEnds) (cs : List Link) (node : ℕ) → TrackLinks s links cs → NoNode links node → at_node node change cs ≡ cs
no_change s change links cs zero t none = refl
no_change s change links cs (suc k) t none = unchanged_at change cs k (past (cases_lt k (length links)))
  where
    past : (k < length links) ⊎ (length links ≤ k) → length cs ≤ k
    past (inl within) = absurd (none k (record { node_is = refl; within = within }))
    past (inr after) = let same = link_count s links cs t in omega (arith, after, same)

-- ---- nothing has happened

pub nothing_happened : {T : Type 0} (IsOf : T → List Claim → Type 0) (plan : Plan T) (ends : LinkEnds) → plan.closed ≡ false → plan.notes.items ≡ [] → IsOf plan.table []
    → plan.links.items ≡ ends ∷ [] → TracksLink plan.service ends unused → plan.moment ≡ 0 → Tracks IsOf plan start
nothing_happened IsOf plan ends closed notes table links tracks moment = record {
  start = refl;
  moment_is = moment;
  closed_is = closed;
  notes_are = notes;
  funcs = subst (λ ns. AllByRecursion (λ (note : CallNote). note.func < length (client_funcs plan.service)) ns) (sym notes) tt;
  claims = table;
  links = subst (λ ls. TrackLinks plan.service ls (unused ∷ [])) (sym links) (tracks, tt);
  few = let one = ap length links in omega (arith, one);
}

-- ---- a call

notes-more : (calls : List Noted) (call : Noted) → notes_of (calls ++ call ∷ []) ≡ notes_of calls ++ note_of call ∷ []
notes-more calls call = map-append note_of calls (call ∷ [])

pub all_more : (n : ℕ) (notes : List CallNote) (note : CallNote) → AllByRecursion (λ (x : CallNote). x.func < n) notes → note.func < n → AllByRecursion (λ (x : CallNote). x.func < n) (notes ++ note ∷ [])
all_more n [] note each within = (within, tt)
all_more n (x ∷ notes) note each within = (each.0, all_more n notes note each.1 within)

-- a call that is refused opens none
pub refused_tracks : {T : Type 0} (IsOf : T → List Claim → Type 0) (old new : Plan T) (c : Course) (spec : CallSpec) (pick : Option PickNote) (why : Refusal)
    → Tracks IsOf old c → spec.func < length (client_funcs old.service)
    → new.notes.items ≡ old.notes.items ++ note_of (refused_call spec pick why) ∷ []
    → new.service ≡ old.service → new.moment ≡ old.moment → new.closed ≡ old.closed → new.table ≡ old.table → new.links ≡ old.links
    → Tracks IsOf new (not_sent c (refused_call spec pick why))
refused_tracks IsOf old new c spec pick why t within notes service moment closed table links = record {
  start = t.start;
  moment_is = moment ∙ t.moment_is;
  closed_is = closed ∙ t.closed_is;
  notes_are = notes ∙ ap (λ ns. ns ++ note_of (refused_call spec pick why) ∷ []) t.notes_are ∙ sym (notes-more c.calls (refused_call spec pick why));
  funcs =
      subst (λ ns. AllByRecursion (λ (note : CallNote). note.func < length (client_funcs new.service)) ns) (sym notes)
      (subst (λ s. AllByRecursion (λ (note : CallNote). note.func < length (client_funcs s)) (old.notes.items ++ note_of (refused_call spec pick why) ∷ [])) (sym service)
      (all_more _ old.notes.items (note_of (refused_call spec pick why)) t.funcs within));
  claims =
      subst (λ tb. IsOf tb (claims_of (c.calls ++ refused_call spec pick why ∷ []))) (sym table)
      (subst (λ claims. IsOf old.table claims) (sym (filter_map-append claim_of c.calls (refused_call spec pick why ∷ []) ∙ append-nil (claims_of c.calls))) t.claims);
  links = subst (λ s. TrackLinks s new.links.items c.links) (sym service) (subst (λ ls. TrackLinks old.service ls.items c.links) (sym links) t.links);
  few = subst (λ ls. length ls.items ≤ MAX_NODES) (sym links) t.few;
}

-- a link changes
pub changed_tracks : {T : Type 0} (IsOf : T → List Claim → Type 0) (old new : Plan T) (c : Course) (change : Link → Link) (node k : ℕ) (ends : LinkEnds) (link : Link)
    → Tracks IsOf old c → IsNode old.links.items node k → slice_get c.links k ≡ Some link → TracksLink old.service ends (change link)
    → new.links.items ≡ slice_set old.links.items k ends
    → new.service ≡ old.service → new.moment ≡ old.moment → new.closed ≡ old.closed → new.table ≡ old.table → new.notes ≡ old.notes
    → Tracks IsOf new (record c { links = at_node node change c.links })
changed_tracks IsOf old new c change node k ends link t at found tracks links service moment closed table notes = record {
  start = t.start;
  moment_is = moment ∙ t.moment_is;
  closed_is = closed ∙ t.closed_is;
  notes_are = ap (λ ns. ns.items) notes ∙ t.notes_are;
  funcs =
      subst (λ ns. AllByRecursion (λ (note : CallNote). note.func < length (client_funcs new.service)) ns.items) (sym notes)
      (subst (λ s. AllByRecursion (λ (note : CallNote). note.func < length (client_funcs s)) old.notes.items) (sym service) t.funcs);
  claims = subst (λ tb. IsOf tb (claims_of c.calls)) (sym table) t.claims;
  links =
      subst (λ s. TrackLinks s new.links.items (at_node node change c.links)) (sym service)
      (subst (λ ls. TrackLinks old.service ls (at_node node change c.links)) (sym links)
      (changed_node old.service change old.links.items c.links node k ends link t.links at found tracks));
  few = let same = ap length links ∙ length-set old.links.items k ends in omega (arith, same, t.few);
}

pub unchanged_tracks : {T : Type 0} (IsOf : T → List Claim → Type 0) (plan : Plan T) (c : Course) (change : Link → Link) (node : ℕ) → Tracks IsOf plan c → NoNode plan.links.items node
    → Tracks IsOf plan (record c { links = at_node node change c.links })
unchanged_tracks IsOf plan c change node t none =
    subst (λ links. Tracks IsOf plan (record c { links = links })) (sym (no_change plan.service change plan.links.items c.links node t.links none)) t
