-- Each packet that was used is named by the call that it ended.
use Rattle.std.proofs.Common.{◌≡◌, ◌⊎◌, inl, inr, ℕ, suc, Bool, true, false, ◌&&◌, eqb, List, [], ◌∷◌, ◌++◌, length, map, Option, Some, None, refl, sym, ap, ◌∙◌, subst}
use Rattle.std.specs.Prelude.{slice_get, is_none}
use Rattle.std.specs.List.{list_any}
use Rattle.std.proofs.lemmas.Bool.{eqb-true}
use Rattle.script_session.specs.declared.link_log.GotFate.TheVariants.{Used, Late}
use Rattle.script_session.specs.declared.link_log.GotRow.{GotRow}
use Rattle.script_session.specs.declared.report.CallId.{CallId}
use Rattle.rpc_packet.specs.Packets.{read_response}
use Rattle.rpc_packet.specs.declared.response.Response.{Response}
use Rattle.script_session.specs.declared.session.Session.{Session}
use Rattle.run_course.specs.Courses.{Fate, replied, closed, Life, Stage, refused, opened, Noted, Link, Course, Desk, link_of, with_desk, named_id, first_fate, ends_with, has_id, is_open, is_open_under, settled, is_late, is_used, came}
use Rattle.run_course.specs.Legal.{got_at, EndsAs, IsNamed}
use Rattle.run_course.proofs.Lists.{get_append, get_map, of_cond, any_at}
use Rattle.run_course.proofs.Got.{Adds, desk_here, desk_adds, came_by}

abbrev pub AllNamed : Course → Type 0
AllNamed c = (node k : ℕ) (bytes : List ℕ) (id : CallId) → slice_get (got_at c node) k ≡ Some (record { packet = bytes; fate = Used id }) → IsNamed c node (suc k) id.0

-- a change of calls that leaves those that ended
abbrev pub LeavesEnds : (Stage → Stage) → Type 0
LeavesEnds change = (stage : Stage) (id : ℕ) (fate : Fate) → EndsAs stage id fate → EndsAs (change stage) id fate

abbrev changed : (Stage → Stage) → Noted → Noted
changed change call = record call { stage = change call.stage }

pub named_more : (old new : Course) (last : Noted) → new.calls ≡ old.calls ++ last ∷ [] → (node packet id : ℕ) → IsNamed old node packet id → IsNamed new node packet id
named_more old new last calls node packet id named =
    record {
      place = named.place;
      call = named.call;
      response = named.response;
      call_is = ap (λ xs. slice_get xs named.place) calls ∙ get_append old.calls (last ∷ []) named.place named.call named.call_is;
      ends = named.ends;
    }

pub named_change : (old new : Course) (change : Stage → Stage) → new.calls ≡ map (changed change) old.calls → LeavesEnds change
    → (node packet id : ℕ) → IsNamed old node packet id → IsNamed new node packet id
named_change old new change calls leaves node packet id named =
    record {
      place = named.place;
      call = changed change named.call;
      response = named.response;
      call_is = ap (λ xs. slice_get xs named.place) calls ∙ get_map (changed change) old.calls named.place named.call named.call_is;
      ends = leaves named.call.stage id (replied node packet named.response) named.ends;
    }

-- an end that comes later leaves the first
ends_leaves : (fate : Fate) (life : Life) (first : Fate) → life.fate ≡ Some first → EndsAs (ends_with fate (opened life)) life.id first
ends_leaves fate life first e = record { life = record life { fate = first_fate fate life.fate }; life_is = refl; id_is = refl; fate_is = ap (first_fate fate) e }

of_life : (P : Stage → ℕ → Type 0) (stage : Stage) (id : ℕ) (fate : Fate) → EndsAs stage id fate
    → ((life : Life) → life.fate ≡ Some fate → P (opened life) life.id) → P stage id
of_life P stage id fate ends shows =
    subst (λ i. P stage i) ends.id_is (subst (λ (t : Stage). P t ends.life.id) (sym ends.life_is) (shows ends.life ends.fate_is))

pub settled_leaves : (id : ℕ) (fate : Fate) → LeavesEnds (settled id fate)
settled_leaves id fate stage own first ends =
    of_life (λ t i. EndsAs (settled id fate t) i first) stage own first ends
    (λ life e. of_cond (eqb life.id id) (λ t. EndsAs t life.id first) (ends_with fate (opened life)) (opened life)
    (λ same. ends_leaves fate life first e)
    (λ other. record { life = life; life_is = refl; id_is = refl; fate_is = e }))

pub closed_leaves : LeavesEnds (ends_with closed)
closed_leaves stage own first ends = of_life (λ t i. EndsAs (ends_with closed t) i first) stage own first ends (λ life e. ends_leaves closed life first e)

-- an open call under an id ends by what settles the id
both_true : (a b : Bool) → (a && b) ≡ true → (a ≡ true) × (b ≡ true)
both_true true b e = (refl, e)
both_true false b e = absurd (cc e)

not_open : (f : Fate) → is_none (let o : Option Fate = Some f in o) ≡ true → ⊥
not_open f e = cc e

pub settled_ends : (id : ℕ) (fate : Fate) (stage : Stage) → (has_id id stage && is_open stage) ≡ true → EndsAs (settled id fate stage) id fate
settled_ends id fate (refused why) e = absurd (cc e)
settled_ends id fate (opened life) e =
    of_cond (eqb life.id id) (λ t. EndsAs t id fate) (ends_with fate (opened life)) (opened life)
    (λ same. record {
      life = record life { fate = first_fate fate life.fate };
      life_is = refl;
      id_is = eqb-true life.id id same;
      fate_is = opens life.fate (both_true (eqb life.id id) (is_none life.fate) e).1;
    })
    (λ other. absurd (differs (eqb life.id id) other (both_true (eqb life.id id) (is_none life.fate) e).0))
  where
    opens : (before : Option Fate) → is_none before ≡ true → first_fate fate before ≡ Some fate
    opens None open_still = refl
    opens (Some f) open_still = absurd (not_open f open_still)

    differs : (b : Bool) → b ≡ false → b ≡ true → ⊥
    differs b f t = cc (f, t)

late_is_not_used : (packet bytes : List ℕ) (id : CallId) → (let r : GotRow = record { packet = packet; fate = Late 0 } in r) ≡ record { packet = bytes; fate = Used id } → ⊥
late_is_not_used packet bytes id e = go (ap (λ (r : GotRow). r.fate) e)
  where
    go : Late 0 ≡ Used id → ⊥
    go f = cc f

-- a packet comes
pub desk_named : (s : Session) (c : Course) (node : ℕ) (link : Link) → link_of node c.links ≡ Some link → (d : Desk) (packet : List ℕ)
    → AllNamed (with_desk c node d) → AllNamed (with_desk c node (came s node d packet))
desk_named s c node link found d packet all = came_by s node (λ e. AllNamed (with_desk c node e)) d packet late used
  where
    late : AllNamed (with_desk c node (is_late d packet))
    late j k bytes id e = go (adds.back j k (record { packet = bytes; fate = Used id }) e)
      where
        adds : Adds (with_desk c node d) (with_desk c node (is_late d packet)) node (record { packet = packet; fate = Late 0 })
        adds = desk_adds c node link found d (is_late d packet) (record { packet = packet; fate = Late 0 }) refl

        go : (slice_get (got_at (with_desk c node d) j) k ≡ Some (record { packet = bytes; fate = Used id }))
            ⊎ ((j ≡ node) × (k ≡ length (got_at (with_desk c node d) node)) × ((let r : GotRow = record { packet = packet; fate = Late 0 } in r) ≡ record { packet = bytes; fate = Used id }))
            → IsNamed (with_desk c node (is_late d packet)) j (suc k) id.0
        go (inl before) = let n = all j k bytes id before in record { place = n.place; call = n.call; response = n.response; call_is = n.call_is; ends = n.ends }
        go (inr last) = absurd (late_is_not_used packet bytes id last.2)

    used : (r : Response) → read_response packet ≡ Some r → list_any (is_open_under (named_id r.id)) d.calls ≡ true → AllNamed (with_desk c node (is_used node d packet r))
    used r reads any j k bytes id e = go (adds.back j k (record { packet = bytes; fate = Used id }) e)
      where
        fate : Fate
        fate = replied node (suc (length d.link.got)) r

        adds : Adds (with_desk c node d) (with_desk c node (is_used node d packet r)) node (record { packet = packet; fate = Used (record { 0 = named_id r.id }) })
        adds = desk_adds c node link found d (is_used node d packet r) (record { packet = packet; fate = Used (record { 0 = named_id r.id }) }) refl

        this : IsNamed (with_desk c node (is_used node d packet r)) node (suc (length d.link.got)) (named_id r.id)
        this =
            let found_call = any_at (is_open_under (named_id r.id)) d.calls any in
            record {
              place = found_call.0;
              call = changed (settled (named_id r.id) fate) found_call.1;
              response = r;
              call_is = get_map (changed (settled (named_id r.id) fate)) d.calls found_call.0 found_call.1 found_call.2;
              ends = settled_ends (named_id r.id) fate found_call.1.stage found_call.3;
            }

        id_same : (let row : GotRow = record { packet = packet; fate = Used (record { 0 = named_id r.id }) } in row) ≡ record { packet = bytes; fate = Used id } → named_id r.id ≡ id.0
        id_same same = ap (λ (row : GotRow). elim row.fate [ Used own ↦ own.0 | Late word ↦ 0 ]) same

        go : (slice_get (got_at (with_desk c node d) j) k ≡ Some (record { packet = bytes; fate = Used id }))
            ⊎ ((j ≡ node) × (k ≡ length (got_at (with_desk c node d) node)) × ((let row : GotRow = record { packet = packet; fate = Used (record { 0 = named_id r.id }) } in row) ≡ record { packet = bytes; fate = Used id }))
            → IsNamed (with_desk c node (is_used node d packet r)) j (suc k) id.0
        go (inl before) =
            named_change (with_desk c node d) (with_desk c node (is_used node d packet r)) (settled (named_id r.id) fate) refl (settled_leaves (named_id r.id) fate) j (suc k) id.0 (all j k bytes id before)
        go (inr last) =
            let at : length d.link.got ≡ k = sym (last.1 ∙ ap length (desk_here c node link found d)) in
            subst (λ i. IsNamed (with_desk c node (is_used node d packet r)) i (suc k) id.0) (sym last.0)
            (subst (λ i. IsNamed (with_desk c node (is_used node d packet r)) node (suc k) i) (id_same last.2)
            (subst (λ n. IsNamed (with_desk c node (is_used node d packet r)) node (suc n) (named_id r.id)) at this))
