-- Which calls were opened, by what came before each.
use Rattle.std.proofs.Common.{◌≡◌, ◌<◌, ◌⊎◌, inl, inr, ℕ, zero, suc, Bool, true, false, ◌&&◌, eqb, List, [], ◌∷◌, ◌++◌, map, take, Option, Some, None, refl, sym, ap, ◌∙◌, subst, arith}
use Rattle.std.specs.Prelude.{slice_get, fold, nat_le, if◌then◌else◌}
use Rattle.std.specs.List.{AllByRecursion}
use Rattle.std.proofs.lemmas.List.{append-nil, map-append}
use Rattle.script_session.specs.Sessions.{WIDTH, NODE, live_node}
use Rattle.script_session.specs.declared.session.CallSpec.{CallSpec}
use Rattle.script_session.specs.declared.session.Event.{Event}
use Rattle.script_session.specs.declared.session.Event.TheVariants.{Call, Serve, Work, Deliver, Close}
use Rattle.script_session.specs.declared.report.Refusal.TheVariants as refusal
use Rattle.script_session.specs.declared.session.Session.{Session}
use Rattle.run_course.specs.Courses.{Fate, replied, closed, Stage, refused, opened, Life, Noted, Course, start, in_flight, is_opened, is_in_flight, next_id, named_id, settled, ends_with, refused_call, opened_call, called, step, after_all}
use Rattle.run_course.specs.Planned.{collects, ended}
use Rattle.run_course.specs.Legal.{IsCallAt, Scripted, scripted_after, scripted, Opening, as_full, as_closed, under, opening_of, pick_of, opened_of, opening_after, IsAsScripted}
use Rattle.run_course.proofs.Lists.{some_same, none_some, of_cond, join_more, all_more, all_map, count_same, count_map, count_rises}
use Rattle.run_course.proofs.Got.{came_by}
use Rattle.run_course.proofs.Events.{called_by, deliver_by}

-- a call is as scripted, after these calls
pub record IsAfter (before : List Noted) (text : Scripted) (call : Noted) : Type 0 where
  pub spec : call.spec ≡ text.spec
  pub opening : opening_of call.stage ≡ opening_after before text
  pub pick : call.pick ≡ pick_of (opening_of call.stage)

abbrev pub AllAfter : List Noted → List Scripted → List Noted → Type 0
AllAfter before [] [] = Unit {0}
AllAfter before [] (call ∷ calls) = ⊥
AllAfter before (text ∷ texts) [] = ⊥
AllAfter before (text ∷ texts) (call ∷ calls) = IsAfter before text call × AllAfter (before ++ call ∷ []) texts calls

after_more : (before : List Noted) (texts : List Scripted) (calls : List Noted) (text : Scripted) (call : Noted)
    → AllAfter before texts calls → IsAfter (before ++ calls) text call → AllAfter before (texts ++ text ∷ []) (calls ++ call ∷ [])
after_more before [] [] text call all last = (subst (λ b. IsAfter b text call) (append-nil before) last, record {})
after_more before [] (c ∷ calls) text call all last = absurd all
after_more before (t ∷ texts) [] text call all last = absurd all
after_more before (t ∷ texts) (c ∷ calls) text call all last =
    (all.0, after_more (before ++ c ∷ []) texts calls text call all.1 (subst (λ b. IsAfter b text call) (sym (join_more before c calls)) last))

after_at : (before : List Noted) (texts : List Scripted) (calls : List Noted) (k : ℕ) (call : Noted) → AllAfter before texts calls → slice_get calls k ≡ Some call
    → (text : Scripted) × (slice_get texts k ≡ Some text) × IsAfter (before ++ take k calls) text call
after_at before [] [] k call all e = absurd (none_some call e)
after_at before [] (c ∷ calls) k call all e = absurd all
after_at before (t ∷ texts) [] k call all e = absurd all
after_at before (t ∷ texts) (c ∷ calls) zero call all e =
    (t, refl, subst (λ b. IsAfter b t call) (sym (append-nil before)) (subst (λ (n : Noted). IsAfter before t n) (some_same c call e) all.0))
after_at before (t ∷ texts) (c ∷ calls) (suc k) call all e =
    let found = after_at (before ++ c ∷ []) texts calls k call all.1 e in
    (found.0, found.1, subst (λ b. IsAfter b found.0 call) (join_more before c (take k calls)) found.2)

pub same_specs : (before : List Noted) (texts : List Scripted) (calls : List Noted) → AllAfter before texts calls → map (λ (call : Noted). call.spec) calls ≡ map (λ (text : Scripted). text.spec) texts
same_specs before [] [] all = refl
same_specs before [] (c ∷ calls) all = absurd all
same_specs before (t ∷ texts) [] all = absurd all
same_specs before (t ∷ texts) (c ∷ calls) all = rw (all.0.spec, same_specs (before ++ c ∷ []) texts calls all.1) refl

-- ---- changes that leave what calls were at first

pub record LeavesOpening (change : Stage → Stage) : Type 0 where
  pub opening : (stage : Stage) → opening_of (change stage) ≡ opening_of stage
  pub is_open : (stage : Stage) → is_opened (change stage) ≡ is_opened stage

abbrev changed : (Stage → Stage) → Noted → Noted
changed change call = record call { stage = change call.stage }

choice_same : (width width' : Bool) (is_closed : Bool) (id id' : ℕ) → width ≡ width' → id ≡ id'
    → (let o : Opening = if width then as_full else (if is_closed then as_closed 0 else under id NODE) in o) ≡ (if width' then as_full else (if is_closed then as_closed 0 else under id' NODE))
choice_same width width' is_closed id id' e f = rw (e, f) refl

opening_same : (change : Stage → Stage) → LeavesOpening change → (before : List Noted) (text : Scripted) → opening_after (map (changed change) before) text ≡ opening_after before text
opening_same change leaves before text =
    choice_same _ _ text.closed _ _
    (ap (λ n. nat_le WIDTH n)
    (count_map (λ (call : Noted). is_opened call.stage && eqb call.spec.line text.spec.line) (λ (call : Noted). is_opened call.stage && eqb call.spec.line text.spec.line)
    (changed change) (λ call. ap (λ b. b && eqb call.spec.line text.spec.line) (leaves.is_open call.stage)) before))
    (ap suc (count_map (λ (call : Noted). is_opened call.stage) (λ (call : Noted). is_opened call.stage) (changed change) (λ call. leaves.is_open call.stage) before))

after_change : (change : Stage → Stage) → LeavesOpening change → (before : List Noted) (texts : List Scripted) (calls : List Noted)
    → AllAfter before texts calls → AllAfter (map (changed change) before) texts (map (changed change) calls)
after_change change leaves before [] [] all = record {}
after_change change leaves before [] (c ∷ calls) all = absurd all
after_change change leaves before (t ∷ texts) [] all = absurd all
after_change change leaves before (t ∷ texts) (c ∷ calls) all = (
  record {
    spec = all.0.spec;
    opening = leaves.opening c.stage ∙ (all.0.opening ∙ sym (opening_same change leaves before t));
    pick = all.0.pick ∙ sym (ap pick_of (leaves.opening c.stage));
  },
  subst (λ b. AllAfter b texts (map (changed change) calls)) (map-append (changed change) before (c ∷ [])) (after_change change leaves (before ++ c ∷ []) texts calls all.1),
)

ends_leave : (fate : Fate) → LeavesOpening (ends_with fate)
ends_leave fate = record { opening = λ stage. first stage; is_open = λ stage. second stage }
  where
    first : (stage : Stage) → opening_of (ends_with fate stage) ≡ opening_of stage
    first (refused why) = refl
    first (opened life) = refl

    second : (stage : Stage) → is_opened (ends_with fate stage) ≡ is_opened stage
    second (refused why) = refl
    second (opened life) = refl

settled_leaves : (id : ℕ) (fate : Fate) → LeavesOpening (settled id fate)
settled_leaves id fate = record { opening = λ stage. first stage; is_open = λ stage. second stage }
  where
    first : (stage : Stage) → opening_of (settled id fate stage) ≡ opening_of stage
    first (refused why) = refl
    first (opened life) = of_cond (eqb life.id id) (λ t. opening_of t ≡ under life.id life.node) (ends_with fate (opened life)) (opened life) (λ same. refl) (λ other. refl)

    second : (stage : Stage) → is_opened (settled id fate stage) ≡ is_opened stage
    second (refused why) = refl
    second (opened life) = of_cond (eqb life.id id) (λ t. is_opened t ≡ true) (ends_with fate (opened life)) (opened life) (λ same. refl) (λ other. refl)

collects_leave : LeavesOpening collects
collects_leave = record { opening = λ stage. first stage; is_open = λ stage. second stage }
  where
    first : (stage : Stage) → opening_of (collects stage) ≡ opening_of stage
    first (refused why) = refl
    first (opened life) = refl

    second : (stage : Stage) → is_opened (collects stage) ≡ is_opened stage
    second (refused why) = refl
    second (opened life) = refl

-- ---- nothing is collected before the end

abbrev InFlight : Noted → Type 0
InFlight call = is_in_flight call.stage ≡ is_opened call.stage

ends_in_flight : (fate : Fate) (stage : Stage) → is_in_flight stage ≡ is_opened stage → is_in_flight (ends_with fate stage) ≡ is_opened (ends_with fate stage)
ends_in_flight fate (refused why) e = refl
ends_in_flight fate (opened life) e = e

settled_in_flight : (id : ℕ) (fate : Fate) (stage : Stage) → is_in_flight stage ≡ is_opened stage → is_in_flight (settled id fate stage) ≡ is_opened (settled id fate stage)
settled_in_flight id fate (refused why) e = refl
settled_in_flight id fate (opened life) e =
    of_cond (eqb life.id id) (λ (t : Stage). is_in_flight t ≡ is_opened t) (ends_with fate (opened life)) (opened life) (λ same. e) (λ other. e)

pub record Opens (texts : List Scripted) (calls : List Noted) : Type 0 where
  pub all : AllAfter [] texts calls
  pub flying : AllByRecursion InFlight calls

opens_change : (change : Stage → Stage) → LeavesOpening change → ((stage : Stage) → is_in_flight stage ≡ is_opened stage → is_in_flight (change stage) ≡ is_opened (change stage))
    → (texts : List Scripted) (calls : List Noted) → Opens texts calls → Opens texts (map (changed change) calls)
opens_change change leaves flies texts calls opens =
    record { all = after_change change leaves [] texts calls opens.all; flying = all_map InFlight InFlight (changed change) calls (λ call e. flies call.stage e) opens.flying }

opens_more : (texts : List Scripted) (calls : List Noted) (text : Scripted) (call : Noted) → Opens texts calls → IsAfter calls text call → InFlight call → Opens (texts ++ text ∷ []) (calls ++ call ∷ [])
opens_more texts calls text call opens after flies =
    record { all = after_more [] texts calls text call opens.all after; flying = all_more InFlight calls call opens.flying flies }

-- as many of a line are in flight as were opened
flight_is : (line : ℕ) (calls : List Noted) → AllByRecursion InFlight calls → in_flight line calls ≡ opened_of line calls
flight_is line calls flying =
    count_same (λ (call : Noted). is_in_flight call.stage && eqb call.spec.line line) (λ (call : Noted). is_opened call.stage && eqb call.spec.line line) calls (each calls flying)
  where
    each : (xs : List Noted) → AllByRecursion InFlight xs → AllByRecursion (λ (call : Noted). (is_in_flight call.stage && eqb call.spec.line line) ≡ (is_opened call.stage && eqb call.spec.line line)) xs
    each [] all = record {}
    each (x ∷ xs) all = (ap (λ b. b && eqb x.spec.line line) all.0, each xs all.1)

-- ---- events

choose : (width is_closed : Bool) (id : ℕ) (o : Opening) → (width ≡ true → o ≡ as_full) → (width ≡ false → is_closed ≡ true → o ≡ as_closed 0) → (width ≡ false → is_closed ≡ false → o ≡ under id NODE)
    → o ≡ (if width then as_full else (if is_closed then as_closed 0 else under id NODE))
choose true is_closed id o full late sent = full refl
choose false true id o full late sent = late refl refl
choose false false id o full late sent = sent refl refl

differ : (b : Bool) → b ≡ true → b ≡ false → ⊥
differ b t f = cc (t, f)

call_opens : (s : Session) (c : Course) (spec : CallSpec) (texts : List Scripted) → Opens texts c.calls
    → Opens (texts ++ record { spec = spec; closed = c.closed } ∷ []) (called s c spec).calls × ((called s c spec).closed ≡ c.closed)
call_opens s c spec texts opens =
    called_by s c spec (λ (d : Course). Opens (texts ++ text ∷ []) d.calls × (d.closed ≡ c.closed))
    (λ full. (
      opens_more texts c.calls text (refused_call spec None refusal.Full) opens
          (record { spec = refl; opening = choose width c.closed (next_id c.calls) as_full (λ w. refl) (λ w l. absurd (differ width (is full) w)) (λ w l. absurd (differ width (is full) w)); pick = refl }) refl,
      refl,
    ))
    (λ room late. (
      opens_more texts c.calls text (refused_call spec live_node (refusal.Closed 0)) opens
          (record { spec = refl; opening = choose width c.closed (next_id c.calls) (as_closed 0) (λ w. absurd (differ width w (is_not room))) (λ w l. refl) (λ w l. absurd (differ c.closed late l)); pick = refl }) refl,
      refl,
    ))
    (λ room open_still. (
      opens_more texts c.calls text (opened_call s c spec) opens
          (record { spec = refl; opening = choose width c.closed (next_id c.calls) (under (next_id c.calls) NODE) (λ w. absurd (differ width w (is_not room))) (λ w l. absurd (differ c.closed l open_still)) (λ w l. refl); pick = refl }) refl,
      refl,
    ))
  where
    text : Scripted
    text = record { spec = spec; closed = c.closed }

    width : Bool
    width = nat_le WIDTH (opened_of spec.line c.calls)

    same : width ≡ nat_le WIDTH (in_flight spec.line c.calls)
    same = ap (λ n. nat_le WIDTH n) (sym (flight_is spec.line c.calls opens.flying))

    is : nat_le WIDTH (in_flight spec.line c.calls) ≡ true → width ≡ true
    is full = same ∙ full

    is_not : nat_le WIDTH (in_flight spec.line c.calls) ≡ false → width ≡ false
    is_not room = same ∙ room

deliver_opens : (s : Session) (c : Course) (node : ℕ) (bytes : Option ℕ) (texts : List Scripted) → Opens texts c.calls
    → Opens texts (step s c (Deliver node bytes)).calls × ((step s c (Deliver node bytes)).closed ≡ c.closed)
deliver_opens s c node bytes texts opens =
    deliver_by s c node bytes (λ (d : Course). Opens texts d.calls × (d.closed ≡ c.closed)) (opens, refl) (λ link found to. (opens, refl))
    (λ link found d packet holds. (
      came_by s node (λ e. Opens texts e.calls) d packet holds.0
          (λ r reads any. opens_change (settled (named_id r.id) (replied node (suc (Rattle.std.proofs.Common.length d.link.got)) r)) (settled_leaves _ _) (settled_in_flight _ _) texts d.calls holds.0),
      holds.1,
    ))

pub events_open : (s : Session) (events : List Event) (c : Course) (texts : List Scripted) → Opens texts c.calls → Opens (texts ++ scripted_after c.closed events) (fold (step s) c events).calls
events_open s [] c texts opens = subst (λ (ts : List Scripted). Opens ts c.calls) (sym (append-nil texts)) opens
events_open s (Call spec ∷ events) c texts opens =
    let first = call_opens s c spec texts opens in
    let later = events_open s events (called s c spec) (texts ++ record { spec = spec; closed = c.closed } ∷ []) first.0 in
    subst (λ (ts : List Scripted). Opens ts (fold (step s) (called s c spec) events).calls)
    (ap (λ b. (texts ++ record { spec = spec; closed = c.closed } ∷ []) ++ scripted_after b events) first.1 ∙ join_more texts (record { spec = spec; closed = c.closed }) (scripted_after c.closed events))
    later
events_open s (Serve node bytes ∷ events) c texts opens = events_open s events (step s c (Serve node bytes)) texts opens
events_open s (Work node ∷ events) c texts opens = events_open s events (step s c (Work node)) texts opens
events_open s (Deliver node bytes ∷ events) c texts opens =
    let first = deliver_opens s c node bytes texts opens in
    subst (λ (b : Bool). Opens (texts ++ scripted_after b events) (fold (step s) (step s c (Deliver node bytes)) events).calls) first.1
    (events_open s events (step s c (Deliver node bytes)) texts first.0)
events_open s (Close ∷ events) c texts opens =
    events_open s events (step s c Close) texts (opens_change (ends_with closed) (ends_leave closed) (ends_in_flight closed) texts c.calls opens)

pub runs_open : (s : Session) (events : List Event) → AllAfter [] (scripted events) (ended s events).calls
unfolding ended
runs_open s events =
    let c : Course = step s (after_all s events) Close in
    let opens : Opens (scripted events) c.calls =
    opens_change (ends_with closed) (ends_leave closed) (ends_in_flight closed) (scripted events) (after_all s events).calls
    (events_open s events start [] (record { all = record {}; flying = record {} })) in
    after_change collects collects_leave [] (scripted events) c.calls opens.all

pub as_scripted : (s : Session) (events : List Event) (k : ℕ) (call : Noted) → IsCallAt (ended s events) k call
    → (text : Scripted) × (slice_get (scripted events) k ≡ Some text) × IsAsScripted (ended s events) k call text
as_scripted s events k call e =
    let found = after_at [] (scripted events) (ended s events).calls k call (runs_open s events) e in
    (found.0, found.1, record { spec = found.2.spec; opening = found.2.opening; pick = found.2.pick })

-- ---- ids

id_is : (before : List Noted) (text : Scripted) (id node : ℕ) → under id node ≡ opening_after before text → id ≡ next_id before
id_is before text id node =
    of_cond (nat_le WIDTH (opened_of text.spec.line before)) (λ (o : Opening). under id node ≡ o → id ≡ next_id before) as_full (if text.closed then as_closed 0 else under (next_id before) NODE)
    (λ full e. absurd (cc e))
    (λ room. of_cond text.closed (λ (o : Opening). under id node ≡ o → id ≡ next_id before) (as_closed 0) (under (next_id before) NODE)
    (λ late e. absurd (cc e))
    (λ open_still e. ap (λ (o : Opening). elim o [ as_full ↦ 0 | as_closed word ↦ 0 | under i n ↦ i ]) e))

-- the id of a call that was opened
pub id_after : (s : Session) (events : List Event) (k : ℕ) (call : Noted) (life : Life) → IsCallAt (ended s events) k call → call.stage ≡ opened life → life.id ≡ next_id (take k (ended s events).calls)
id_after s events k call life e is_opened_so =
    let found = after_at [] (scripted events) (ended s events).calls k call (runs_open s events) e in
    id_is (take k (ended s events).calls) found.0 life.id life.node (sym (ap opening_of is_opened_so) ∙ found.2.opening)

earlier_below : (calls : List Noted) (j k : ℕ) (call : Noted) (life : Life) → slice_get calls j ≡ Some call → call.stage ≡ opened life → j < k → next_id (take j calls) < next_id (take k calls)
earlier_below calls j k call life e is_opened_so below =
    let rises = count_rises (λ (n : Noted). is_opened n.stage) calls j k call e (ap is_opened is_opened_so) below in omega (arith, rises)

pub ids_differ : (s : Session) (events : List Event) (j k : ℕ) (call other : Noted) (life next : Life) → IsCallAt (ended s events) j call → IsCallAt (ended s events) k other
    → call.stage ≡ opened life → other.stage ≡ opened next → life.id ≡ next.id → j ≡ k
ids_differ s events j k call other life next e f is_opened_so next_opened same = go
  where
    ids : next_id (take j (ended s events).calls) ≡ next_id (take k (ended s events).calls)
    ids = sym (id_after s events j call life e is_opened_so) ∙ (same ∙ id_after s events k other next f next_opened)

    low : j < k → ⊥
    low below = let rises = earlier_below (ended s events).calls j k call life e is_opened_so below in absurd (omega (arith, rises, ids))

    high : k < j → ⊥
    high below = let rises = earlier_below (ended s events).calls k j other next f next_opened below in absurd (omega (arith, rises, ids))

    trichotomy : (a b : ℕ) → (a < b → ⊥) → (b < a → ⊥) → a ≡ b
    trichotomy zero zero no_less no_more = refl
    trichotomy zero (suc b) no_less no_more = absurd (no_less (omega arith))
    trichotomy (suc a) zero no_less no_more = absurd (no_more (omega arith))
    trichotomy (suc a) (suc b) no_less no_more = ap suc (trichotomy a b (λ less. no_less (omega (arith, less))) (λ more. no_more (omega (arith, more))))

    go : j ≡ k
    go = trichotomy j k low high
