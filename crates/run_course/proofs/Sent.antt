-- What was sent to a node: the frame of each call that was opened there, in order.
use Rattle.std.proofs.Common.{◌≡◌, ◌⊎◌, inl, inr, ℕ, zero, suc, Bool, true, false, eqb, List, [], ◌∷◌, ◌++◌, map, Option, Some, None, refl, sym, ap, ◌∙◌, subst}
use Rattle.std.specs.Prelude.{filter_map}
use Rattle.std.proofs.lemmas.Bool.{eqb-true}
use Rattle.std.proofs.lemmas.List.{append-nil}
use Rattle.std.proofs.lemmas.List.Elements.{filter_map-append}
use Rattle.script_session.specs.Sessions.{NODE}
use Rattle.script_session.specs.declared.link_log.SentRow.{SentRow}
use Rattle.script_session.specs.declared.session.CallSpec.{CallSpec}
use Rattle.script_session.specs.declared.session.Event.{Event}
use Rattle.script_session.specs.declared.session.Event.TheVariants.{Call, Serve, Work, Deliver, Close}
use Rattle.script_session.specs.declared.report.PickNote.{PickNote}
use Rattle.script_session.specs.declared.report.Refusal.{Refusal}
use Rattle.rpc_packet.specs.Packets.{read_response}
use Rattle.rpc_packet.specs.declared.response.Response.{Response}
use Rattle.script_session.specs.declared.session.Session.{Session}
use Rattle.run_course.specs.Courses.{Fate, replied, closed, Life, Stage, refused, opened, Noted, Link, Course, Desk, link_of, at_node, unused, start, named_id, sends, sent_row, next_id, not_sent, refused_call, opened_call, is_sent, settled, ends_with, serves, worked, came, is_late, is_used, with_desk, delivered_at, step, after_all}
use Rattle.run_course.specs.Planned.{collects, ended}
use Rattle.run_course.specs.Legal.{sent_of_stage, sent_of}
use Rattle.run_course.proofs.Lists.{fold_keeps, some_same, none_some, of_cond, filter_map_same}
use Rattle.run_course.proofs.Links.{Each, each_goes, each_kept, each_put}
use Rattle.run_course.proofs.Got.{came_by}
use Rattle.run_course.proofs.Events.{called_by, deliver_by}

-- the frames that these calls have at a node
abbrev pub IsSentAt : Session → List Noted → ℕ → Link → Type 0
IsSentAt s calls node link = link.sent ≡ filter_map (sent_of s node) calls

abbrev pub AllSent : Session → Course → Type 0
AllSent s c = Each (IsSentAt s c.calls) c.links

-- a change of calls that leaves what was sent
abbrev LeavesSent : Session → (Stage → Stage) → Type 0
LeavesSent s change = (node : ℕ) (spec : CallSpec) (stage : Stage) → sent_of_stage s node spec (change stage) ≡ sent_of_stage s node spec stage

with_fate : (s : Session) (fate : Fate) → LeavesSent s (ends_with fate)
with_fate s fate node spec (refused why) = refl
with_fate s fate node spec (opened life) = refl

settled_sent : (s : Session) (id : ℕ) (fate : Fate) → LeavesSent s (settled id fate)
settled_sent s id fate node spec (refused why) = refl
settled_sent s id fate node spec (opened life) =
    of_cond (eqb life.id id) (λ t. sent_of_stage s node spec t ≡ sent_of_stage s node spec (opened life)) (ends_with fate (opened life)) (opened life) (λ same. refl) (λ other. refl)

collected_sent : (s : Session) → LeavesSent s collects
collected_sent s node spec (refused why) = refl
collected_sent s node spec (opened life) = refl

changed_sent : (s : Session) (change : Stage → Stage) → LeavesSent s change → (calls : List Noted) (node : ℕ) (link : Link)
    → IsSentAt s calls node link → IsSentAt s (map (λ (call : Noted). record call { stage = change call.stage }) calls) node link
changed_sent s change leaves calls node link sent =
    sent ∙ sym (filter_map_same (sent_of s node) (λ (call : Noted). record call { stage = change call.stage }) (sent_of s node) (λ call. leaves node call.spec call.stage) calls)

-- ---- events

refused_sent : (s : Session) (calls : List Noted) (spec : CallSpec) (pick : Option PickNote) (why : Refusal) (node : ℕ) (link : Link)
    → IsSentAt s calls node link → IsSentAt s (calls ++ refused_call spec pick why ∷ []) node link
refused_sent s calls spec pick why node link sent =
    sent ∙ sym (filter_map-append (sent_of s node) calls (refused_call spec pick why ∷ []) ∙ append-nil (filter_map (sent_of s node) calls))

-- a call that was opened has its frame at its node, and at no other
opened_here : (s : Session) (c : Course) (spec : CallSpec) (link : Link) → IsSentAt s c.calls NODE link
    → IsSentAt s (c.calls ++ opened_call s c spec ∷ []) NODE (sends (sent_row s spec (next_id c.calls)) link)
opened_here s c spec link sent =
    ap (λ rows. rows ++ sent_row s spec (next_id c.calls) ∷ []) sent ∙ sym (filter_map-append (sent_of s NODE) c.calls (opened_call s c spec ∷ []))

opened_there : (s : Session) (c : Course) (spec : CallSpec) (node : ℕ) (link : Link) → (node ≡ NODE → ⊥) → IsSentAt s c.calls node link
    → IsSentAt s (c.calls ++ opened_call s c spec ∷ []) node link
opened_there s c spec node link other sent =
    sent ∙ sym (filter_map-append (sent_of s node) c.calls (opened_call s c spec ∷ []) ∙ (ap (λ rows. filter_map (sent_of s node) c.calls ++ rows) none ∙ append-nil (filter_map (sent_of s node) c.calls)))
  where
    nothing : (o : Option SentRow) → o ≡ None → Rattle.std.specs.List.cons_option o [] ≡ []
    nothing o e = ap (λ p. Rattle.std.specs.List.cons_option p []) e

    none : filter_map (sent_of s node) (opened_call s c spec ∷ []) ≡ []
    none =
        nothing (sent_of s node (opened_call s c spec))
        (of_cond (eqb NODE node) (λ (o : Option SentRow). o ≡ None) (Some (sent_row s spec (next_id c.calls))) None
        (λ same. absurd (other (sym (eqb-true NODE node same)))) (λ different. refl))

serves_sent : (s : Session) (moment : ℕ) (bytes : Option ℕ) (calls : List Noted) (node : ℕ) (link : Link) → IsSentAt s calls node link → IsSentAt s calls node (serves s moment bytes link)
unfolding serves
serves_sent s moment bytes calls node link sent = sent

desk_sent : (s : Session) (c : Course) (node : ℕ) (link : Link) → link_of node c.links ≡ Some link → (d : Desk) (packet : List ℕ)
    → AllSent s (with_desk c node d) → AllSent s (with_desk c node (came s node d packet))
desk_sent s c node link found d packet all = came_by s node (λ e. AllSent s (with_desk c node e)) d packet late used
  where
    late : AllSent s (with_desk c node (is_late d packet))
    late = each_put (IsSentAt s d.calls) (IsSentAt s d.calls) node link d.link (is_late d packet).link c.links found all (λ j l sent. sent) (λ sent. sent)

    used : (r : Response) → read_response packet ≡ Some r → Rattle.std.specs.List.list_any (Rattle.run_course.specs.Courses.is_open_under (named_id r.id)) d.calls ≡ true
        → AllSent s (with_desk c node (is_used node d packet r))
    used r reads any =
        let change : Stage → Stage = settled (named_id r.id) (replied node (suc (Rattle.std.proofs.Common.length d.link.got)) r) in
        let leaves : LeavesSent s change = settled_sent s (named_id r.id) (replied node (suc (Rattle.std.proofs.Common.length d.link.got)) r) in
        each_put (IsSentAt s d.calls) (IsSentAt s (is_used node d packet r).calls) node link d.link (is_used node d packet r).link c.links found all
        (λ j l sent. changed_sent s change leaves d.calls j l sent) (λ sent. changed_sent s change leaves d.calls node d.link sent)

step_sent : (s : Session) (c : Course) (event : Event) → AllSent s c → AllSent s (step s c event)
step_sent s c (Call spec) all =
    called_by s c spec (λ (d : Course). AllSent s d)
    (λ full j link e. refused_sent s c.calls spec _ _ j link (all j link e))
    (λ room late j link e. refused_sent s c.calls spec _ _ j link (all j link e))
    (λ room open_still. each_goes (IsSentAt s c.calls) (IsSentAt s (is_sent s c spec).calls) NODE (sends (sent_row s spec (next_id c.calls))) c.links all
    (λ j link other sent. opened_there s c spec j link other sent) (λ link found sent. opened_here s c spec link sent))
step_sent s c (Serve node bytes) all = each_kept (IsSentAt s c.calls) node (serves s c.moment bytes) c.links all (λ link sent. serves_sent s c.moment bytes c.calls node link sent)
step_sent s c (Work node) all = each_kept (IsSentAt s c.calls) node (worked s c.moment) c.links all (λ link sent. sent)
step_sent s c (Deliver node bytes) all =
    deliver_by s c node bytes (λ (d : Course). AllSent s d) all
    (λ link found to. each_kept (IsSentAt s c.calls) node (λ l. record link { delivered = to }) c.links all (λ l sent. all node link found))
    (λ link found d packet holds. desk_sent s c node link found d packet holds)
step_sent s c Close all = λ j link e. changed_sent s (ends_with closed) (with_fate s closed) c.calls j link (all j link e)

start_sent : (s : Session) → AllSent s start
start_sent s zero link e = absurd (none_some link e)
start_sent s (suc zero) link e = subst (λ (l : Link). IsSentAt s [] 1 l) (some_same unused link e) refl
start_sent s (suc (suc j)) link e = absurd (none_some link e)

pub runs_sent : (s : Session) (events : List Event) → AllSent s (ended s events)
unfolding ended
runs_sent s events =
    let c : Course = step s (after_all s events) Close in
    λ j link e. changed_sent s collects (collected_sent s) c.calls j link
    (step_sent s (after_all s events) Close (fold_keeps (λ (d : Course). AllSent s d) (step s) (λ d event all. step_sent s d event all) events start (start_sent s)) j link e)
