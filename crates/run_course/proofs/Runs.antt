-- What holds after all events, by induction over their list: what was read, that each end has its cause, and that each packet that
-- was used is named.
use Rattle.std.proofs.Common.{◌≡◌, ℕ, zero, suc, true, List, Option, Some, None, refl, sym, ap, ◌∙◌, subst, arith}
use Rattle.std.specs.Prelude.{slice_get}
use Rattle.script_session.specs.Sessions.{NODE}
use Rattle.script_session.specs.declared.session.CallSpec.{CallSpec}
use Rattle.script_session.specs.declared.session.Event.{Event}
use Rattle.script_session.specs.declared.session.Event.TheVariants.{Call, Serve, Work, Deliver, Close}
use Rattle.tars_frames.specs.Cutting.{packets_of}
use Rattle.script_session.specs.declared.session.Session.{Session}
use Rattle.run_course.specs.Courses.{Stage, refused, opened, Link, Course, link_of, unused, start, sends, sent_row, next_id, serves, worked, delivers, delivered_at, ends_with, closed, is_sent, step, after_all, with_desk}
use Rattle.run_course.specs.Planned.{collects, collected_all, ended}
use Rattle.run_course.specs.Legal.{got_at, IsRead, HasCause, IsNamed}
use Rattle.run_course.proofs.Lists.{fold_keeps, some_same, none_some}
use Rattle.run_course.proofs.Links.{Each, each_kept}
use Rattle.run_course.proofs.Nodes.{fresh_kept}
use Rattle.run_course.proofs.Streams.{sends_read, serves_read, worked_read, delivers_read}
use Rattle.run_course.proofs.Ends.{AllCaused, Grows, ends_same, ends_more, ends_change, close_cause, desk_caused}
use Rattle.run_course.proofs.Named.{AllNamed, named_more, named_change, closed_leaves, LeavesEnds, desk_named}
use Rattle.run_course.proofs.Events.{link_got, serves_got, called_by, deliver_by, begun, begun_got}

-- ---- what was read

abbrev pub AllRead : Session → Course → Type 0
AllRead s c = Each (λ node link. IsRead s link) c.links

unused_read : (s : Session) → IsRead s unused
unfolding packets_of
unused_read s =
    let kept = fresh_kept s in
    record {
      served_within = omega arith;
      requests = refl;
      taken_within = kept.taken_within;
      room = kept.room;
      answers = kept.answers;
      order = kept.order;
      delivered_within = omega arith;
      packets = refl;
    }

start_read : (s : Session) → AllRead s start
start_read s zero link e = absurd (none_some link e)
start_read s (suc zero) link e = subst (λ (l : Link). IsRead s l) (some_same unused link e) (unused_read s)
start_read s (suc (suc j)) link e = absurd (none_some link e)

delivered_read : (s : Session) (c : Course) (node : ℕ) (bytes : Option ℕ) → AllRead s c → AllRead s (delivered_at s c node bytes (link_of node c.links))
delivered_read s c node bytes all = go (link_of node c.links) refl
  where
    go : (o : Option Link) → link_of node c.links ≡ o → AllRead s (delivered_at s c node bytes o)
    go None e = all
    go (Some link) e =
        each_kept (λ j l. IsRead s l) node (λ l. (delivers s node bytes c.calls link).link) c.links all
        (λ l read. delivers_read s node bytes c.calls link (all node link e))

step_read : (s : Session) (c : Course) (event : Event) → AllRead s c → AllRead s (step s c event)
step_read s c (Call spec) all =
    called_by s c spec (λ (d : Course). AllRead s d) (λ full. all) (λ room late. all)
    (λ room open_still. each_kept (λ j l. IsRead s l) NODE (sends (sent_row s spec (next_id c.calls))) c.links all (sends_read s (sent_row s spec (next_id c.calls))))
step_read s c (Serve node bytes) all = each_kept (λ j l. IsRead s l) node (serves s c.moment bytes) c.links all (serves_read s c.moment bytes)
step_read s c (Work node) all = each_kept (λ j l. IsRead s l) node (worked s c.moment) c.links all (worked_read s c.moment)
step_read s c (Deliver node bytes) all = delivered_read s c node bytes all
step_read s c Close all = all

pub runs_read : (s : Session) (events : List Event) → AllRead s (ended s events)
unfolding ended
runs_read s events = fold_keeps (λ (c : Course). AllRead s c) (step s) (λ c event all. step_read s c event all) events start (start_read s)

-- ---- each end has its cause

same_got : (old new : Course) → ((j : ℕ) → got_at new j ≡ got_at old j) → (old.closed ≡ true → new.closed ≡ true) → Grows old new
same_got old new got stays = record { got = λ j k r e. ap (λ g. slice_get g k) (got j) ∙ e; stays_closed = stays }

sent_got : (s : Session) (c : Course) (spec : CallSpec) (j : ℕ) → got_at (is_sent s c spec) j ≡ got_at c j
sent_got s c spec j = link_got NODE j (sends (sent_row s spec (next_id c.calls))) c.links (λ link. refl)

step_caused : (s : Session) (c : Course) (event : Event) → AllCaused s c → AllCaused s (step s c event)
step_caused s c (Call spec) all =
    called_by s c spec (λ (d : Course). AllCaused s d)
    (λ full. ends_more s c _ _ (same_got c _ (λ j. refl) (λ e. e)) refl (record {}) all)
    (λ room late. ends_more s c _ _ (same_got c _ (λ j. refl) (λ e. e)) refl (record {}) all)
    (λ room open_still. ends_more s c (is_sent s c spec) _ (same_got c (is_sent s c spec) (sent_got s c spec) (λ e. e)) refl (record {}) all)
step_caused s c (Serve node bytes) all =
    ends_same s c (step s c (Serve node bytes)) (same_got c (step s c (Serve node bytes)) (λ j. link_got node j (serves s c.moment bytes) c.links (serves_got s c.moment bytes)) (λ e. e)) refl all
step_caused s c (Work node) all =
    ends_same s c (step s c (Work node)) (same_got c (step s c (Work node)) (λ j. link_got node j (worked s c.moment) c.links (λ link. refl)) (λ e. e)) refl all
step_caused s c (Deliver node bytes) all =
    deliver_by s c node bytes (λ (d : Course). AllCaused s d) all
    (λ link found to. ends_same s c (with_desk c node (begun c link to)) (same_got c (with_desk c node (begun c link to)) (begun_got c node link found to) (λ e. e)) refl all)
    (λ link found d packet holds. desk_caused s c node link found d packet holds)
step_caused s c Close all =
    ends_change s c (step s c Close) (ends_with closed) (same_got c (step s c Close) (λ j. refl) (λ e. refl)) refl (close_cause s (step s c Close) refl) all

start_caused : (s : Session) → AllCaused s start
start_caused s k call e = absurd (none_some call e)

collected_cause : (s : Session) (c : Course) (stage : Stage) → HasCause s c stage → HasCause s c (collects stage)
collected_cause s c (refused why) cause = record {}
collected_cause s c (opened life) cause = cause

pub after_caused : (s : Session) (events : List Event) → AllCaused s (after_all s events)
after_caused s events = fold_keeps (λ (c : Course). AllCaused s c) (step s) (λ c event all. step_caused s c event all) events start (start_caused s)

pub runs_caused : (s : Session) (events : List Event) → AllCaused s (ended s events)
unfolding ended
runs_caused s events =
    let c = step s (after_all s events) Close in
    ends_change s c (collected_all c) collects (same_got c (collected_all c) (λ j. refl) (λ e. e)) refl (collected_cause s (collected_all c))
    (step_caused s (after_all s events) Close (after_caused s events))

-- ---- each packet that was used is named

named_on : (old new : Course) → ((j : ℕ) → got_at new j ≡ got_at old j) → ((node packet id : ℕ) → IsNamed old node packet id → IsNamed new node packet id) → AllNamed old → AllNamed new
named_on old new got goes all node k bytes id e = goes node (suc k) id.0 (all node k bytes id (sym (ap (λ g. slice_get g k) (got node)) ∙ e))

named_as_before : (old new : Course) → new.calls ≡ old.calls → (node packet id : ℕ) → IsNamed old node packet id → IsNamed new node packet id
named_as_before old new calls node packet id named =
    record { place = named.place; call = named.call; response = named.response; call_is = ap (λ xs. slice_get xs named.place) calls ∙ named.call_is; ends = named.ends }

step_named : (s : Session) (c : Course) (event : Event) → AllNamed c → AllNamed (step s c event)
step_named s c (Call spec) all =
    called_by s c spec AllNamed
    (λ full. named_on c _ (λ j. refl) (named_more c _ _ refl) all)
    (λ room late. named_on c _ (λ j. refl) (named_more c _ _ refl) all)
    (λ room open_still. named_on c (is_sent s c spec) (sent_got s c spec) (named_more c (is_sent s c spec) _ refl) all)
step_named s c (Serve node bytes) all =
    named_on c (step s c (Serve node bytes)) (λ j. link_got node j (serves s c.moment bytes) c.links (serves_got s c.moment bytes)) (named_as_before c (step s c (Serve node bytes)) refl) all
step_named s c (Work node) all =
    named_on c (step s c (Work node)) (λ j. link_got node j (worked s c.moment) c.links (λ link. refl)) (named_as_before c (step s c (Work node)) refl) all
step_named s c (Deliver node bytes) all =
    deliver_by s c node bytes AllNamed all
    (λ link found to. named_on c (with_desk c node (begun c link to)) (begun_got c node link found to) (named_as_before c (with_desk c node (begun c link to)) refl) all)
    (λ link found d packet holds. desk_named s c node link found d packet holds)
step_named s c Close all =
    named_on c (step s c Close) (λ j. refl) (named_change c (step s c Close) (ends_with closed) refl closed_leaves) all

start_named : AllNamed start
start_named zero k bytes id e = absurd (cc e)
start_named (suc zero) k bytes id e = absurd (cc e)
start_named (suc (suc j)) k bytes id e = absurd (cc e)

collected_leaves : LeavesEnds collects
collected_leaves stage id fate ends =
    record {
      life = record ends.life { collected = true };
      life_is = ap collects ends.life_is;
      id_is = ends.id_is;
      fate_is = ends.fate_is;
    }

pub runs_named : (s : Session) (events : List Event) → AllNamed (ended s events)
unfolding ended
runs_named s events =
    let c = step s (after_all s events) Close in
    named_on c (collected_all c) (λ j. refl) (named_change c (collected_all c) collects refl collected_leaves)
    (step_named s (after_all s events) Close (fold_keeps AllNamed (step s) (λ d event all. step_named s d event all) events start start_named))
