-- Nothing is left of a packet where each delivery takes all the bytes that wait.
use Rattle.std.proofs.Common.{◌≡◌, ◌≤◌, ◌+◌, ℕ, zero, suc, List, [], ◌∷◌, ◌++◌, length, take, drop, Option, Some, None, refl, sym, ap, ◌∙◌, subst, arith}
use Rattle.std.specs.Prelude.{fold, filter_map}
use Rattle.std.specs.List.{All, AllByRecursion}
use Rattle.std.proofs.lemmas.List.{append-nil, append_assoc, length-append, length-drop, take-append-le, take_all}
use Rattle.std.proofs.lemmas.List.Elements.{recursion_from_All}
use Rattle.tars_model.specs.Schemas.{IsSchema}
use Rattle.tars_frames.specs.Streams.{LONGEST, joined}
use Rattle.tars_frames.specs.Cutting.{rest_of, is_refused}
use Rattle.tars_frames.proofs.Readings.{joined-append, nothing_empty, rest_is}
use Rattle.rpc_packet.specs.Packets.{read_request}
use Rattle.rpc_packet.specs.declared.request.Request.{Request}
use Rattle.script_session.specs.Judged.{IsJudged}
use Rattle.script_session.specs.Sessions.{NODE}
use Rattle.script_session.specs.declared.link_log.GotRow.{GotRow}
use Rattle.script_session.specs.declared.link_log.LinkLog.{LinkLog}
use Rattle.script_session.specs.declared.session.Event.{Event}
use Rattle.script_session.specs.declared.session.Event.TheVariants.{Call, Serve, Work, Deliver, Close}
use Rattle.script_session.specs.declared.session.Session.{Session}
use Rattle.run_course.specs.Nodes.{Node, offers, works}
use Rattle.run_course.specs.Courses.{Noted, Link, Course, Desk, link_of, unused, start, read_to, news, requests_stream, answers_stream, sends, sent_row, next_id, serves, worked, came, delivers, delivered_at, step}
use Rattle.run_course.specs.Planned.{link_log, ended, planned}
use Rattle.run_course.proofs.Lists.{some_same, none_some, of_cond}
use Rattle.run_course.proofs.Links.{Each, each_kept}
use Rattle.run_course.proofs.Events.{called_by}
use Rattle.run_course.proofs.Nodes.{WritesOn, all_in, works_out}
use Rattle.run_course.proofs.Streams.{all_get}
use Rattle.run_course.proofs.OneLink.{log_is}
use Rattle.run_answers.specs.Answered.{TakesAll, HasNoRest}
use Rattle.run_answers.proofs.Fronts.{IsFront, AreWhole}
use Rattle.run_answers.proofs.Exchanges.{answers_whole}

-- ---- what the caller has read ends where a frame ends

pub record AtSeam (link : Link) : Type 0 where
  pub frames : List (List ℕ)
  pub front : IsFront frames link.node.answers
  pub read : take link.delivered (answers_stream link) ≡ joined frames
  pub within : link.delivered ≤ length (answers_stream link)

abbrev AllSeam : Course → Type 0
AllSeam c = Each (λ node link. AtSeam link) c.links

longer : (at : ℕ) (stream more : List ℕ) → at ≤ length stream → at ≤ length (stream ++ more)
longer at stream more within = let long = length-append stream more in omega (arith, long, within)

-- more frames leave it where it is
written_seam : (link : Link) (served : ℕ) (node : Node) → WritesOn link.node node → AtSeam link → AtSeam (record link { served = served; node = node })
written_seam link served node written seam =
    let stream : joined node.answers ≡ answers_stream link ++ joined written.more = ap joined written.after ∙ joined-append link.node.answers written.more in
    record {
      frames = seam.frames;
      front = (seam.front.0 ++ written.more, written.after ∙ (ap (λ frames. frames ++ written.more) seam.front.1 ∙ append_assoc seam.frames seam.front.0 written.more));
      read = ap (λ bytes. take link.delivered bytes) stream ∙ (take-append-le link.delivered (answers_stream link) (joined written.more) seam.within ∙ seam.read);
      within = subst (λ bytes. link.delivered ≤ length bytes) (sym stream) (longer link.delivered (answers_stream link) (joined written.more) seam.within);
    }

serves_seam : (s : Session) (moment : ℕ) (bytes : Option ℕ) (link : Link) → AtSeam link → AtSeam (serves s moment bytes link)
unfolding serves
serves_seam s moment bytes link seam =
    written_seam link (read_to link.served bytes (requests_stream link)) (fold (offers s moment) link.node requests) (all_in s moment requests link.node).written seam
  where
    requests : List Request
    requests = filter_map read_request (news link.served (read_to link.served bytes (requests_stream link)) (requests_stream link))

worked_seam : (s : Session) (moment : ℕ) (link : Link) → AtSeam link → AtSeam (worked s moment link)
worked_seam s moment link seam = written_seam link link.served (works s moment link.node) (works_out s moment link.node).written seam

-- all that waits is read, or nothing
read_seam : (link : Link) (rows : List GotRow) → AtSeam link → AtSeam (record link { delivered = read_to link.delivered None (answers_stream link); got = rows })
unfolding read_to
read_seam link rows seam =
    of_cond (is_refused LONGEST (take link.delivered (answers_stream link))) (λ to. AtSeam (record link { delivered = to; got = rows })) link.delivered (link.delivered + length (drop link.delivered (answers_stream link)))
    (λ stays. record { frames = seam.frames; front = seam.front; read = seam.read; within = seam.within })
    (λ goes. at_end (link.delivered + length (drop link.delivered (answers_stream link))) (sum_is link.delivered (answers_stream link) seam.within))
  where
    sum_is : (at : ℕ) (stream : List ℕ) → at ≤ length stream → at + length (drop at stream) ≡ length stream
    sum_is at stream within = let long = length-drop at stream in omega (arith, long, within)

    at_end : (to : ℕ) → to ≡ length (answers_stream link) → AtSeam (record link { delivered = to; got = rows })
    at_end to e =
        record {
          frames = link.node.answers;
          front = ([], sym (append-nil link.node.answers));
          read = take_all to (answers_stream link) (omega (arith, e));
          within = omega (arith, e);
        }

delivers_seam : (s : Session) (node : ℕ) (calls : List Noted) (link : Link) → AtSeam link → AtSeam (delivers s node None calls link).link
unfolding delivers
delivers_seam s node calls link seam =
    let gets = all_get s node fresh begin in
    subst (λ (l : Link). AtSeam l) (sym gets.rest_is) (read_seam link (fold (came s node) begin fresh).link.got seam)
  where
    fresh : List (List ℕ)
    fresh = news link.delivered (read_to link.delivered None (answers_stream link)) (answers_stream link)

    begin : Desk
    begin = record { calls = calls; link = record link { delivered = read_to link.delivered None (answers_stream link) } }

-- ---- events

delivered_seam : (s : Session) (c : Course) (node : ℕ) → AllSeam c → AllSeam (delivered_at s c node None (link_of node c.links))
delivered_seam s c node all = by_link (link_of node c.links) refl
  where
    by_link : (o : Option Link) → link_of node c.links ≡ o → AllSeam (delivered_at s c node None o)
    by_link None e = all
    by_link (Some link) e =
        each_kept (λ j l. AtSeam l) node (λ l. (delivers s node None c.calls link).link) c.links all (λ l seam. delivers_seam s node c.calls link (all node link e))

step_seam : (s : Session) (c : Course) (event : Event) → TakesAll event → AllSeam c → AllSeam (step s c event)
step_seam s c (Call spec) takes all =
    called_by s c spec (λ (d : Course). AllSeam d) (λ full. all) (λ room late. all)
    (λ room open_still. each_kept (λ j l. AtSeam l) NODE (sends (sent_row s spec (next_id c.calls))) c.links all
    (λ l seam. record { frames = seam.frames; front = seam.front; read = seam.read; within = seam.within }))
step_seam s c (Serve node bytes) takes all = each_kept (λ j l. AtSeam l) node (serves s c.moment bytes) c.links all (serves_seam s c.moment bytes)
step_seam s c (Work node) takes all = each_kept (λ j l. AtSeam l) node (worked s c.moment) c.links all (worked_seam s c.moment)
step_seam s c (Deliver node bytes) takes all = subst (λ (o : Option ℕ). AllSeam (delivered_at s c node o (link_of node c.links))) (sym takes) (delivered_seam s c node all)
step_seam s c Close takes all = all

events_seam : (s : Session) (events : List Event) (c : Course) → AllByRecursion TakesAll events → AllSeam c → AllSeam (fold (step s) c events)
events_seam s [] c takes all = all
events_seam s (event ∷ events) c takes all = events_seam s events (step s c event) takes.1 (step_seam s c event takes.0 all)

unused_seam : AtSeam unused
unused_seam = record { frames = []; front = ([], refl); read = refl; within = omega arith }

start_seam : AllSeam start
start_seam zero link e = absurd (none_some link e)
start_seam (suc zero) link e = subst (λ (l : Link). AtSeam l) (some_same unused link e) unused_seam
start_seam (suc (suc j)) link e = absurd (none_some link e)

runs_seam : (s : Session) (events : List Event) → AllByRecursion TakesAll events → AllSeam (ended s events)
unfolding ended
runs_seam s events takes = events_seam s events start takes start_seam

-- ---- nothing is left

no_rest : (frames : List (List ℕ)) → AreWhole frames → rest_of LONGEST (joined frames) ≡ []
no_rest frames whole = rest_is LONGEST (joined frames) [] frames (record { bytes = sym (append-nil (joined frames)); whole = whole; last = nothing_empty LONGEST })

front_whole : (frames more : List (List ℕ)) → AreWhole (frames ++ more) → AreWhole frames
front_whole [] more whole = tt
front_whole (frame ∷ frames) more whole = (whole.0, front_whole frames more whole.1)

pub nothing_left_law : (s : Session) → IsSchema s.client → IsSchema s.server → IsJudged s → All TakesAll s.events → HasNoRest (planned s)
unfolding planned
nothing_left_law s client server judged takes node log e = ap (λ (l : LinkLog). l.rest) found.2 ∙ (ap (λ bytes. rest_of LONGEST bytes) seam.read ∙ no_rest seam.frames whole)
  where
    found : (link : Link) × (link_of node (ended s s.events).links ≡ Some link) × (log ≡ link_log node link)
    found = log_is s (ended s s.events) node log e

    seam : AtSeam found.0
    seam = runs_seam s s.events (recursion_from_All TakesAll s.events takes) node found.0 found.1

    whole : AreWhole seam.frames
    whole = front_whole seam.frames seam.front.0 (subst AreWhole seam.front.1 (answers_whole s client server judged node found.0 found.1))
