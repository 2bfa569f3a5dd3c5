-- No event moves the moment.
use Rattle.std.proofs.Common.{◌≡◌, ◌⊎◌, inl, inr, ℕ, zero, suc, true, false, List, [], ◌∷◌, ◌++◌, length, Option, Some, None, refl, sym, ap, ◌∙◌, subst}
use Rattle.std.specs.Prelude.{slice_get, filter_map}
use Rattle.adapter_queue.specs.declared.timed.Timed.{Timed}
use Rattle.rpc_packet.specs.Packets.{read_request}
use Rattle.rpc_packet.specs.declared.request.Request.{Request}
use Rattle.script_session.specs.Sessions.{NODE}
use Rattle.script_session.specs.declared.session.Event.{Event}
use Rattle.script_session.specs.declared.session.Event.TheVariants.{Call, Serve, Work, Deliver, Close}
use Rattle.script_session.specs.declared.session.Session.{Session}
use Rattle.run_course.specs.Nodes.{Offer, Node, fresh, accepted, offers, takes, works}
use Rattle.run_course.specs.Courses.{Link, Course, Desk, unused, start, read_to, news, requests_stream, sends, sent_row, next_id, serves, worked, came, step, after_all}
use Rattle.run_course.specs.Planned.{ended}
use Rattle.run_course.specs.Legal.{IsOfferAt, IsStill}
use Rattle.run_course.proofs.Lists.{some_same, none_some, fold_keeps, get_snoc}
use Rattle.run_course.proofs.Links.{Each, each_kept, each_put}
use Rattle.run_course.proofs.Got.{came_by}
use Rattle.run_course.proofs.Events.{called_by, deliver_by}
use Rattle.run_course.proofs.Nodes.{offers_by}

-- ---- at a node

record IsNodeStill (node : Node) : Type 0 where
  offered : (k : ℕ) (offer : Offer) → IsOfferAt node k offer → offer.moment ≡ 0
  taken : (k now : ℕ) → slice_get node.taken k ≡ Some now → now ≡ 0

fresh_still : IsNodeStill fresh
fresh_still = record { offered = λ k offer at. absurd (none_some offer at); taken = λ k now at. absurd (none_some now at) }

offered_still : (offers : List Offer) (last : Offer) → ((k : ℕ) (offer : Offer) → slice_get offers k ≡ Some offer → offer.moment ≡ 0) → last.moment ≡ 0
    → (k : ℕ) (offer : Offer) → slice_get (offers ++ last ∷ []) k ≡ Some offer → offer.moment ≡ 0
offered_still offers last all own k offer at = go (get_snoc offers last offer k at)
  where
    go : (slice_get offers k ≡ Some offer) ⊎ ((k ≡ length offers) × (last ≡ offer)) → offer.moment ≡ 0
    go (inl before) = all k offer before
    go (inr at_last) = sym (ap (λ (o : Offer). o.moment) at_last.1) ∙ own

offers_still : (s : Session) (moment : ℕ) → moment ≡ 0 → (node : Node) (r : Request) → IsNodeStill node → IsNodeStill (offers s moment node r)
offers_still s moment e node r still =
    offers_by s moment node r IsNodeStill
    (record { offered = offered_still node.offered (record { request = r; moment = moment; has_room = true }) still.offered e; taken = still.taken })
    (λ full. record { offered = offered_still node.offered (record { request = r; moment = moment; has_room = false }) still.offered e; taken = still.taken })

works_still : (s : Session) (now : ℕ) → now ≡ 0 → (node : Node) → IsNodeStill node → IsNodeStill (works s now node)
unfolding works
works_still s now e node still = go (slice_get (accepted node) (length node.taken))
  where
    last_still : (k time : ℕ) → (slice_get node.taken k ≡ Some time) ⊎ ((k ≡ length node.taken) × (now ≡ time)) → time ≡ 0
    last_still k time (inl before) = still.taken k time before
    last_still k time (inr at_last) = sym at_last.1 ∙ e

    go : (o : Option (Timed Request)) → IsNodeStill (takes s now node o)
    go None = still
    go (Some next) = record { offered = still.offered; taken = λ k time at. last_still k time (get_snoc node.taken now time k at) }

-- ---- on a link

abbrev IsLinkStill : ℕ → Link → Type 0
IsLinkStill j link = IsNodeStill link.node

serves_still : (s : Session) (moment : ℕ) → moment ≡ 0 → (bytes : Option ℕ) (link : Link) → IsNodeStill link.node → IsNodeStill (serves s moment bytes link).node
unfolding serves
serves_still s moment e bytes link still =
    fold_keeps IsNodeStill (offers s moment) (λ node r. offers_still s moment e node r)
    (filter_map read_request (news link.served (read_to link.served bytes (requests_stream link)) (requests_stream link))) link.node still

came_still : (s : Session) (node : ℕ) (d : Desk) (packet : List ℕ) → IsNodeStill d.link.node → IsNodeStill (came s node d packet).link.node
came_still s node d packet still = came_by s node (λ (e : Desk). IsNodeStill e.link.node) d packet still (λ r reads any. still)

-- ---- in a run

record AllStill (c : Course) : Type 0 where
  moment : c.moment ≡ 0
  nodes : Each IsLinkStill c.links

step_still : (s : Session) (c : Course) (event : Event) → AllStill c → AllStill (step s c event)
step_still s c (Call spec) all =
    called_by s c spec AllStill (λ full. record { moment = all.moment; nodes = all.nodes }) (λ room late. record { moment = all.moment; nodes = all.nodes })
    (λ room open_still. record {
      moment = all.moment;
      nodes = each_kept IsLinkStill NODE (sends (sent_row s spec (next_id c.calls))) c.links all.nodes (λ link still. still);
    })
step_still s c (Serve node bytes) all =
    record { moment = all.moment; nodes = each_kept IsLinkStill node (serves s c.moment bytes) c.links all.nodes (serves_still s c.moment all.moment bytes) }
step_still s c (Work node) all =
    record { moment = all.moment; nodes = each_kept IsLinkStill node (worked s c.moment) c.links all.nodes (λ link still. works_still s c.moment all.moment link.node still) }
step_still s c (Deliver node bytes) all =
    deliver_by s c node bytes AllStill all
    (λ link found to. record { moment = all.moment; nodes = each_kept IsLinkStill node (λ l. record link { delivered = to }) c.links all.nodes (λ l still. all.nodes node link found) })
    (λ link found d packet holds. record {
      moment = holds.moment;
      nodes = each_put IsLinkStill IsLinkStill node link d.link (came s node d packet).link c.links found holds.nodes (λ j l still. still) (came_still s node d packet);
    })
step_still s c Close all = record { moment = all.moment; nodes = all.nodes }

start_still : AllStill start
start_still = record { moment = refl; nodes = first }
  where
    first : Each IsLinkStill start.links
    first zero link e = absurd (none_some link e)
    first (suc zero) link e = subst (λ (l : Link). IsNodeStill l.node) (some_same unused link e) fresh_still
    first (suc (suc j)) link e = absurd (none_some link e)

pub runs_still : (s : Session) (events : List Event) → IsStill (ended s events)
unfolding ended
runs_still s events =
    let all : AllStill (after_all s events) = fold_keeps AllStill (step s) (λ c event still. step_still s c event still) events start start_still in
    record {
      moment = all.moment;
      offered = λ node link k offer at place. let still = all.nodes node link at in still.offered k offer place;
      taken = λ node link k now at place. let still = all.nodes node link at in still.taken k now place;
    }
