-- What a step of a node makes of it.
use Rattle.std.proofs.Common.{◌≡◌, ◌≤◌, ◌<◌, ◌+◌, ℕ, suc, Bool, true, false, cond, List, [], ◌∷◌, ◌++◌, length, drop, Option, Some, None, refl, sym, ap, ◌∙◌, subst, append-nil, lt-ltb, length-append, add-one, drop-cons}
use Rattle.std.specs.Prelude.{IfSome, fold, filter_map, option_map, slice_get, slice_index_or, nat_lt}
use Rattle.std.specs.List.{AllByRecursion, cons_option}
use Rattle.std.specs.Option.{option_to_list}
use Rattle.std.proofs.lemmas.Bool.{le-ltb}
use Rattle.std.proofs.lemmas.List.{length-drop, drop_all}
use Rattle.std.proofs.lemmas.List.Elements.{filter_map-append}
use Rattle.tars_frames.specs.Streams.{joined}
use Rattle.tars_frames.proofs.CallerLemmas.{joined-append}
use Rattle.adapter_queue.specs.Histories.{IsAfter, TookNext}
use Rattle.adapter_queue.specs.Queues.{Took, holding, taken_at}
use Rattle.adapter_queue.specs.declared.taken.Taken.{Taken}
use Rattle.adapter_queue.specs.declared.taken.Taken.TheVariants.{Work, Stale}
use Rattle.adapter_queue.specs.declared.timed.Timed.{Timed}
use Rattle.rpc_packet.specs.Outcomes.{IsSendable}
use Rattle.rpc_packet.specs.Packets.{read_request, response_frame}
use Rattle.rpc_packet.specs.declared.request.Request.{Request}
use Rattle.rpc_packet.specs.declared.response.Response.{Response}
use Rattle.servant_core.specs.Answers.{OVERLOAD, QUEUE_TIMEOUT, unseen}
use Rattle.script_session.specs.Sessions.{replies}
use Rattle.script_session.specs.declared.session.Session.{Session}
use Rattle.run_course.proofs.Lists.{all_more}
use Rattle.run_course.specs.Nodes.{Node, Offer, accepted, answer_of, fresh, frames_of, notes, offers, takes, timed, waiting, works, writes}
use Rattle.run_engine.specs.declared.channel.Channel.{Channel}
use Rattle.run_engine.specs.declared.node.NodeEnd.{NodeEnd}
use Rattle.run_engine.specs.Served.{after_offer}
use Rattle.run_engine.proofs.Servants.{answered_writable, unseen_writable}
use Rattle.run_engine.specs.Tracks.{IsServantOf, IsWaiting, IsWritable, MayBeAnswered, Reads, TracksNode, TracksSide, TracksStep}

pub frames_are : (response : Option Response) (frame : Option (List ℕ)) → frame ≡ option_map response_frame response → frames_of response ≡ option_to_list frame
frames_are None frame is = ap (λ (f : Option (List ℕ)). option_to_list f) (sym is)
frames_are (Some r) frame is = ap (λ (f : Option (List ℕ)). option_to_list f) (sym is)

waits : (s : Session) (end : NodeEnd) (node : Node) → TracksNode s end node → length end.queue.items ≡ waiting node
waits s end node t = ap length t.queue.items ∙ length-drop (length node.taken) (accepted node)

-- a step that writes nothing
quiet : (s : Session) (end : NodeEnd) (before after : Node) → TracksNode s end after → after.answers ≡ before.answers → TracksStep s end before after None
quiet s end before after t same = record { node = t; wrote = same ∙ sym (append-nil before.answers) }

-- a step that writes a response, if there is one
wrote : (s : Session) (end : NodeEnd) (before after : Node) (response : Option Response) (frame : Option (List ℕ)) → frame ≡ option_map response_frame response
    → TracksNode s end after → after.answers ≡ before.answers → TracksStep s end before (writes response after) frame
wrote s end before after response frame is t same = record {
  node = record { queue = t.queue; capacity = t.capacity; timeout = t.timeout; sendable = t.sendable; servant = t.servant };
  wrote = ap (λ frames. frames ++ frames_of response) same ∙ ap (λ more. before.answers ++ more) (frames_are response frame is);
}

-- ---- offers

abbrev noted : Request → ℕ → Bool → Offer
noted r now has_room = record { request = r; moment = now; has_room = has_room }

one_accepted : (node : Node) (r : Request) (now : ℕ) → accepted (notes r now true node) ≡ accepted node ++ record { item = r; entered = now } ∷ []
one_accepted node r now = filter_map-append timed node.offered (noted r now true ∷ [])

none_accepted : (node : Node) (r : Request) (now : ℕ) → accepted (notes r now false node) ≡ accepted node
none_accepted node r now = filter_map-append timed node.offered (noted r now false ∷ []) ∙ append-nil (accepted node)

with_room : (s : Session) (now : ℕ) (node : Node) (r : Request) → waiting node < s.queue → offers s now node r ≡ notes r now true node
unfolding offers
with_room s now node r room = rw (lt-ltb (waiting node) s.queue room) refl

without_room : (s : Session) (now : ℕ) (node : Node) (r : Request) → s.queue ≤ waiting node → offers s now node r ≡ writes (unseen r OVERLOAD) (notes r now false node)
unfolding offers
without_room s now node r full = rw (le-ltb (waiting node) s.queue full) refl

-- a request finds room
pub accepted_step : (s : Session) (old new : NodeEnd) (node : Node) (r : Request) (now : ℕ) → TracksNode s old node → IsSendable r
    → length old.queue.items < old.queue.capacity → new.queue ≡ holding old.queue (old.queue.items ++ record { item = r; entered = now } ∷ [])
    → IsAfter (accepted node ++ record { item = r; entered = now } ∷ []) (length node.taken) new.queue
    → new.servant ≡ old.servant → TracksStep s new node (offers s now node r) None
accepted_step s old new node r now t sendable short queue after servant =
    subst (λ (n : Node). TracksStep s new node n None)
    (sym (with_room s now node r (subst (λ n. n < s.queue) (waits s old node t) (subst (λ n. length old.queue.items < n) t.capacity short))))
    (quiet s new node (notes r now true node)
    (record {
      queue = subst (λ all. IsAfter all (length node.taken) new.queue) (sym (one_accepted node r now)) after;
      capacity = ap (λ q. q.capacity) queue ∙ t.capacity;
      timeout = ap (λ q. q.timeout) queue ∙ t.timeout;
      sendable =
          subst (λ items. AllByRecursion IsWaiting items) (sym (ap (λ q. q.items) queue))
          (all_more IsWaiting old.queue.items (record { item = r; entered = now }) t.sendable sendable);
      servant = subst (IsServantOf s) (sym servant) t.servant;
    }) refl)

-- a request finds none
pub refused_step : (s : Session) (old new : NodeEnd) (node : Node) (r : Request) (now : ℕ) (frame : Option (List ℕ)) → TracksNode s old node
    → old.queue.capacity ≤ length old.queue.items → new.queue ≡ old.queue → new.servant ≡ old.servant
    → frame ≡ option_map response_frame (unseen r OVERLOAD) → TracksStep s new node (offers s now node r) frame
refused_step s old new node r now frame t full queue servant is =
    subst (λ (n : Node). TracksStep s new node n frame)
    (sym (without_room s now node r (subst (λ n. s.queue ≤ n) (waits s old node t) (subst (λ n. n ≤ length old.queue.items) t.capacity full))))
    (wrote s new node (notes r now false node) (unseen r OVERLOAD) frame is
    (record {
      queue = subst (λ all. IsAfter all (length node.taken) new.queue) (sym (none_accepted node r now)) (subst (λ q. IsAfter (accepted node) (length node.taken) q) (sym queue) t.queue);
      capacity = ap (λ q. q.capacity) queue ∙ t.capacity;
      timeout = ap (λ q. q.timeout) queue ∙ t.timeout;
      sendable = subst (λ q. AllByRecursion IsWaiting q.items) (sym queue) t.sendable;
      servant = subst (IsServantOf s) (sym servant) t.servant;
    }) refl)

-- ---- what is taken

get_end : {X : Type 0} (xs : List X) → slice_get xs (length xs) ≡ None
get_end [] = refl
get_end (x ∷ xs) = get_end xs

idle : (s : Session) (now : ℕ) (node : Node) → length node.taken ≡ length (accepted node) → works s now node ≡ node
unfolding works
idle s now node all = rw (ap (λ k. slice_get (accepted node) k) all ∙ get_end (accepted node)) refl

busy : (s : Session) (now : ℕ) (node : Node) (next : Timed Request) → slice_get (accepted node) (length node.taken) ≡ Some next → works s now node ≡ takes s now node (Some next)
unfolding works
busy s now node next found = ap (λ o. takes s now node o) found

-- nothing waits
pub idle_step : (s : Session) (old new : NodeEnd) (node : Node) (now timeout : ℕ) → TracksNode s old node → TookNext (accepted node) (length node.taken) now timeout new.queue None
    → new.queue ≡ old.queue → new.servant ≡ old.servant → TracksStep s new node (works s now node) None
idle_step s old new node now timeout t took queue servant =
    subst (λ (n : Node). TracksStep s new node n None) (sym (idle s now node took.0))
    (quiet s new node node
    (record {
      queue = took.1;
      capacity = ap (λ q. q.capacity) queue ∙ t.capacity;
      timeout = ap (λ q. q.timeout) queue ∙ t.timeout;
      sendable = subst (λ q. AllByRecursion IsWaiting q.items) (sym queue) t.sendable;
      servant = subst (IsServantOf s) (sym servant) t.servant;
    }) refl)

-- a request is taken, and answered
pub worked_step : (s : Session) (old new : NodeEnd) (node : Node) (now : ℕ) (out : Taken Request) (frame : Option (List ℕ)) → TracksNode s old node
    → Took old.queue now new.queue (Some out) → TookNext (accepted node) (length node.taken) now old.queue.timeout new.queue (Some out)
    → IsServantOf s new.servant → frame ≡ option_map response_frame (answer_of s now out) → TracksStep s new node (works s now node) frame
worked_step s old new node now out frame t (first, rest, waits, queue, out_is) (next, found, next_is, after) servant is =
    subst (λ (n : Node). TracksStep s new node n frame) (sym (busy s now node next found))
    (wrote s new node (record node { taken = node.taken ++ now ∷ [] }) (answer_of s now (taken_at s.queue_timeout now next)) frame
    (is ∙ ap (λ o. option_map response_frame (answer_of s now o)) (next_is ∙ ap (λ timeout. taken_at timeout now next) t.timeout))
    (record {
      queue = subst (λ n. IsAfter (accepted node) n new.queue) (sym (length-append node.taken (now ∷ []))) after;
      capacity = ap (λ q. q.capacity) queue ∙ t.capacity;
      timeout = ap (λ q. q.timeout) queue ∙ t.timeout;
      sendable =
          subst (λ items. AllByRecursion IsWaiting items) (sym (ap (λ q. q.items) queue))
          (subst (λ items. AllByRecursion IsWaiting items) waits t.sendable).1;
      servant = servant;
    }) refl)

-- the request that is taken can be answered
pub taken_sendable : (s : Session) (old new : NodeEnd) (node : Node) (now : ℕ) (out : Taken Request) → TracksNode s old node → Took old.queue now new.queue (Some out) → MayBeAnswered out
taken_sendable s old new node now out t (first, rest, waits, queue, out_is) =
    subst MayBeAnswered (sym out_is)
    (by_test (nat_lt (first.entered + old.queue.timeout) now) (subst (λ items. AllByRecursion IsWaiting items) waits t.sendable).0)
  where
    by_test : (b : Bool) → IsSendable first.item → MayBeAnswered (cond b (Stale first.item) (Work first.item))
    by_test true sendable = tt
    by_test false sendable = sendable

pub answer_writable : (s : Session) (now : ℕ) (out : Taken Request) → IfSome (answer_of s now out) IsWritable
answer_writable s now (Work r) = answered_writable s.server s.server_interface s.object.id (replies s) r now
answer_writable s now (Stale r) = unseen_writable r QUEUE_TIMEOUT

-- ---- nothing was offered

pub fresh_node : (s : Session) (end : NodeEnd) → end.queue ≡ record { capacity = s.queue; timeout = s.queue_timeout; items = [] } → IsAfter [] 0 end.queue → IsServantOf s end.servant
    → TracksNode s end fresh
fresh_node s end queue after servant = record {
  queue = after;
  capacity = ap (λ q. q.capacity) queue;
  timeout = ap (λ q. q.timeout) queue;
  sendable = subst (λ q. AllByRecursion IsWaiting q.items) (sym queue) tt;
  servant = servant;
}

-- ---- packets that a node reads

-- a step, and what it writes is written
pub step_side : (s : Session) (end : NodeEnd) (new : Channel) (before after : Node) (at : ℕ) (frame : Option (List ℕ)) → TracksStep s end before after frame
    → Reads new (joined before.answers ++ joined (option_to_list frame)) at → TracksSide s end new after at
step_side s end new before after at frame step reads = record {
  node = step.node;
  answers = subst (λ stream. Reads new stream at) (sym (ap joined step.wrote ∙ joined-append before.answers (option_to_list frame))) reads;
}

-- a step that no packet asks for
pub no_step : (s : Session) (now : ℕ) (end : NodeEnd) (channel : Channel) (n : Node) (at : ℕ) (read : Option Request) → read ≡ None → TracksSide s end channel n at
    → TracksSide s end channel (after_offer s now n read) at
no_step s now end channel n at read none side = subst (λ o. TracksSide s end channel (after_offer s now n o) at) (sym none) side

pub one_step : (s : Session) (now : ℕ) (end : NodeEnd) (channel : Channel) (n : Node) (at : ℕ) (read : Option Request) (r : Request) → read ≡ Some r
    → TracksSide s end channel (offers s now n r) at → TracksSide s end channel (after_offer s now n read) at
one_step s now end channel n at read r some side = subst (λ o. TracksSide s end channel (after_offer s now n o) at) (sym some) side

-- a packet and then others
pub offers_on : (s : Session) (now : ℕ) (read : List ℕ → Option Request) (n : Node) (packet : List ℕ) (packets : List (List ℕ))
    → fold (offers s now) (after_offer s now n (read packet)) (filter_map read packets) ≡ fold (offers s now) n (filter_map read (packet ∷ packets))
offers_on s now read n packet packets = go (read packet)
  where
    go : (o : Option Request) → fold (offers s now) (after_offer s now n o) (filter_map read packets) ≡ fold (offers s now) n (cons_option o (filter_map read packets))
    go None = refl
    go (Some r) = refl

-- what is left leads where all leads
pub record Leads (s : Session) (now : ℕ) (end : NodeEnd) (channel : Channel) (at : ℕ) (left : List (List ℕ)) (last : Node) : Type 0 where
  pub here : Node
  pub side : TracksSide s end channel here at
  pub ends : fold (offers s now) here (filter_map read_request left) ≡ last

pub leads_on : (s : Session) (now : ℕ) (old new : NodeEnd) (channel out : Channel) (at : ℕ) (packets : List (List ℕ)) (k : ℕ) (packet : List ℕ) (last : Node)
    → k < length packets → packet ≡ slice_index_or packets k packet → (l : Leads s now old channel at (drop k packets) last)
    → TracksSide s new out (after_offer s now l.here (read_request packet)) at → Leads s now new out at (drop (k + 1) packets) last
leads_on s now old new channel out at packets k packet last within here l side = record {
  here = after_offer s now l.here (read_request packet);
  side = side;
  ends =
      ap (λ n. fold (offers s now) (after_offer s now l.here (read_request packet)) (filter_map read_request (drop n packets))) (add-one k)
      ∙ offers_on s now read_request l.here packet (drop (suc k) packets)
      ∙ sym (ap (λ left. fold (offers s now) l.here (filter_map read_request left)) (drop-cons packets k packet within ∙ ap (λ p. p ∷ drop (suc k) packets) (sym here)))
      ∙ l.ends;
}

pub all_led : (s : Session) (now : ℕ) (end : NodeEnd) (channel : Channel) (at : ℕ) (packets : List (List ℕ)) (k : ℕ) (last : Node)
    → length packets ≤ k → Leads s now end channel at (drop k packets) last → TracksSide s end channel last at
all_led s now end channel at packets k last past l =
    subst (λ (n : Node). TracksSide s end channel n at) (sym (ap (λ left. fold (offers s now) l.here (filter_map read_request left)) (drop_all k packets past)) ∙ l.ends) l.side
