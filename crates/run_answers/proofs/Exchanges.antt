-- What passes on a link: what a node is offered are the requests of the calls that were opened there, in order, and each of its
-- frames answers one of them.
use Rattle.std.proofs.Common.{◌≡◌, ◌⊎◌, inl, inr, ◌≤◌, ◌+◌, ℕ, Bool, true, false, cond, nat_lt, ltb-true, List, [], ◌∷◌, map, Some, None, refl, sym, ap, ◌∙◌, subst, arith}
use Rattle.std.specs.Prelude.{slice_get, filter_map}
use Rattle.std.specs.List.{cons_option}
use Rattle.tars_model.specs.Schemas.{IsSchema}
use Rattle.tars_frames.specs.Streams.{LONGEST, IsPacket, joined}
use Rattle.tars_versions.proofs.Induction.{AllOf}
use Rattle.adapter_queue.specs.Queues.{taken_at}
use Rattle.adapter_queue.specs.declared.timed.Timed.{Timed}
use Rattle.adapter_queue.specs.declared.taken.Taken.{Taken}
use Rattle.adapter_queue.specs.declared.taken.Taken.TheVariants.{Work, Stale}
use Rattle.rpc_packet.specs.Packets.{request_frame, read_request}
use Rattle.rpc_packet.specs.declared.request.Request.{Request}
use Rattle.servant_core.specs.Answers.{OVERLOAD, unseen}
use Rattle.script_session.specs.Judged.{IsJudged}
use Rattle.script_session.specs.declared.link_log.GotRow.{GotRow}
use Rattle.script_session.specs.declared.link_log.SentRow.{SentRow}
use Rattle.script_session.specs.declared.session.Session.{Session}
use Rattle.run_course.specs.Nodes.{Offer, timed, accepted, frames_of, answer_of}
use Rattle.run_course.specs.Courses.{Link, link_of, packets_to, frames_sent, requests_stream, answers_stream}
use Rattle.run_course.specs.Planned.{ended}
use Rattle.run_course.specs.Legal.{IsOfferAt, IsAnswer, IsRead, overloaded, taken}
use Rattle.run_course.proofs.Lists.{some_same, none_some, get_map, get_unmap}
use Rattle.run_course.proofs.Runs.{runs_read}
use Rattle.run_course.proofs.Sent.{runs_sent}
use Rattle.run_course.proofs.Moments.{runs_still}
use Rattle.run_answers.specs.Answered.{IsAnswerFrame, IsOverloadFrame}
use Rattle.run_answers.proofs.ListLaws.{of_all, all_at, all_each}
use Rattle.run_answers.proofs.JudgedCalls.{IsSentCall, sent_call}
use Rattle.run_answers.proofs.CallEnds.{request_whole, request_back, served_frame, refused_frame}
use Rattle.run_answers.proofs.Fronts.{IsFront, front_get, front_filter, AreWhole, packets_front}
use Rattle.run_answers.proofs.Sendings.{Sending, sending_of, sending_row, sending_request, same_rows, row_frames, filter_get, opened_sending, IsSendingOf}

-- ---- an offer that was taken

timed_item : (offer : Offer) (next : Timed Request) → timed offer ≡ Some next → next.item ≡ offer.request
timed_item offer next e = by_room offer.has_room e
  where
    by_room : (b : Bool) → cond b (Some (record { item = offer.request; entered = offer.moment })) None ≡ Some next → next.item ≡ offer.request
    by_room true e = sym (ap (λ (t : Timed Request). t.item) (some_same (record { item = offer.request; entered = offer.moment }) next e))
    by_room false e = absurd (none_some next e)

-- at the first moment nothing is stale
fresh_at : (timeout : ℕ) (next : Timed Request) → taken_at timeout 0 next ≡ Work next.item
fresh_at timeout next = by_test (nat_lt (next.entered + timeout) 0) refl
  where
    by_test : (b : Bool) → nat_lt (next.entered + timeout) 0 ≡ b → cond b (Stale next.item) (Work next.item) ≡ Work next.item
    by_test true e = let less = ltb-true (next.entered + timeout) 0 e in absurd (omega (arith, less))
    by_test false e = refl

module _ (s : Session) (client : IsSchema s.client) (server : IsSchema s.server) (judged : IsJudged s) where
  -- ---- the calls of a node

  abbrev pub sendings : ℕ → List Sending
  sendings node = filter_map (sending_of node) (ended s s.events).calls

  abbrev pub requests : ℕ → List Request
  requests node = map (sending_request s) (sendings node)

  sending_call : (node j : ℕ) (x : Sending) → slice_get (sendings node) j ≡ Some x → IsSendingOf s x
  sending_call node j x e =
      let found = filter_get (sending_of node) (ended s s.events).calls j x e in
      let life = opened_sending node found.1.spec found.1.stage x found.3 in
      record { place = found.0; call = found.1; life = life.0; call_is = found.2; opened_so = life.1; is = life.2 }

  pub sent_so : (x : Sending) → IsSendingOf s x → IsSentCall s x.spec x.id
  sent_so x of = subst (λ (y : Sending). IsSentCall s y.spec y.id) (sym of.is) (sent_call s judged of.place of.call of.life of.call_is of.opened_so)

  -- a request whose frame is a packet, and reads back
  record Passes (r : Request) : Type 0 where
    request : IsPacket LONGEST (request_frame r)
    back : read_request (request_frame r) ≡ Some r

  passes : (x : Sending) → IsSendingOf s x → Passes (sending_request s x)
  passes x of =
      let sent = sent_so x of in
      record {
        request = request_whole s client server judged x.spec sent.call x.id sent.small;
        back = request_back s client server judged x.spec sent.call x.id sent.small;
      }

  all_pass : (xs : List Sending) → AllOf (IsSendingOf s) xs → AllOf Passes (map (sending_request s) xs)
  all_pass [] all = tt
  all_pass (x ∷ xs) all = (passes x all.0, all_pass xs all.1)

  each_passes : (node : ℕ) → AllOf Passes (requests node)
  each_passes node = all_pass (sendings node) (all_each (IsSendingOf s) (sendings node) (sending_call node))

  all_back : (rs : List Request) → AllOf Passes rs → filter_map read_request (map request_frame rs) ≡ rs
  all_back [] all = refl
  all_back (r ∷ rs) all = ap (λ o. cons_option o (filter_map read_request (map request_frame rs))) all.0.back ∙ ap (λ qs. r ∷ qs) (all_back rs all.1)

  all_whole : (rs : List Request) → AllOf Passes rs → AreWhole (map request_frame rs)
  all_whole [] all = tt
  all_whole (r ∷ rs) all = (all.0.request, all_whole rs all.1)

  -- ---- a link

  module _ (node : ℕ) (link : Link) (found : link_of node (ended s s.events).links ≡ Some link) where
    read : IsRead s link
    read = runs_read s s.events node link found

    sent_is : link.sent ≡ map (sending_row s) (sendings node)
    sent_is = runs_sent s s.events node link found ∙ same_rows s node (ended s s.events).calls

    frames_are : frames_sent link ≡ map request_frame (requests node)
    frames_are = ap (λ rows. map (λ (row : SentRow). row.frame) rows) sent_is ∙ row_frames s (sendings node)

    offered_front : IsFront (map (λ (offer : Offer). offer.request) link.node.offered) (requests node)
    offered_front =
        subst (λ rs. IsFront rs (requests node)) (sym read.requests)
        (subst (λ rs. IsFront (filter_map read_request (packets_to link.served (requests_stream link))) rs) (all_back (requests node) (each_passes node))
        (front_filter read_request (packets_to link.served (requests_stream link)) (map request_frame (requests node))
        (subst (λ frames. IsFront (packets_to link.served (joined frames)) (map request_frame (requests node))) (sym frames_are)
        (packets_front link.served (map request_frame (requests node)) (all_whole (requests node) (each_passes node))))))

    -- an offer is of a call that is sent, which stands at the same place
    offer_call : (k : ℕ) (offer : Offer) → IsOfferAt link.node k offer → (x : Sending) × (slice_get (sendings node) k ≡ Some x) × (offer.request ≡ sending_request s x)
    offer_call k offer at =
        get_unmap (sending_request s) (sendings node) k offer.request
        (front_get (map (λ (o : Offer). o.request) link.node.offered) (requests node) k offer.request offered_front (get_map (λ (o : Offer). o.request) link.node.offered k offer at))

    -- a frame was sent at this place, after as many as the queue holds
    pub record IsBehind (x : Sending) : Type 0 where
      pub place : ℕ
      pub sent : slice_get link.sent place ≡ Some (sending_row s x)
      pub behind : s.queue ≤ place

    -- a frame answers this call
    abbrev pub Replies : Sending → List ℕ → Type 0
    Replies x frame = IsAnswerFrame s x.spec x.id frame ⊎ (IsOverloadFrame s x.spec x.id frame × IsBehind x)

    pub record IsReply (frame : List ℕ) : Type 0 where
      pub sending : Sending
      pub of : IsSendingOf s sending
      pub replies : Replies sending frame

    refused_reply : (k : ℕ) (offer : Offer) → IsOfferAt link.node k offer → offer.has_room ≡ false → (frame : List ℕ) → frames_of (unseen offer.request OVERLOAD) ≡ frame ∷ [] → IsReply frame
    refused_reply k offer at no_room frame is =
        let x = offer_call k offer at in
        record {
          sending = x.0;
          of = sending_call node k x.0 x.1;
          replies = inr (
            subst (λ (r : Request). frames_of (unseen r OVERLOAD) ≡ frame ∷ []) x.2 is,
            record { place = k; sent = ap (λ rows. slice_get rows k) sent_is ∙ get_map (sending_row s) (sendings node) k x.0 x.1; behind = read.room k offer at no_room },
          );
        }

    taken_reply : (k : ℕ) (next : Timed Request) (now : ℕ) → slice_get (accepted link.node) k ≡ Some next → now ≡ 0 → (frame : List ℕ)
        → frames_of (answer_of s now (taken_at s.queue_timeout now next)) ≡ frame ∷ [] → IsReply frame
    taken_reply k next now at still frame is =
        let offer = filter_get timed link.node.offered k next at in
        let x = offer_call offer.0 offer.1 offer.2 in
        record {
          sending = x.0;
          of = sending_call node offer.0 x.0 x.1;
          replies = inl (
              subst (λ (r : Request). frames_of (answer_of s 0 (Work r)) ≡ frame ∷ []) (timed_item offer.1 next offer.3 ∙ x.2)
              (subst (λ (t : Taken Request). frames_of (answer_of s 0 t) ≡ frame ∷ []) (fresh_at s.queue_timeout next)
              (subst (λ moment. frames_of (answer_of s moment (taken_at s.queue_timeout moment next)) ≡ frame ∷ []) still is)));
        }

    pub frame_reply : (frame : List ℕ) → IsAnswer s link.node frame → IsReply frame
    frame_reply frame (overloaded k offer at no_room is) = refused_reply k offer at no_room frame is
    frame_reply frame (taken k next now at is) = taken_reply k next now at.next_is ((runs_still s s.events).taken node link k now found at.now_is) frame is

    reply_whole : (frame : List ℕ) → IsReply frame → IsPacket LONGEST frame
    reply_whole frame reply = by_kind reply.replies
      where
        sent : IsSentCall s reply.sending.spec reply.sending.id
        sent = sent_so reply.sending reply.of

        by_kind : Replies reply.sending frame → IsPacket LONGEST frame
        by_kind (inl own) = (served_frame s client server judged reply.sending.spec sent.call reply.sending.id sent.small frame own).framed.whole
        by_kind (inr full) = (refused_frame s client server judged reply.sending.spec sent.call reply.sending.id sent.small frame full.0).whole

    pub answers_whole : AreWhole link.node.answers
    answers_whole = go link.node.answers (of_all (IsAnswer s link.node) link.node.answers read.answers)
      where
        go : (frames : List (List ℕ)) → AllOf (IsAnswer s link.node) frames → AreWhole frames
        go [] all = tt
        go (frame ∷ frames) all = (reply_whole frame (frame_reply frame all.0), go frames all.1)

    -- what was got
    pub got_reply : (j : ℕ) (row : GotRow) → slice_get link.got j ≡ Some row → IsReply row.packet
    got_reply j row e =
        frame_reply row.packet
        (all_at (IsAnswer s link.node) link.node.answers j row.packet (of_all (IsAnswer s link.node) link.node.answers read.answers)
        (front_get (packets_to link.delivered (answers_stream link)) link.node.answers j row.packet (packets_front link.delivered link.node.answers answers_whole)
        (sym (ap (λ packets. slice_get packets j) read.packets) ∙ get_map (λ (g : GotRow). g.packet) link.got j row e)))
