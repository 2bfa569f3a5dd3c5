-- What holds of a node, whatever it is offered and whenever it takes.
use Rattle.std.proofs.Common.{◌≡◌, ◌≤◌, ◌⊎◌, inl, inr, ℕ, suc, Bool, true, false, List, [], ◌∷◌, ◌++◌, length, map, Option, Some, None, refl, sym, ap, ◌∙◌, subst, arith}
use Rattle.std.specs.Prelude.{slice_get, fold, filter_map, flat_map, zip, nat_lt}
use Rattle.std.specs.List.{All, cons_option}
use Rattle.std.proofs.lemmas.Bool.{ltb-false}
use Rattle.std.proofs.lemmas.List.{map-append, append-nil, append_assoc, length-append}
use Rattle.std.proofs.lemmas.List.Elements.{filter_map-append, All-push, All-weaker, All-nil}
use Rattle.std.proofs.lemmas.Option.{slice_get_within}
use Rattle.adapter_queue.specs.Queues.{taken_at}
use Rattle.adapter_queue.specs.declared.timed.Timed.{Timed}
use Rattle.rpc_packet.specs.Packets.{response_frame}
use Rattle.rpc_packet.specs.declared.request.Request.{Request}
use Rattle.rpc_packet.specs.declared.response.Response.{Response}
use Rattle.servant_core.specs.Answers.{OVERLOAD, unseen}
use Rattle.script_session.specs.declared.session.Session.{Session}
use Rattle.run_course.specs.Nodes.{Offer, Node, fresh, timed, accepted, waiting, frames_of, writes, notes, offers, answer_of, takes, works}
use Rattle.run_course.specs.Merges.{IsMerge, none}
use Rattle.run_course.specs.Legal.{IsOfferAt, IsAnswer, overloaded, taken, overload_of, overload_frames, taken_of, taken_frames}
use Rattle.run_course.proofs.Lists.{get_append, get_last, get_snoc, of_cond, join_more, flat_map_last, zip_longer, zip_last}
use Rattle.run_course.proofs.Merges.{left_goes_on, right_goes_on}

-- ---- what happened at a node stays

-- what was offered, accepted and taken stands where it stood
record NodeGrows (old new : Node) : Type 0 where
  offers_stay : (k : ℕ) (offer : Offer) → slice_get old.offered k ≡ Some offer → slice_get new.offered k ≡ Some offer
  accepted_stay : (k : ℕ) (next : Timed Request) → slice_get (accepted old) k ≡ Some next → slice_get (accepted new) k ≡ Some next
  taken_stay : (k now : ℕ) → slice_get old.taken k ≡ Some now → slice_get new.taken k ≡ Some now

grows_by : (old new : Node) (more : List Offer) (times : List ℕ) → new.offered ≡ old.offered ++ more → new.taken ≡ old.taken ++ times → NodeGrows old new
grows_by old new more times offered_is taken_is =
    record {
      offers_stay = λ k offer at. ap (λ xs. slice_get xs k) offered_is ∙ get_append old.offered more k offer at;
      accepted_stay = λ k next at.
          ap (λ xs. slice_get (filter_map timed xs) k) offered_is
          ∙ (ap (λ xs. slice_get xs k) (filter_map-append timed old.offered more) ∙ get_append (accepted old) (filter_map timed more) k next at);
      taken_stay = λ k now at. ap (λ xs. slice_get xs k) taken_is ∙ get_append old.taken times k now at;
    }

answer_stays : (s : Session) (old new : Node) → NodeGrows old new → (frame : List ℕ) → IsAnswer s old frame → IsAnswer s new frame
answer_stays s old new grows frame (overloaded k offer at no_room frame_is) = overloaded k offer (grows.offers_stay k offer at) no_room frame_is
answer_stays s old new grows frame (taken k next now at frame_is) =
    taken k next now (record { next_is = grows.accepted_stay k next at.next_is; now_is = grows.taken_stay k now at.now_is }) frame_is

-- the frame of a response follows those before
answers_more : (s : Session) (old new : Node) (response : Option Response) → NodeGrows old new → All (IsAnswer s old) old.answers
    → ((frame : List ℕ) → frames_of response ≡ frame ∷ [] → IsAnswer s new frame) → All (IsAnswer s new) (old.answers ++ frames_of response)
answers_more s old new None grows all own =
    subst (All (IsAnswer s new)) (sym (append-nil old.answers)) (All-weaker (IsAnswer s old) (IsAnswer s new) (answer_stays s old new grows) old.answers all)
answers_more s old new (Some response) grows all own =
    All-push (IsAnswer s new) old.answers (response_frame response) (All-weaker (IsAnswer s old) (IsAnswer s new) (answer_stays s old new grows) old.answers all)
    (own (response_frame response) refl)

-- ---- what holds of each node

pub record IsKept (s : Session) (node : Node) : Type 0 where
  pub taken_within : length node.taken ≤ length (accepted node)
  pub room : (k : ℕ) (offer : Offer) → IsOfferAt node k offer → offer.has_room ≡ false → s.queue ≤ k
  pub answers : All (IsAnswer s node) node.answers
  pub order : IsMerge (overload_frames s node) (taken_frames s node) node.answers

pub fresh_kept : (s : Session) → IsKept s fresh
fresh_kept s = record { taken_within = omega arith; room = λ k offer at. absurd (cc at); answers = All-nil (IsAnswer s fresh); order = none }

-- no more were accepted than were offered, so no more wait
accepted_within : (xs : List Offer) → length (filter_map timed xs) ≤ length xs
accepted_within [] = omega arith
accepted_within (offer ∷ xs) = go (timed offer) (accepted_within xs)
  where
    go : (o : Option (Timed Request)) → length (filter_map timed xs) ≤ length xs → length (cons_option o (filter_map timed xs)) ≤ suc (length xs)
    go None within = omega (arith, within)
    go (Some next) within = omega (arith, within)

waiting_within : (node : Node) → waiting node ≤ length node.offered
waiting_within node = let within = accepted_within node.offered in omega (arith, within)

-- ---- an offer

abbrev offer_of : Request → ℕ → Bool → Offer
offer_of r moment has_room = record { request = r; moment = moment; has_room = has_room }

-- whatever is written then
abbrev noted : Request → ℕ → Bool → Node → List (List ℕ) → Node
noted r moment has_room node frames = record (notes r moment has_room node) { answers = frames }

noted_grows : (r : Request) (moment : ℕ) (has_room : Bool) (node : Node) (frames : List (List ℕ)) → NodeGrows node (noted r moment has_room node frames)
noted_grows r moment has_room node frames =
    grows_by node (noted r moment has_room node frames) (offer_of r moment has_room ∷ []) [] refl (sym (append-nil node.taken))

noted_within : (s : Session) (r : Request) (moment : ℕ) (has_room : Bool) (node : Node) → IsKept s node → length node.taken ≤ length (accepted (notes r moment has_room node))
noted_within s r moment has_room node kept =
    let more = ap length (filter_map-append timed node.offered (offer_of r moment has_room ∷ [])) in
    let long = length-append (accepted node) (filter_map timed (offer_of r moment has_room ∷ [])) in
    let within = kept.taken_within in
    omega (arith, more, long, within)

noted_room : (s : Session) (r : Request) (moment : ℕ) (has_room : Bool) (node : Node) → IsKept s node → (has_room ≡ false → s.queue ≤ length node.offered)
    → (k : ℕ) (offer : Offer) → IsOfferAt (notes r moment has_room node) k offer → offer.has_room ≡ false → s.queue ≤ k
noted_room s r moment has_room node kept full k offer at no_room = go (get_snoc node.offered (offer_of r moment has_room) offer k at)
  where
    go : (slice_get node.offered k ≡ Some offer) ⊎ ((k ≡ length node.offered) × (offer_of r moment has_room ≡ offer)) → s.queue ≤ k
    go (inl before) = kept.room k offer before no_room
    go (inr last) = subst (λ n. s.queue ≤ n) (sym last.0) (full (ap (λ (o : Offer). o.has_room) last.1 ∙ no_room))

-- the frame of an offer, if it gets one, follows those before
noted_order : (s : Session) (r : Request) (moment : ℕ) (has_room : Bool) (node : Node) → IsKept s node
    → IsMerge (overload_frames s (notes r moment has_room node)) (taken_frames s (notes r moment has_room node)) (node.answers ++ overload_of (offer_of r moment has_room))
noted_order s r moment has_room node kept =
    subst (λ left. IsMerge left (taken_frames s (notes r moment has_room node)) (node.answers ++ overload_of offer)) (sym (flat_map_last overload_of node.offered offer))
    (subst (λ right. IsMerge (overload_frames s node ++ overload_of offer) right (node.answers ++ overload_of offer)) (sym same_taken)
    (left_goes_on (overload_of offer) kept.order))
  where
    offer : Offer
    offer = offer_of r moment has_room

    same_taken : taken_frames s (notes r moment has_room node) ≡ taken_frames s node
    same_taken =
        ap (λ xs. flat_map (taken_of s) (zip xs node.taken)) (filter_map-append timed node.offered (offer ∷ []))
        ∙ ap (λ pairs. flat_map (taken_of s) pairs) (zip_longer (accepted node) (filter_map timed (offer ∷ [])) node.taken kept.taken_within)

-- what holds where an offer finds room and where it does not holds of each offer
pub offers_by : (s : Session) (moment : ℕ) (node : Node) (r : Request) (Q : Node → Type 0) → Q (notes r moment true node)
    → (s.queue ≤ length node.offered → Q (writes (unseen r OVERLOAD) (notes r moment false node))) → Q (offers s moment node r)
unfolding offers
offers_by s moment node r Q has_room full =
    of_cond (nat_lt (waiting node) s.queue) Q (notes r moment true node) (writes (unseen r OVERLOAD) (notes r moment false node)) (λ room. has_room)
    (λ no_room. full (at_least (ltb-false (waiting node) s.queue no_room)))
  where
    at_least : s.queue ≤ waiting node → s.queue ≤ length node.offered
    at_least many = let within = waiting_within node in omega (arith, many, within)

offers_kept : (s : Session) (moment : ℕ) (node : Node) (r : Request) → IsKept s node → IsKept s (offers s moment node r)
offers_kept s moment node r kept =
    offers_by s moment node r (IsKept s)
    (record {
      taken_within = noted_within s r moment true node kept;
      room = noted_room s r moment true node kept (λ e. absurd (cc e));
      answers = All-weaker (IsAnswer s node) (IsAnswer s (notes r moment true node)) (answer_stays s node (notes r moment true node) (noted_grows r moment true node node.answers)) node.answers kept.answers;
      order = subst (IsMerge (overload_frames s (notes r moment true node)) (taken_frames s (notes r moment true node))) (append-nil node.answers) (noted_order s r moment true node kept);
    })
    (λ full. record {
      taken_within = noted_within s r moment false node kept;
      room = noted_room s r moment false node kept (λ e. full);
      answers = answers_more s node refused (unseen r OVERLOAD) (noted_grows r moment false node refused.answers) kept.answers
          (λ frame frame_is. overloaded (length node.offered) (offer_of r moment false) (get_last node.offered (offer_of r moment false)) refl frame_is);
      order = noted_order s r moment false node kept;
    })
  where
    refused : Node
    refused = writes (unseen r OVERLOAD) (notes r moment false node)

-- ---- offers one after another

-- frames were written after those before
pub record WritesOn (old new : Node) : Type 0 where
  pub more : List (List ℕ)
  pub after : new.answers ≡ old.answers ++ more

abbrev pub requests_of : Node → List Request
requests_of node = map (λ (offer : Offer). offer.request) node.offered

-- these requests were offered after those before
pub record TakesIn (s : Session) (old new : Node) (requests : List Request) : Type 0 where
  pub kept : IsKept s old → IsKept s new
  pub offered : requests_of new ≡ requests_of old ++ requests
  pub written : WritesOn old new

offer_in : (s : Session) (moment : ℕ) (node : Node) (r : Request) → TakesIn s node (offers s moment node r) (r ∷ [])
offer_in s moment node r = record { kept = offers_kept s moment node r; offered = by_offered; written = by_written }
  where
    by_offered : requests_of (offers s moment node r) ≡ requests_of node ++ r ∷ []
    by_offered =
        offers_by s moment node r (λ (n : Node). requests_of n ≡ requests_of node ++ r ∷ [])
        (map-append (λ (offer : Offer). offer.request) node.offered (offer_of r moment true ∷ []))
        (λ full. map-append (λ (offer : Offer). offer.request) node.offered (offer_of r moment false ∷ []))

    by_written : WritesOn node (offers s moment node r)
    by_written =
        offers_by s moment node r (WritesOn node) (record { more = []; after = sym (append-nil node.answers) })
        (λ full. record { more = frames_of (unseen r OVERLOAD); after = refl })

in_more : (s : Session) (a b c : Node) (r : Request) (requests : List Request) → TakesIn s a b (r ∷ []) → TakesIn s b c requests → TakesIn s a c (r ∷ requests)
in_more s a b c r requests first later =
    record {
      kept = λ kept. later.kept (first.kept kept);
      offered = later.offered ∙ (ap (λ xs. xs ++ requests) first.offered ∙ join_more (requests_of a) r requests);
      written = record {
        more = first.written.more ++ later.written.more;
        after = later.written.after ∙ (ap (λ xs. xs ++ later.written.more) first.written.after ∙ append_assoc a.answers first.written.more later.written.more);
      };
    }

pub all_in : (s : Session) (moment : ℕ) (requests : List Request) (node : Node) → TakesIn s node (fold (offers s moment) node requests) requests
all_in s moment [] node =
    record {
      kept = λ kept. kept;
      offered = sym (append-nil (requests_of node));
      written = record { more = []; after = sym (append-nil node.answers) };
    }
all_in s moment (r ∷ requests) node =
    in_more s node (offers s moment node r) (fold (offers s moment) (offers s moment node r) requests) r requests (offer_in s moment node r)
    (all_in s moment requests (offers s moment node r))

-- ---- a request is taken

-- nothing is offered then, and frames may be written after those before
pub record TakesOut (s : Session) (old new : Node) : Type 0 where
  pub kept : IsKept s old → IsKept s new
  pub offered : new.offered ≡ old.offered
  pub written : WritesOn old new

pub works_out : (s : Session) (now : ℕ) (node : Node) → TakesOut s node (works s now node)
unfolding works
works_out s now node = go (slice_get (accepted node) (length node.taken)) refl
  where
    in_order : (next : Timed Request) → slice_get (accepted node) (length node.taken) ≡ Some next → IsKept s node
        → IsMerge (overload_frames s node) (taken_frames s (takes s now node (Some next))) (node.answers ++ taken_of s (next, now))
    in_order next e kept =
        subst (λ right. IsMerge (overload_frames s node) right (node.answers ++ taken_of s (next, now)))
        (sym (ap (λ pairs. flat_map (taken_of s) pairs) (zip_last (accepted node) node.taken next now e) ∙ flat_map_last (taken_of s) (zip (accepted node) node.taken) (next, now)))
        (right_goes_on (taken_of s (next, now)) kept.order)

    took : (next : Timed Request) → slice_get (accepted node) (length node.taken) ≡ Some next → IsKept s node → IsKept s (takes s now node (Some next))
    took next e kept =
        record {
          taken_within = let long = length-append node.taken (now ∷ []) in let within = slice_get_within (accepted node) (length node.taken) next e in omega (arith, long, within);
          room = kept.room;
          answers = answers_more s node (takes s now node (Some next)) (answer_of s now (taken_at s.queue_timeout now next))
              (grows_by node (takes s now node (Some next)) [] (now ∷ []) (sym (append-nil node.offered)) refl) kept.answers
              (λ frame frame_is. taken (length node.taken) next now (record { next_is = e; now_is = get_last node.taken now }) frame_is);
          order = in_order next e kept;
        }

    go : (o : Option (Timed Request)) → slice_get (accepted node) (length node.taken) ≡ o → TakesOut s node (takes s now node o)
    go None e = record { kept = λ kept. kept; offered = refl; written = record { more = []; after = sym (append-nil node.answers) } }
    go (Some next) e = record { kept = took next e; offered = refl; written = record { more = frames_of (answer_of s now (taken_at s.queue_timeout now next)); after = refl } }
