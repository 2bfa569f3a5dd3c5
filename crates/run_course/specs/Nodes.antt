-- What a node does (docs/PROTOCOL.md, "Adapters' queues" and "Return codes"): each request that it reads is offered to its queue, and
-- each that is taken from there is answered by its servant.
use Rattle.std.specs.Prelude.{ℕ, ◌-◌, nat_lt, Bool, true, false, if◌then◌else◌, Option, Some, None, List, [], ◌∷◌, ◌++◌, length, filter_map, slice_get}
use Rattle.adapter_queue.specs.Queues.{taken_at}
use Rattle.adapter_queue.specs.declared.timed.Timed.{Timed}
use Rattle.adapter_queue.specs.declared.taken.Taken.{Taken}
use Rattle.adapter_queue.specs.declared.taken.Taken.TheVariants.{Work, Stale}
use Rattle.rpc_packet.specs.Packets.{response_frame}
use Rattle.rpc_packet.specs.declared.request.Request.{Request}
use Rattle.rpc_packet.specs.declared.response.Response.{Response}
use Rattle.servant_core.specs.Answers.{OVERLOAD, QUEUE_TIMEOUT, answered, unseen}
use Rattle.script_session.specs.Sessions.{replies}
use Rattle.script_session.specs.declared.session.Session.{Session}

-- a request that was offered: the moment, in milliseconds, and whether the queue had room for it
pub record Offer : Type 0 where
  pub request : Request
  pub moment : ℕ
  pub has_room : Bool

-- the requests that a node has read, the moments at which the first of those that found room were taken, and the frames that it has
-- written, all in order
pub record Node : Type 0 where
  pub offered : List Offer
  pub taken : List ℕ
  pub answers : List (List ℕ)

abbrev pub fresh : Node
fresh = record { offered = []; taken = []; answers = [] }

-- ---- the queue

-- a request that found room, as it stands in the queue
abbrev pub timed : Offer → Option (Timed Request)
timed offer = if offer.has_room then Some (record { item = offer.request; entered = offer.moment }) else None

-- those that found room
abbrev pub accepted : Node → List (Timed Request)
accepted node = filter_map timed node.offered

-- how many of these wait
abbrev pub waiting : Node → ℕ
waiting node = length (accepted node) - length node.taken

-- ---- what is written

-- the frame of a response, if there is one
abbrev pub frames_of : Option Response → List (List ℕ)
frames_of None = []
frames_of (Some response) = response_frame response ∷ []

abbrev pub writes : Option Response → Node → Node
writes response node = record node { answers = node.answers ++ frames_of response }

abbrev pub notes : Request → ℕ → Bool → Node → Node
notes r moment has_room node =
    record node { offered = node.offered ++ record { request = r; moment = moment; has_room = has_room } ∷ [] }

-- a request is offered at a moment: where the queue is full, that is answered at once
unfoldable pub offers : Session → ℕ → Node → Request → Node
offers s moment node r =
    if nat_lt (waiting node) s.queue then notes r moment true node
    else writes (unseen r OVERLOAD) (notes r moment false node)

-- what is answered to a request that was taken: by the servant, but where it waited for too long
abbrev pub answer_of : Session → ℕ → Taken Request → Option Response
answer_of s now (Work r) = answered s.server s.server_interface s.object.id (replies s) r now
answer_of s now (Stale r) = unseen r QUEUE_TIMEOUT

abbrev pub takes : Session → ℕ → Node → Option (Timed Request) → Node
takes s now node None = node
takes s now node (Some next) =
    writes (answer_of s now (taken_at s.queue_timeout now next)) (record node { taken = node.taken ++ now ∷ [] })

-- the first request that waits is taken at a moment, if there is one
unfoldable pub works : Session → ℕ → Node → Node
works s now node = takes s now node (slice_get (accepted node) (length node.taken))
