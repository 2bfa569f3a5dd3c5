-- For proofs and private functions: the parts of a request's frame around its id and its timeout.
use Rattle.std.specs.Prelude.{◌≡◌, ◌≤◌, ◌+◌, ℕ, ℤ, List, [], ◌∷◌, length, take, drop, vec_len, vec_capacity}
use Rattle.std.specs.Global.{Vec}
use Rattle.wire_words.specs.Spelling.{shortest, spelled_number}
use Rattle.tars_model.specs.Declarations.{nothing_declared}
use Rattle.tars_model.specs.declared.value.Value.{Num, Text, Blob}
use Rattle.tars_codec.specs.Written.{written}
use Rattle.tars_frames.specs.Streams.{LENGTH_BYTES, LONGEST}
use Rattle.rpc_packet.specs.Packets.{texts_value, request_members, request_frame}
use Rattle.rpc_packet.specs.Prepared.{GREATEST, said_by}
use Rattle.rpc_packet.specs.declared.request.Request.{Request}

-- how many bytes the longest id takes, and the longest timeout
abbrev pub OPEN_BYTES : ℕ
OPEN_BYTES = 5

abbrev pub id_field : ℤ → List ℕ
id_field n = spelled_number 4 (shortest n)

abbrev pub timeout_field : ℤ → List ℕ
timeout_field n = spelled_number 8 (shortest n)

-- before the id, between the id and the timeout, and after the timeout
unfoldable pub front_of : Request → List ℕ
front_of r = written nothing_declared (take 3 request_members) (Num r.version ∷ Num r.kind ∷ Num r.message ∷ [])

unfoldable pub middle_of : Request → List ℕ
middle_of r =
    written nothing_declared (take 3 (drop 4 request_members)) (Text r.servant ∷ Text r.func ∷ Blob r.body ∷ [])

unfoldable pub tail_of : Request → List ℕ
tail_of r = written nothing_declared (drop 8 request_members) (texts_value r.context ∷ texts_value r.status ∷ [])

-- bytes are the frame, with the longest id and timeout, of the request that they say, and these begin at two places
pub record IsOpen (longest : List ℕ) (id_at timeout_at : ℕ) : Type 0 where
  pub frame : longest ≡ request_frame (said_by longest)
  pub id : (said_by longest).id ≡ GREATEST
  pub timeout : (said_by longest).timeout ≡ GREATEST
  pub id_place : id_at ≡ LENGTH_BYTES + length (front_of (said_by longest))
  pub timeout_place : timeout_at ≡ id_at + OPEN_BYTES + length (middle_of (said_by longest))
  pub within : length longest ≤ LONGEST

-- nothing is in it yet
pub record IsEmpty (room : Vec ℕ) : Type 0 where
  pub items : room.items ≡ []
  pub len : vec_len room ≡ 0

-- empty room that holds the frame of a body
pub record IsRoomFor (room : Vec ℕ) (body : List ℕ) : Type 0 where
  pub empty : IsEmpty room
  pub enough : LENGTH_BYTES + length body ≤ vec_capacity room
  pub within : LENGTH_BYTES + length body ≤ LONGEST
