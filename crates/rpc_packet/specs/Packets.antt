-- Requests and responses, as they are written and read (docs/PROTOCOL.md, "Packets"; RequestF.tars of TarsCpp).
use Rattle.std.specs.Prelude.{ℕ, ℤ, pos, Bool, true, false, Option, option_map, List, [], ◌∷◌, drop, map, slice_index_or, codes}
use Rattle.tars_model.specs.Declarations.{nothing_declared}
use Rattle.tars_model.specs.declared.member.Member.{Member}
use Rattle.tars_model.specs.declared.ty.Ty.{Ty, Byte, Short, Int, Text as TextTy, Vector, Map as MapTy}
use Rattle.tars_model.specs.declared.value.Value.{Value, Num, Text, Blob, Map, out-Value}
use Rattle.tars_model.specs.declared.value.Value.TheOpen as layer
use Rattle.tars_model.specs.declared.value.Pair.{Pair, out-Pair, roll-Pair}
use Rattle.tars_codec.specs.Written.{written}
use Rattle.tars_frames.specs.Streams.{LENGTH_BYTES, framed}
use Rattle.rpc_packet.specs.Bodies.{values_of}
use Rattle.rpc_packet.specs.declared.request.Request.{Request}
use Rattle.rpc_packet.specs.declared.response.Response.{Response}
use Rattle.rpc_packet.specs.declared.text_pair.TextPair.{TextPair}

-- a member of a packet, whose default is the absent one
abbrev pub packet_member : ℕ → Bool → Ty → List ℕ → Value → Member
packet_member tag require ty name default = record { tag = tag; require = require; ty = ty; name = name; default = default }

abbrev pub number_member : ℕ → Bool → Ty → List ℕ → Member
number_member tag require ty name = packet_member tag require ty name (Num (pos 0))

abbrev pub text_member : ℕ → Bool → List ℕ → Member
text_member tag require name = packet_member tag require TextTy name (Text [])

abbrev pub bytes_member : ℕ → Bool → List ℕ → Member
bytes_member tag require name = packet_member tag require (Vector Byte) name (Blob [])

abbrev pub texts_member : ℕ → Bool → List ℕ → Member
texts_member tag require name = packet_member tag require (MapTy TextTy TextTy) name (Map [])

unfoldable pub request_members : List Member
request_members =
    number_member 1 true Short (codes "iVersion")
    ∷ number_member 2 false Byte (codes "cPacketType")
    ∷ number_member 3 false Int (codes "iMessageType")
    ∷ number_member 4 true Int (codes "iRequestId")
    ∷ text_member 5 true (codes "sServantName")
    ∷ text_member 6 true (codes "sFuncName")
    ∷ bytes_member 7 true (codes "sBuffer")
    ∷ number_member 8 false Int (codes "iTimeout")
    ∷ texts_member 9 false (codes "context")
    ∷ texts_member 10 false (codes "status")
    ∷ []

unfoldable pub response_members : List Member
response_members =
    number_member 1 true Short (codes "iVersion")
    ∷ number_member 2 false Byte (codes "cPacketType")
    ∷ number_member 3 true Int (codes "iRequestId")
    ∷ number_member 4 false Int (codes "iMessageType")
    ∷ number_member 5 false Int (codes "iRet")
    ∷ bytes_member 6 true (codes "sBuffer")
    ∷ texts_member 7 false (codes "status")
    ∷ text_member 8 false (codes "sResultDesc")
    ∷ []

-- Written: every member, in the order of the tags, and a map as its entries.
abbrev pub entry_of : TextPair → Pair
entry_of p = roll-Pair (record { key = Text p.key; value = Text p.value })

abbrev pub texts_value : List TextPair → Value
texts_value texts = Map (map entry_of texts)

abbrev pub request_values : Request → List Value
request_values r =
    Num r.version ∷ Num r.kind ∷ Num r.message ∷ Num r.id ∷ Text r.servant ∷ Text r.func ∷ Blob r.body
    ∷ Num r.timeout ∷ texts_value r.context ∷ texts_value r.status ∷ []

abbrev pub response_values : Response → List Value
response_values r =
    Num r.version ∷ Num r.kind ∷ Num r.id ∷ Num r.message ∷ Num r.ret ∷ Blob r.body
    ∷ texts_value r.status ∷ Text r.note ∷ []

unfoldable pub request_frame : Request → List ℕ
request_frame r = framed (written nothing_declared request_members (request_values r))

unfoldable pub response_frame : Response → List ℕ
response_frame r = framed (written nothing_declared response_members (response_values r))

-- Read: values go by their places among the members.
abbrev pub number_of_layer : layer.Value-F Value Pair → ℤ
number_of_layer (layer.Num n) = n
number_of_layer _ = pos 0

abbrev pub number_at : List Value → ℕ → ℤ
number_at values k = number_of_layer (out-Value (slice_index_or values k (Num (pos 0))))

abbrev pub bytes_of_layer : layer.Value-F Value Pair → List ℕ
bytes_of_layer (layer.Text bytes) = bytes
bytes_of_layer (layer.Blob bytes) = bytes
bytes_of_layer _ = []

abbrev pub bytes_at : List Value → ℕ → List ℕ
bytes_at values k = bytes_of_layer (out-Value (slice_index_or values k (Num (pos 0))))

abbrev pub text_pair : Pair → TextPair
text_pair p =
    record { key = bytes_of_layer (out-Value (out-Pair p).key); value = bytes_of_layer (out-Value (out-Pair p).value) }

abbrev pub texts_of_layer : layer.Value-F Value Pair → List TextPair
texts_of_layer (layer.Map entries) = map text_pair entries
texts_of_layer _ = []

abbrev pub texts_at : List Value → ℕ → List TextPair
texts_at values k = texts_of_layer (out-Value (slice_index_or values k (Num (pos 0))))

abbrev pub request_in : List Value → Request
request_in values =
    record {
      version = number_at values 0;
      kind = number_at values 1;
      message = number_at values 2;
      id = number_at values 3;
      servant = bytes_at values 4;
      func = bytes_at values 5;
      body = bytes_at values 6;
      timeout = number_at values 7;
      context = texts_at values 8;
      status = texts_at values 9;
    }

abbrev pub response_in : List Value → Response
response_in values =
    record {
      version = number_at values 0;
      kind = number_at values 1;
      id = number_at values 2;
      message = number_at values 3;
      ret = number_at values 4;
      body = bytes_at values 5;
      status = texts_at values 6;
      note = bytes_at values 7;
    }

unfoldable pub read_request : List ℕ → Option Request
read_request packet = option_map request_in (values_of nothing_declared request_members (drop LENGTH_BYTES packet))

unfoldable pub read_response : List ℕ → Option Response
read_response packet = option_map response_in (values_of nothing_declared response_members (drop LENGTH_BYTES packet))
