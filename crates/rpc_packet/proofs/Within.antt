-- Frames that are no longer than a packet may be are packets, and what stands in them fits its type.
use Rattle.std.proofs.Common.{◌≡◌, ◌≤◌, ◌+◌, ◌*◌, ℕ, ℤ, Bool, true, false, cond, nat_lt, nat_le, List, [], ◌∷◌, length, refl, sym, subst, arith, lit≤, length-append}
use Rattle.wire_words.specs.Spelling.{head, spelled_number, spelled, shortest}
use Rattle.wire_words.specs.Tree.{WireValue, WireNumber, zero_tag, int1, int2, int4, int8, string1, string4}
use Rattle.tars_model.specs.Declarations.{nothing_declared}
use Rattle.tars_model.specs.declared.ty.Ty.{Ty, Byte, Short, Text as TextTy, Vector}
use Rattle.tars_model.specs.declared.value.Value.{Num, Text, Blob}
use Rattle.tars_codec.specs.Written.{wire_value, written}
use Rattle.tars_codec.proofs.CallerLemmas.{num_wire, text_wire, blob_wire}
use Rattle.tars_frames.specs.Streams.{LENGTH_BYTES, LONGEST, IsPacket, framed}
use Rattle.tars_frames.proofs.Readings.{framed_is_packet}
use Rattle.rpc_packet.specs.Packets.{request_members, request_values, request_frame, response_members, response_values, response_frame}
use Rattle.rpc_packet.specs.Outcomes.{AreTexts, IsSendable, IsAnswerable}
use Rattle.rpc_packet.specs.declared.request.Request.{Request}
use Rattle.rpc_packet.specs.declared.response.Response.{Response}

-- ---- values

head_some : (tag type : ℕ) → 1 ≤ length (head tag type)
unfolding head
head_some tag type = by_test (nat_lt tag 15)
  where
    by_test : (b : Bool) → 1 ≤ length (cond b ((tag * 16 + type) ∷ []) ((240 + type) ∷ tag ∷ []))
    by_test true = lit≤ tt
    by_test false = lit≤ tt

number_some : (tag : ℕ) (n : WireNumber) → 1 ≤ length (spelled_number tag n)
unfolding spelled_number
number_some tag zero_tag = head_some tag 12
number_some tag (int1 n) = simp length-append (omega (arith, head_some tag 0))
number_some tag (int2 n) = simp length-append (omega (arith, head_some tag 1))
number_some tag (int4 n) = simp length-append (omega (arith, head_some tag 2))
number_some tag (int8 n) = simp length-append (omega (arith, head_some tag 3))

abbrev HasAtLeast : ℕ → ℕ → WireValue → Type 0
HasAtLeast least tag v = least ≤ length (spelled tag v)

num_some : (tag : ℕ) (t : Ty) (n : ℤ) → 1 ≤ length (spelled tag (wire_value (Num n) nothing_declared t))
num_some tag t n = subst (HasAtLeast 1 tag) (sym (num_wire (Num n) nothing_declared t n refl)) (number_some tag (shortest n))

-- a text or a simple list is no shorter than its bytes
text_whole : (tag : ℕ) (t : Ty) (bytes : List ℕ) → length bytes ≤ length (spelled tag (wire_value (Text bytes) nothing_declared t))
text_whole tag t bytes = subst (HasAtLeast (length bytes) tag) (sym (text_wire (Text bytes) nothing_declared t bytes refl)) (by_test (nat_le (length bytes) 255))
  where
    by_test : (b : Bool) → HasAtLeast (length bytes) tag (cond b (string1 bytes) (string4 bytes))
    by_test true = simp length-append (omega arith)
    by_test false = simp length-append (omega arith)

blob_whole : (tag : ℕ) (t : Ty) (bytes : List ℕ) → length bytes ≤ length (spelled tag (wire_value (Blob bytes) nothing_declared t))
blob_whole tag t bytes = subst (HasAtLeast (length bytes) tag) (sym (blob_wire (Blob bytes) nothing_declared t bytes refl)) (simp length-append (omega arith))

-- ---- bodies and frames

framed_length : (body : List ℕ) → length (framed body) ≡ length body + LENGTH_BYTES
unfolding framed
framed_length body = simp length-append (omega arith)

-- a frame within the limit
whole_packet : (body : List ℕ) → 1 ≤ length body → length (framed body) ≤ LONGEST → IsPacket LONGEST (framed body)
whole_packet body some within =
    framed_is_packet LONGEST body (omega (arith, some)) (omega (arith, framed_length body, within)) (omega arith)

request_whole : (r : Request) → 1 + length r.servant + length r.func + length r.body ≤ length (written nothing_declared request_members (request_values r))
unfolding written request_members
request_whole r =
    simp length-append (omega (
      arith,
      num_some 1 Short r.version,
      text_whole 5 TextTy r.servant,
      text_whole 6 TextTy r.func,
      blob_whole 7 (Vector Byte) r.body,
    ))

response_whole : (r : Response) → 1 + length r.body + length r.note ≤ length (written nothing_declared response_members (response_values r))
unfolding written response_members
response_whole r = simp length-append (omega (arith, num_some 1 Short r.version, blob_whole 6 (Vector Byte) r.body, text_whole 8 TextTy r.note))

-- ---- requests and responses

pub within_sendable : (r : Request) → AreTexts r.context → AreTexts r.status → length (request_frame r) ≤ LONGEST → IsSendable r
unfolding request_frame
within_sendable r context status within =
    let longer = framed_length (written nothing_declared request_members (request_values r)) in
    record {
      servant = omega (arith, request_whole r, longer, within);
      func = omega (arith, request_whole r, longer, within);
      body = omega (arith, request_whole r, longer, within);
      context = context;
      status = status;
    }

pub within_answerable : (r : Response) → AreTexts r.status → length (response_frame r) ≤ LONGEST → IsAnswerable r
unfolding response_frame
within_answerable r status within =
    let longer = framed_length (written nothing_declared response_members (response_values r)) in
    record {
      body = omega (arith, response_whole r, longer, within);
      status = status;
      note = omega (arith, response_whole r, longer, within);
    }

pub response_body_within : (r : Response) → length r.body ≤ length (response_frame r)
unfolding response_frame
response_body_within r =
    omega (arith, response_whole r, framed_length (written nothing_declared response_members (response_values r)))

pub request_packet : (r : Request) → length (request_frame r) ≤ LONGEST → IsPacket LONGEST (request_frame r)
unfolding request_frame
request_packet r within =
    whole_packet (written nothing_declared request_members (request_values r)) (omega (arith, request_whole r)) within

pub response_packet : (r : Response) → length (response_frame r) ≤ LONGEST → IsPacket LONGEST (response_frame r)
unfolding response_frame
response_packet r within =
    whole_packet (written nothing_declared response_members (response_values r)) (omega (arith, response_whole r)) within

-- a request whose frame is that of a body within the limit
pub filled_packet : (body : List ℕ) (r : Request) → framed body ≡ request_frame r → LENGTH_BYTES + length body ≤ LONGEST → IsPacket LONGEST (request_frame r)
filled_packet body r is within =
    request_packet r (subst (λ (frame : List ℕ). length frame ≤ LONGEST) is (omega (arith, framed_length body, within)))
