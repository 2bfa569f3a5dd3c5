-- How long the frames of requests and responses without texts in maps are at most.
use Rattle.std.proofs.Common.{◌≡◌, ◌≤◌, ◌+◌, ℕ, pos, Bool, true, false, cond, nat_le, List, [], length, refl, sym, subst, arith, length-append}
use Rattle.wire_words.specs.Spelling.{spelled_size, spelled, shortest}
use Rattle.wire_words.specs.Tree.{WireValue, string1, string4}
use Rattle.tars_model.specs.Declarations.{Declared, nothing_declared}
use Rattle.tars_model.specs.declared.ty.Ty.{Ty, Byte, Short, Int, Text as TextTy, Vector, Map as MapTy}
use Rattle.tars_model.specs.declared.ty.Ty.TheVariants.{outs-Map as outs-MapTy}
use Rattle.tars_model.specs.declared.value.Value.{Text, Blob, Map}
use Rattle.tars_model.specs.declared.value.Value.TheOpen as layer
use Rattle.tars_model.specs.declared.value.Value.TheVariants.{outs-Map}
use Rattle.tars_codec.specs.Written.{wire_value, written}
use Rattle.tars_codec.proofs.CallerLemmas.{wire_value_at, text_wire, blob_wire}
use Rattle.tars_frames.specs.Streams.{framed}
use Rattle.rpc_packet.specs.Packets.{texts_value, request_members, request_frame, response_members, response_frame}
use Rattle.rpc_packet.specs.declared.request.Request.{Request}
use Rattle.rpc_packet.proofs.FrameBytes.{head_length, number_length, num_length}
use Rattle.rpc_packet.specs.declared.response.Response.{Response}
use Rattle.rpc_packet.specs.declared.text_pair.TextPair.{TextPair}

abbrev SpellsWithin : ℕ → ℕ → WireValue → Type 0
SpellsWithin most tag v = length (spelled tag v) ≤ most

pub text_length : (tag : ℕ) (d : Declared) (t : Ty) (bytes : List ℕ) → length (spelled tag (wire_value (Text bytes) d t)) ≤ length bytes + 6
text_length tag d t bytes = subst (SpellsWithin (length bytes + 6) tag) (sym (text_wire (Text bytes) d t bytes refl)) (by_test (nat_le (length bytes) 255))
  where
    by_test : (b : Bool) → SpellsWithin (length bytes + 6) tag (cond b (string1 bytes) (string4 bytes))
    by_test true = simp length-append (omega (arith, head_length tag 6))
    by_test false = simp length-append (omega (arith, head_length tag 7))

pub blob_length : (tag : ℕ) (d : Declared) (t : Ty) (bytes : List ℕ) → length (spelled tag (wire_value (Blob bytes) d t)) ≤ length bytes + 14
unfolding spelled_size
blob_length tag d t bytes =
    subst (SpellsWithin (length bytes + 14) tag) (sym (blob_wire (Blob bytes) d t bytes refl))
    (simp length-append (omega (arith, head_length tag 13, head_length 0 0, number_length 0 (shortest (pos (length bytes))))))

-- no entries of texts
pub empty_length : (tag : ℕ) (texts : List TextPair) → texts ≡ [] → length (spelled tag (wire_value (texts_value texts) nothing_declared (MapTy TextTy TextTy))) ≤ 12
unfolding spelled_size
empty_length tag texts none =
    rw (none, wire_value_at (Map []) (layer.Map []) (outs-Map []), outs-MapTy TextTy TextTy)
    (simp length-append (omega (arith, head_length tag 8, number_length 0 (shortest (pos 0)))))

pub request_length : (r : Request) → r.context ≡ [] → r.status ≡ [] → length (request_frame r) ≤ length r.servant + length r.func + length r.body + 128
unfolding written framed request_members request_frame
request_length r context status =
    simp length-append (omega (
      arith,
      num_length 1 nothing_declared Short r.version,
      num_length 2 nothing_declared Byte r.kind,
      num_length 3 nothing_declared Int r.message,
      num_length 4 nothing_declared Int r.id,
      text_length 5 nothing_declared TextTy r.servant,
      text_length 6 nothing_declared TextTy r.func,
      blob_length 7 nothing_declared (Vector Byte) r.body,
      num_length 8 nothing_declared Int r.timeout,
      empty_length 9 r.context context,
      empty_length 10 r.status status,
    ))

pub response_length : (r : Response) → r.status ≡ [] → length (response_frame r) ≤ length r.body + length r.note + 128
unfolding written framed response_members response_frame
response_length r status =
    simp length-append (omega (
      arith,
      num_length 1 nothing_declared Short r.version,
      num_length 2 nothing_declared Byte r.kind,
      num_length 3 nothing_declared Int r.id,
      num_length 4 nothing_declared Int r.message,
      num_length 5 nothing_declared Int r.ret,
      blob_length 6 nothing_declared (Vector Byte) r.body,
      empty_length 7 r.status status,
      text_length 8 nothing_declared TextTy r.note,
    ))
