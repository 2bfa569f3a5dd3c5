-- For the crates above: the frames of requests and responses are bytes, where their texts and bodies are; and how long a
-- number is.
use Rattle.std.proofs.Common.{◌≡◌, ◌<◌, ◌≤◌, ℕ, zero, suc, ◌+◌, ◌*◌, ℤ, pos, Bool, true, false, cond, nat_lt, nat_le, List, [], ◌∷◌, ◌++◌, length, length-append, lit≤, refl, sym, subst, arith, lit<, ltb-true, leb-true}
use Rattle.std.specs.Int.{Width, to_be_bytes, w8, w16, w32, w64, byte_at, bytes_high_first, byte_len, cast_unsigned}
use Rattle.std.proofs.lemmas.List.Elements.{All-from_recursion, All-cons, All-nil, All-append}
use Rattle.wire_words.specs.Spelling.{head, two_complement, spelled_number, spelled_size, spelled, spelled_fields, shortest}
use Rattle.wire_words.specs.Tree.{WireFields, no_fields, field, WireValue, WireNumber, zero_tag, int1, int2, int4, int8, string1, string4}
use Rattle.tars_model.specs.Declarations.{Declared, nothing_declared}
use Rattle.tars_model.specs.declared.member.Member.{Member}
use Rattle.tars_model.specs.declared.ty.Ty.{Ty, Byte, Short, Int, Text as TextTy, Vector, Map as MapTy}
use Rattle.tars_model.specs.declared.ty.Ty.TheVariants.{outs-Map as outs-MapTy}
use Rattle.tars_model.specs.declared.value.Value.{Value, Num, Text, Blob, Map}
use Rattle.tars_model.specs.declared.value.Value.TheOpen as layer
use Rattle.tars_model.specs.declared.value.Value.TheVariants.{outs-Map}
use Rattle.tars_codec.specs.Written.{wire_value, fields_of, written}
use Rattle.tars_codec.proofs.CallerLemmas.{wire_value_at, num_wire, text_wire, blob_wire}
use Rattle.tars_frames.specs.Streams.{LENGTH_BYTES, framed}
use Rattle.wire_reading.specs.Readings.{AreBytes}
use Rattle.rpc_packet.specs.Packets.{texts_value, request_members, response_members, request_values, response_values, request_frame, response_frame}
use Rattle.rpc_packet.specs.declared.request.Request.{Request}
use Rattle.rpc_packet.specs.declared.response.Response.{Response}
use Rattle.rpc_packet.specs.declared.text_pair.TextPair.{TextPair}

abbrev IsByte : ℕ → Type 0
IsByte byte = byte < 256

pub both_bytes : (first second : List ℕ) → AreBytes first → AreBytes second → AreBytes (first ++ second)
both_bytes first second = All-append IsByte first second

no_bytes : AreBytes []
no_bytes = All-nil IsByte

-- ---- numbers

byte_small : (i n : ℕ) → byte_at i n < 256
byte_small zero n = omega arith
byte_small (suc i) n = omega arith

high_first_bytes : (k n : ℕ) → AreBytes (bytes_high_first k n)
high_first_bytes zero n = no_bytes
high_first_bytes (suc k) n = All-cons IsByte (byte_at k n) (bytes_high_first k n) (byte_small k n) (high_first_bytes k n)

head_bytes : (tag type : ℕ) → tag < 256 → type < 16 → AreBytes (head tag type)
unfolding head
head_bytes tag type small known = by_test (nat_lt tag 15) refl
  where
    by_test : (b : Bool) → nat_lt tag 15 ≡ b → AreBytes (cond b ((tag * 16 + type) ∷ []) ((240 + type) ∷ tag ∷ []))
    by_test true e =
        let low = ltb-true tag 15 e in
        All-from_recursion IsByte ((tag * 16 + type) ∷ []) (omega (arith, low, known), tt)
    by_test false e = All-from_recursion IsByte ((240 + type) ∷ tag ∷ []) (omega (arith, known), (small, tt))

-- a number after its head
module _ (tag : ℕ) (small : tag < 256) where
  whole_bytes : (type : ℕ) (w : Width) (n : ℤ) → type < 16 → AreBytes (head tag type ++ two_complement w n)
  unfolding two_complement
  whole_bytes type w n known =
      both_bytes (head tag type) (bytes_high_first (byte_len w) (cast_unsigned w n)) (head_bytes tag type small known) (high_first_bytes (byte_len w) (cast_unsigned w n))

  number_bytes : (n : WireNumber) → AreBytes (spelled_number tag n)
  unfolding spelled_number
  number_bytes zero_tag = head_bytes tag 12 small (lit< tt)
  number_bytes (int1 n) = whole_bytes 0 w8 n (lit< tt)
  number_bytes (int2 n) = whole_bytes 1 w16 n (lit< tt)
  number_bytes (int4 n) = whole_bytes 2 w32 n (lit< tt)
  number_bytes (int8 n) = whole_bytes 3 w64 n (lit< tt)

size_bytes : (n : ℕ) → AreBytes (spelled_size n)
unfolding spelled_size
size_bytes n = number_bytes 0 (lit< tt) (shortest (pos n))

-- ---- how long a number is

pub head_length : (tag type : ℕ) → length (head tag type) ≤ 2
unfolding head
head_length tag type = by_test (nat_lt tag 15)
  where
    by_test : (b : Bool) → length (cond b ((tag * 16 + type) ∷ []) ((240 + type) ∷ tag ∷ [])) ≤ 2
    by_test true = lit≤ tt
    by_test false = lit≤ tt

pub number_length : (tag : ℕ) (n : WireNumber) → length (spelled_number tag n) ≤ 10
unfolding spelled_number two_complement
number_length tag zero_tag = omega (arith, head_length tag 12)
number_length tag (int1 n) = simp length-append (omega (arith, head_length tag 0))
number_length tag (int2 n) = simp length-append (omega (arith, head_length tag 1))
number_length tag (int4 n) = simp length-append (omega (arith, head_length tag 2))
number_length tag (int8 n) = simp length-append (omega (arith, head_length tag 3))

pub num_length : (tag : ℕ) (d : Declared) (t : Ty) (n : ℤ) → length (spelled tag (wire_value (Num n) d t)) ≤ 10
num_length tag d t n = subst (λ (v : WireValue). length (spelled tag v) ≤ 10) (sym (num_wire (Num n) d t n refl)) (number_length tag (shortest n))

-- ---- values

abbrev SpellsBytes : ℕ → WireValue → Type 0
SpellsBytes tag v = AreBytes (spelled tag v)

module _ (tag : ℕ) (small : tag < 256) where
  pub num_bytes : (d : Declared) (t : Ty) (n : ℤ) → SpellsBytes tag (wire_value (Num n) d t)
  num_bytes d t n = subst (SpellsBytes tag) (sym (num_wire (Num n) d t n refl)) (number_bytes tag small (shortest n))

  text_bytes : (d : Declared) (t : Ty) (bytes : List ℕ) → AreBytes bytes → SpellsBytes tag (wire_value (Text bytes) d t)
  text_bytes d t bytes all = subst (SpellsBytes tag) (sym (text_wire (Text bytes) d t bytes refl)) (by_test (nat_le (length bytes) 255) refl)
    where
      by_test : (b : Bool) → nat_le (length bytes) 255 ≡ b → SpellsBytes tag (cond b (string1 bytes) (string4 bytes))
      by_test true e =
          let short = leb-true (length bytes) 255 e in
          both_bytes (head tag 6) (length bytes ∷ bytes) (head_bytes tag 6 small (lit< tt)) (All-cons IsByte (length bytes) bytes (omega (arith, short)) all)
      by_test false e =
          both_bytes (head tag 7 ++ to_be_bytes w32 (length bytes)) bytes
          (both_bytes (head tag 7) (to_be_bytes w32 (length bytes)) (head_bytes tag 7 small (lit< tt)) (high_first_bytes (byte_len w32) (length bytes))) all

  -- what stands before the bytes of a simple list
  before_bytes : (n : ℕ) → AreBytes (head tag 13 ++ head 0 0 ++ spelled_size n)
  before_bytes n =
      both_bytes (head tag 13 ++ head 0 0) (spelled_size n)
      (both_bytes (head tag 13) (head 0 0) (head_bytes tag 13 small (lit< tt)) (head_bytes 0 0 (lit< tt) (lit< tt))) (size_bytes n)

  blob_bytes : (d : Declared) (t : Ty) (bytes : List ℕ) → AreBytes bytes → SpellsBytes tag (wire_value (Blob bytes) d t)
  blob_bytes d t bytes all =
      subst (SpellsBytes tag) (sym (blob_wire (Blob bytes) d t bytes refl))
      (both_bytes (head tag 13 ++ head 0 0 ++ spelled_size (length bytes)) bytes (before_bytes (length bytes)) all)

  no_entries_bytes : AreBytes (head tag 8 ++ spelled_size 0 ++ [])
  no_entries_bytes =
      both_bytes (head tag 8 ++ spelled_size 0) []
      (both_bytes (head tag 8) (spelled_size 0) (head_bytes tag 8 small (lit< tt)) (size_bytes 0)) no_bytes

  -- no entries of texts
  empty_bytes : (texts : List TextPair) → texts ≡ [] → SpellsBytes tag (wire_value (texts_value texts) nothing_declared (MapTy TextTy TextTy))
  empty_bytes texts none =
      rw (none, wire_value_at (Map []) (layer.Map []) (outs-Map []), outs-MapTy TextTy TextTy) no_entries_bytes

-- ---- fields

abbrev SpellBytes : WireFields → Type 0
SpellBytes no_fields = Unit {0}
SpellBytes (field tag v fs) = SpellsBytes tag v × SpellBytes fs

fields_bytes : (fs : WireFields) → SpellBytes fs → AreBytes (spelled_fields fs)
fields_bytes no_fields all = no_bytes
fields_bytes (field tag v fs) all = both_bytes (spelled tag v) (spelled_fields fs) all.0 (fields_bytes fs all.1)

pub written_bytes : (d : Declared) (members : List Member) (values : List Value) → SpellBytes (fields_of d members values) → AreBytes (written d members values)
unfolding written
written_bytes d members values all = fields_bytes (fields_of d members values) all

-- ---- packets

framed_bytes : (body : List ℕ) → AreBytes body → AreBytes (framed body)
unfolding framed
framed_bytes body all =
    both_bytes (to_be_bytes w32 (length body + LENGTH_BYTES)) body (high_first_bytes (byte_len w32) (length body + LENGTH_BYTES)) all

number_at : (tag : ℕ) (t : Ty) (n : ℤ) → tag < 256 → SpellsBytes tag (wire_value (Num n) nothing_declared t)
number_at tag t n small = num_bytes tag small nothing_declared t n

-- a request with neither context nor status
pub request_bytes : (r : Request) → r.context ≡ [] → r.status ≡ [] → AreBytes r.servant → AreBytes r.func → AreBytes r.body → AreBytes (request_frame r)
unfolding request_members request_frame
request_bytes r context status servant func body =
    framed_bytes (written nothing_declared request_members (request_values r)) (
    written_bytes nothing_declared request_members (request_values r) (
      number_at 1 Short r.version (lit< tt),
      (
        number_at 2 Byte r.kind (lit< tt),
        (
          number_at 3 Int r.message (lit< tt),
          (
            number_at 4 Int r.id (lit< tt),
            (
              text_bytes 5 (lit< tt) nothing_declared TextTy r.servant servant,
              (
                text_bytes 6 (lit< tt) nothing_declared TextTy r.func func,
                (
                  blob_bytes 7 (lit< tt) nothing_declared (Vector Byte) r.body body,
                  (
                    number_at 8 Int r.timeout (lit< tt),
                    (
                      empty_bytes 9 (lit< tt) r.context context,
                      (
                        empty_bytes 10 (lit< tt) r.status status,
                        tt,
                      ),
                    ),
                  ),
                ),
              ),
            ),
          ),
        ),
      ),
    ))

-- a response without a status
pub response_bytes : (r : Response) → r.status ≡ [] → AreBytes r.body → AreBytes r.note → AreBytes (response_frame r)
unfolding response_members response_frame
response_bytes r status body note =
    framed_bytes (written nothing_declared response_members (response_values r)) (
    written_bytes nothing_declared response_members (response_values r) (
      number_at 1 Short r.version (lit< tt),
      (
        number_at 2 Byte r.kind (lit< tt),
        (
          number_at 3 Int r.id (lit< tt),
          (
            number_at 4 Int r.message (lit< tt),
            (
              number_at 5 Int r.ret (lit< tt),
              (
                blob_bytes 6 (lit< tt) nothing_declared (Vector Byte) r.body body,
                (
                  empty_bytes 7 (lit< tt) r.status status,
                  (
                    text_bytes 8 (lit< tt) nothing_declared TextTy r.note note,
                    tt,
                  ),
                ),
              ),
            ),
          ),
        ),
      ),
    ))
