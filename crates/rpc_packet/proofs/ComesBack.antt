-- What was written reads back: requests, responses, and bodies of any members.
use Rattle.std.proofs.Common.{◌≡◌, ◌∙◌, ◌<◌, true, ℕ, ℤ, List, [], map, drop, Result, Ok, Err, IfOk, Some, option_map, refl, sym, ap, lit<, subst}
use Rattle.std.specs.List.{All}
use Rattle.std.proofs.lemmas.List.Elements.{All-from_recursion, All-drop}
use Rattle.wire_words.specs.Tree.{WireFields}
use Rattle.tars_model.specs.Declarations.{Declared, nothing_declared}
use Rattle.tars_model.specs.Members.{required}
use Rattle.tars_model.specs.Ranges.{IsInt}
use Rattle.tars_model.specs.Schemas.{IsSchema, nothing}
use Rattle.tars_model.specs.Types.{TyLayer, depth_layer, type_depth}
use Rattle.tars_model.specs.Values.{is_number_of, fits, fit_members}
use Rattle.tars_model.specs.declared.member.Member.{Member}
use Rattle.tars_model.specs.declared.ty.Ty.{Ty, out-Ty, map-Ty, fold_out-Ty, Byte, Short, Int, Text as TextTy, Vector, Map as MapTy}
use Rattle.tars_model.specs.declared.ty.Ty.TheOpen as ty
use Rattle.tars_model.specs.declared.ty.Ty.TheVariants.{outs-Byte, outs-Short, outs-Int, outs-Vector, outs-Text, outs-Map}
use Rattle.tars_model.specs.declared.value.Value.{Value, Num}
use Rattle.tars_model.specs.declared.value.Value.TheVariants.{outs-Num, outs-Text as outs-text, outs-Blob as outs-blob, outs-Map as outs-map}
use Rattle.tars_model.proofs.CallerLemmas.{int_passes}
use Rattle.tars_model.proofs.ToldLaws.{told_fits_num}
use Rattle.tars_wire.specs.Heads.{MAX_DEPTH}
use Rattle.tars_wire.specs.Spelled.{Spelled}
use Rattle.tars_wire.proofs.Grammar.Extends.{one_reading_law}
use Rattle.tars_decode.specs.Decoding.{MembersFit}
use Rattle.tars_decode.specs.Reads.{reads}
use Rattle.tars_codec.specs.Written.{written, IsShallow, AreShallow}
use Rattle.tars_codec.proofs.ReadBack.{written_reads}
use Rattle.tars_frames.specs.Streams.{LENGTH_BYTES, framed}
use Rattle.wire_reading.specs.Readings.{AreBytes, Reading, body, no_body}
use Rattle.rpc_packet.specs.Bodies.{reading, unless_refused, values_in, values_of}
use Rattle.rpc_packet.specs.Outcomes.{IsSendable, IsAnswerable}
use Rattle.rpc_packet.specs.Packets.{entry_of, request_members, request_values, request_frame, request_in, read_request, response_members, response_values, response_frame, response_in, read_response}
use Rattle.rpc_packet.specs.declared.request.Request.{Request}
use Rattle.rpc_packet.specs.declared.response.Response.{Response}
use Rattle.rpc_packet.specs.declared.write_refusal.WriteRefusal.{WriteRefusal}
use Rattle.rpc_packet.proofs.MemberLaws as members
use Rattle.rpc_packet.proofs.ValuesFit.{HasRequestNumbers, HasResponseNumbers, request_fits, response_fits}
use Rattle.rpc_packet.proofs.TextMaps.{texts_back}

-- ---- bytes that spell fields are read as these

pub spelled_reads : (d : Declared) (members : List Member) (bytes : List ℕ) (fields : WireFields) (values : List Value) → AreBytes bytes → Spelled MAX_DEPTH bytes fields
    → reads d members fields ≡ Ok values → values_of d members bytes ≡ Some values
unfolding values_of
spelled_reads d members bytes fields values small is_spelled reads_so = by_reading (reading bytes)
  where
    by_reading : (r : Reading bytes) → values_in d members r ≡ Some values
    by_reading (body others other_spelled) =
        ap (λ (fs : WireFields). unless_refused (reads d members fs)) (one_reading_law MAX_DEPTH MAX_DEPTH bytes others fields other_spelled is_spelled) ∙ ap unless_refused reads_so
    by_reading (no_body fault is) = absurd ((is small).no_body (record { fields = fields; spelled = is_spelled }))

-- members that may be read
pub record AreReadable (d : Declared) (members : List Member) : Type 0 where
  pub schema : IsSchema d
  pub fit : MembersFit d members
  pub shallow : AreShallow d members

pub written_comes_back : (d : Declared) (members : List Member) (values : List Value) → AreReadable d members → fit_members d members values ≡ true
    → AreBytes (written d members values) → values_of d members (written d members values) ≡ Some values
written_comes_back d members values readable fit small =
    let back = written_reads d members values readable.schema readable.fit readable.shallow fit small in
    spelled_reads d members (written d members values) _ values small back.0 back.1

-- ---- ints

pub int_fits : (d : Declared) (n : ℤ) → IsInt n → fits d Int (Num n) ≡ true
int_fits d n int = told_fits_num (Num n) d Int n refl ∙ (ap (λ (l : TyLayer). is_number_of l n) outs-Int ∙ int_passes n int)

-- ---- the types of members are not deep

depth_in : (depths : List ℕ) (t : Ty) (l : TyLayer) → out-Ty t ≡ l → type_depth depths t ≡ depth_layer depths (map-Ty Ty ℕ (type_depth depths) l)
depth_in depths t l is = fold_out-Ty ℕ (depth_layer depths) t ∙ ap (λ l. depth_layer depths (map-Ty Ty ℕ (type_depth depths) l)) is

depth_at : (t : Ty) (l : TyLayer) → out-Ty t ≡ l → type_depth [] t ≡ depth_layer [] (map-Ty Ty ℕ (type_depth []) l)
depth_at t l is = depth_in [] t l is

abbrev IsShallowType : Ty → Type 0
IsShallowType t = IsShallow nothing_declared (required 0 t [])

byte_shallow : IsShallowType Byte
byte_shallow = rw (depth_at Byte ty.Byte outs-Byte) (lit< tt)

short_shallow : IsShallowType Short
short_shallow = rw (depth_at Short ty.Short outs-Short) (lit< tt)

pub int_is_shallow : (depths : List ℕ) → type_depth depths Int < MAX_DEPTH
int_is_shallow depths = rw (depth_in depths Int ty.Int outs-Int) (lit< tt)

int_shallow : IsShallowType Int
int_shallow = int_is_shallow []

text_shallow : IsShallowType TextTy
text_shallow = rw (depth_at TextTy ty.Text outs-Text) (lit< tt)

bytes_shallow : IsShallowType (Vector Byte)
bytes_shallow = rw (depth_at (Vector Byte) (ty.Vector Byte) (outs-Vector Byte), depth_at Byte ty.Byte outs-Byte) (lit< tt)

texts_shallow : IsShallowType (MapTy TextTy TextTy)
texts_shallow = rw (depth_at (MapTy TextTy TextTy) (ty.Map TextTy TextTy) (outs-Map TextTy TextTy), depth_at TextTy ty.Text outs-Text) (lit< tt)

-- ---- packets

request_shallow : All (IsShallow nothing_declared) request_members
unfolding request_members
request_shallow =
    All-from_recursion (IsShallow nothing_declared) request_members
    (short_shallow, (byte_shallow, (int_shallow, (int_shallow, (text_shallow, (text_shallow, (bytes_shallow, (int_shallow, (texts_shallow, (texts_shallow, tt))))))))))

request_readable : AreReadable nothing_declared request_members
request_readable = record { schema = nothing refl; fit = members.request_readable; shallow = request_shallow }

response_shallow : All (IsShallow nothing_declared) response_members
unfolding response_members
response_shallow =
    All-from_recursion (IsShallow nothing_declared) response_members
    (short_shallow, (byte_shallow, (int_shallow, (int_shallow, (int_shallow, (bytes_shallow, (texts_shallow, (text_shallow, tt))))))))

response_readable : AreReadable nothing_declared response_members
response_readable = record { schema = nothing refl; fit = members.response_readable; shallow = response_shallow }

-- after its length a packet is its body
body_after : (bytes : List ℕ) → drop LENGTH_BYTES (framed bytes) ≡ bytes
unfolding framed
body_after bytes = refl

body_bytes : (bytes : List ℕ) → AreBytes (framed bytes) → AreBytes bytes
body_bytes bytes all = subst AreBytes (body_after bytes) (All-drop (λ byte. byte < 256) LENGTH_BYTES (framed bytes) all)

same_request : (r : Request) → request_in (request_values r) ≡ r
same_request r =
    rw (
      outs-Num r.version,
      outs-Num r.kind,
      outs-Num r.message,
      outs-Num r.id,
      outs-text r.servant,
      outs-text r.func,
      outs-blob r.body,
      outs-Num r.timeout,
      outs-map (map entry_of r.context),
      outs-map (map entry_of r.status),
      texts_back r.context,
      texts_back r.status,
    ) refl

pub request_comes_back : (r : Request) → HasRequestNumbers r → IsSendable r → AreBytes (request_frame r) → read_request (request_frame r) ≡ Some r
unfolding read_request request_frame
request_comes_back r numbers sendable small =
    ap (λ bytes. option_map request_in (values_of nothing_declared request_members bytes)) (body_after (written nothing_declared request_members (request_values r)))
    ∙ (ap (λ o. option_map request_in o)
    (written_comes_back nothing_declared request_members (request_values r) request_readable (request_fits r numbers sendable)
    (body_bytes (written nothing_declared request_members (request_values r)) small))
    ∙ ap (λ q. Some q) (same_request r))

same_response : (r : Response) → response_in (response_values r) ≡ r
same_response r =
    rw (
      outs-Num r.version,
      outs-Num r.kind,
      outs-Num r.id,
      outs-Num r.message,
      outs-Num r.ret,
      outs-blob r.body,
      outs-map (map entry_of r.status),
      texts_back r.status,
      outs-text r.note,
    ) refl

pub response_comes_back : (r : Response) → HasResponseNumbers r → IsAnswerable r → AreBytes (response_frame r) → read_response (response_frame r) ≡ Some r
unfolding read_response response_frame
response_comes_back r numbers answerable small =
    ap (λ bytes. option_map response_in (values_of nothing_declared response_members bytes)) (body_after (written nothing_declared response_members (response_values r)))
    ∙ (ap (λ o. option_map response_in o)
    (written_comes_back nothing_declared response_members (response_values r) response_readable (response_fits r numbers answerable)
    (body_bytes (written nothing_declared response_members (response_values r)) small))
    ∙ ap (λ q. Some q) (same_response r))

-- ---- frames as they are written

pub request_back : (r : Request) (result : Result (List ℕ) WriteRefusal) → HasRequestNumbers r → IsSendable r → IfOk result (λ frame. frame ≡ request_frame r) → IfOk result (λ frame. AreBytes frame)
    → IfOk result (λ frame. read_request frame ≡ Some r)
request_back r (Ok frame) numbers sendable is small =
    subst (λ bytes. read_request bytes ≡ Some r) (sym is) (request_comes_back r numbers sendable (subst (λ bytes. AreBytes bytes) is small))
request_back r (Err why) numbers sendable is small = tt

pub response_back : (r : Response) (result : Result (List ℕ) WriteRefusal) → HasResponseNumbers r → IsAnswerable r → IfOk result (λ frame. frame ≡ response_frame r) → IfOk result (λ frame. AreBytes frame)
    → IfOk result (λ frame. read_response frame ≡ Some r)
response_back r (Ok frame) numbers answerable is small =
    subst (λ bytes. read_response bytes ≡ Some r) (sym is) (response_comes_back r numbers answerable (subst (λ bytes. AreBytes bytes) is small))
response_back r (Err why) numbers answerable is small = tt
