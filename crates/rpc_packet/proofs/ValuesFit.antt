-- The values of requests and responses fit their members.
use Rattle.std.proofs.Common.{◌≡◌, ◌<◌, ◌^◌, true, ℕ, ℤ, pos, negsuc, [], ◌∷◌, refl, lt-ltb}
use Rattle.std.proofs.lemmas.Bool.{and_from}
use lib.Signed.{mag}
use Rattle.tars_model.specs.Declarations.{nothing_declared}
use Rattle.tars_model.specs.Values.{is_signed, fit_members}
use Rattle.tars_model.specs.declared.ty.Ty.{Byte, Short, Int}
use Rattle.tars_model.specs.declared.ty.Ty.TheOpen as ty
use Rattle.tars_model.specs.declared.ty.Ty.TheVariants.{outs-Byte, outs-Short, outs-Int}
use Rattle.tars_model.specs.declared.value.Value.{Value, Num, Text, Blob}
use Rattle.rpc_packet.specs.declared.request.Request.{Request}
use Rattle.rpc_packet.specs.declared.response.Response.{Response}
use Rattle.rpc_packet.specs.Packets.{texts_value, request_members, request_values, response_members, response_values}
use Rattle.rpc_packet.specs.Outcomes.{IsSendable, IsAnswerable}
use Rattle.rpc_packet.proofs.MemberLaws.{FitsType, number_fits, text_fits, blob_fits}
use Rattle.rpc_packet.proofs.TextMaps.{texts_fit}

signed_below : (bits : ℕ) (n : ℤ) → mag n < 2 ^ bits → is_signed bits n ≡ true
signed_below bits (pos n) h = lt-ltb n (2 ^ bits) h
signed_below bits (negsuc n) h = lt-ltb n (2 ^ bits) h

short_fits : (n : ℤ) → mag n < 2 ^ 15 → FitsType Short (Num n)
short_fits n h = number_fits Short ty.Short n outs-Short (signed_below 15 n h)

int_fits : (n : ℤ) → mag n < 2 ^ 31 → FitsType Int (Num n)
int_fits n h = number_fits Int ty.Int n outs-Int (signed_below 31 n h)

byte_fits : (n : ℤ) → mag n < 2 ^ 7 → FitsType Byte (Num n)
byte_fits n h = number_fits Byte ty.Byte n outs-Byte (signed_below 7 n h)

-- the numbers are those of their types
pub record HasRequestNumbers (r : Request) : Type 0 where
  pub version : mag r.version < 2 ^ 15
  pub kind : mag r.kind < 2 ^ 7
  pub message : mag r.message < 2 ^ 31
  pub id : mag r.id < 2 ^ 31
  pub timeout : mag r.timeout < 2 ^ 31

pub record HasResponseNumbers (r : Response) : Type 0 where
  pub version : mag r.version < 2 ^ 15
  pub kind : mag r.kind < 2 ^ 7
  pub id : mag r.id < 2 ^ 31
  pub message : mag r.message < 2 ^ 31
  pub ret : mag r.ret < 2 ^ 31

pub request_fits : (r : Request) → HasRequestNumbers r → IsSendable r → fit_members nothing_declared request_members (request_values r) ≡ true
unfolding request_members
request_fits r has h =
    and_from _ _ (short_fits r.version has.version) (and_from _ _ (byte_fits r.kind has.kind) (
    and_from _ _ (int_fits r.message has.message) (and_from _ _ (int_fits r.id has.id) (
    and_from _ _ (text_fits r.servant h.servant) (and_from _ _ (text_fits r.func h.func) (and_from _ _ (blob_fits r.body h.body) (
    and_from _ _ (int_fits r.timeout has.timeout) (and_from _ _ (texts_fit r.context h.context) (and_from _ _ (texts_fit r.status h.status) refl)))))))))

pub response_fits : (r : Response) → HasResponseNumbers r → IsAnswerable r → fit_members nothing_declared response_members (response_values r) ≡ true
unfolding response_members
response_fits r has h =
    and_from _ _ (short_fits r.version has.version) (and_from _ _ (byte_fits r.kind has.kind) (
    and_from _ _ (int_fits r.id has.id) (and_from _ _ (int_fits r.message has.message) (
    and_from _ _ (int_fits r.ret has.ret) (and_from _ _ (blob_fits r.body h.body) (
    and_from _ _ (texts_fit r.status h.status) (and_from _ _ (text_fits r.note h.note) refl)))))))

-- ---- the values one by one

pub same_request_values : (r : Request) (version kind message id timeout : ℤ) (context status : Value) → version ≡ r.version → kind ≡ r.kind → message ≡ r.message → id ≡ r.id
    → timeout ≡ r.timeout → context ≡ texts_value r.context → status ≡ texts_value r.status
    → Num version ∷ Num kind ∷ Num message ∷ Num id ∷ Text r.servant ∷ Text r.func ∷ Blob r.body ∷ Num timeout ∷ context ∷ status ∷ [] ≡ request_values r
same_request_values r version kind message id timeout context status is_version is_kind is_message is_id is_timeout is_context is_status =
    rw (is_version, is_kind, is_message, is_id, is_timeout, is_context, is_status) refl

pub same_response_values : (r : Response) (version kind id message ret : ℤ) (status : Value) → version ≡ r.version → kind ≡ r.kind → id ≡ r.id → message ≡ r.message
    → ret ≡ r.ret → status ≡ texts_value r.status
    → Num version ∷ Num kind ∷ Num id ∷ Num message ∷ Num ret ∷ Blob r.body ∷ status ∷ Text r.note ∷ [] ≡ response_values r
same_response_values r version kind id message ret status is_version is_kind is_id is_message is_ret is_status =
    rw (is_version, is_kind, is_id, is_message, is_ret, is_status) refl
