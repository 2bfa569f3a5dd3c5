-- What decoding bytes results in is what they say, with the refusal where they say nothing.
use Rattle.std.proofs.Common.{◌≡◌, ◌<◌, ℕ, List, Ok, Err, ap}
use Rattle.std.specs.Prelude.{Result}
use Rattle.std.proofs.lemmas.List.Elements.{recursion_from_All}
use Rattle.wire_words.specs.Tree.{WireFields}
use Rattle.tars_model.specs.Declarations.{Declared}
use Rattle.tars_model.specs.declared.member.Member.{Member}
use Rattle.tars_model.specs.declared.value.Value.{Value}
use Rattle.tars_wire.specs.Faults.{IsFault}
use Rattle.tars_wire.specs.Heads.{MAX_DEPTH}
use Rattle.tars_wire.specs.Spelled.{IsBody, Spelled}
use Rattle.tars_wire.specs.declared.wire_fault.WireFault.{WireFault}
use Rattle.tars_wire.proofs.Machine.Faults.{same_faults}
use Rattle.tars_decode.specs.Decoding.{Answers, Judges}
use Rattle.tars_decode.specs.Reads.{Read, reads}
use Rattle.tars_decode.specs.declared.halt.Refusal.TheVariants as refusal
use Rattle.tars_decode.specs.declared.refuse.Refuse.{Refuse}
use Rattle.tars_decode.specs.declared.refuse.Refuse.TheVariants as refuse
use Rattle.wire_reading.specs.Readings.{AreBytes, Reading, body, no_body}
use Rattle.rpc_packet.specs.Bodies.{reading, refusal_told, decoded_in, decoded}
use Rattle.session_service.specs.Outcomes.{IsRead}

module _ (d : Declared) (members : List Member) (bytes : List ℕ) (small : AreBytes bytes) where
  read_as : (read : Read (List Value)) → IsBody bytes → ((fields : WireFields) → Spelled MAX_DEPTH bytes fields → reads d members fields ≡ read)
      → decoded d members bytes ≡ refusal_told read
  unfolding decoded
  read_as read is_body reads_as = by_reading (reading bytes)
    where
      by_reading : (r : Reading bytes) → decoded_in d members r ≡ refusal_told read
      by_reading (body fields spelled) = ap refusal_told (reads_as fields spelled)
      by_reading (no_body fault is) = absurd ((is small).no_body is_body)

  malformed : (fault : WireFault) → IsFault bytes fault → decoded d members bytes ≡ Err (refuse.Malformed fault)
  unfolding decoded
  malformed fault is_fault = by_reading (reading bytes)
    where
      by_reading : (r : Reading bytes) → decoded_in d members r ≡ Err (refuse.Malformed fault)
      by_reading (body fields spelled) = absurd (is_fault.no_body (record { fields = fields; spelled = spelled }))
      by_reading (no_body other is) = ap (λ f. Err (refuse.Malformed f)) (same_faults bytes (recursion_from_All (λ byte. byte < 256) bytes small) other fault (is small) is_fault)

  -- what is read under members is what the bytes say
  pub decoded_is : (r : Result (List Value) Refuse) → ((fields : WireFields) → Spelled MAX_DEPTH bytes fields → Answers r (reads d members fields))
      → Judges bytes r → IsRead r (decoded d members bytes)
  decoded_is (Ok values) answers judged = read_as (Ok values) judged answers
  decoded_is (Err (refuse.Malformed fault)) answers judged = malformed fault judged
  decoded_is (Err (refuse.Missing path)) answers judged = read_as (Err (refusal.Missing path)) judged answers
  decoded_is (Err (refuse.Mismatch path why)) answers judged = read_as (Err (refusal.Mismatch path why)) judged answers
  decoded_is (Err refuse.Memory) answers judged = record {}
