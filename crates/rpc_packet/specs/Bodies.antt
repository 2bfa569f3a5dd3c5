-- What bytes say under members (docs/PROTOCOL.md, "Reading" and "Reading members").
use Rattle.std.specs.Prelude.{ℕ, Option, Some, None, Result, Ok, Err, List}
use Rattle.tars_model.specs.Declarations.{Declared}
use Rattle.tars_model.specs.declared.member.Member.{Member}
use Rattle.tars_model.specs.declared.value.Value.{Value}
use Rattle.tars_decode.specs.Reads.{Read, reads}
use Rattle.tars_decode.specs.declared.halt.Refusal.TheVariants as refusal
use Rattle.tars_decode.specs.declared.refuse.Refuse.{Refuse}
use Rattle.tars_decode.specs.declared.refuse.Refuse.TheVariants as refuse
use Rattle.wire_reading.specs.Readings.{Reading, body, no_body}
use Rattle.wire_reading.proofs.Told.{told}

-- What bytes are. All that is to be known of it is in its type: bytes are a body in one way at most (`one_reading` of `tars_wire`).
unfoldable pub reading : (bytes : List ℕ) → Reading bytes
reading bytes = told bytes

abbrev pub unless_refused : Read (List Value) → Option (List Value)
unless_refused (Ok values) = Some values
unless_refused (Err refusal) = None

abbrev pub values_in : {bytes : List ℕ} → Declared → List Member → Reading bytes → Option (List Value)
values_in d members (body fields spelled) = unless_refused (reads d members fields)
values_in d members (no_body fault is) = None

-- the values of members in bytes; None where these are no body or are refused
unfoldable pub values_of : Declared → List Member → List ℕ → Option (List Value)
values_of d members bytes = values_in d members (reading bytes)

-- a refusal of reading, as it is told
abbrev pub refusal_told : Read (List Value) → Result (List Value) Refuse
refusal_told (Ok values) = Ok values
refusal_told (Err (refusal.Missing path)) = Err (refuse.Missing path)
refusal_told (Err (refusal.Mismatch path why)) = Err (refuse.Mismatch path why)

abbrev pub decoded_in : {bytes : List ℕ} → Declared → List Member → Reading bytes → Result (List Value) Refuse
decoded_in d members (body fields spelled) = refusal_told (reads d members fields)
decoded_in d members (no_body fault is) = Err (refuse.Malformed fault)

-- the same with the refusal where there are no values
unfoldable pub decoded : Declared → List Member → List ℕ → Result (List Value) Refuse
decoded d members bytes = decoded_in d members (reading bytes)
