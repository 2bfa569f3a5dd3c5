-- What `decode` answers, as what bytes say under members.
use Rattle.std.proofs.Common.{◌≡◌, ◌-◌, ℕ, Option, None, option_map, Result, Ok, Err, List, IfErr, length, take, drop, refl, ap, arith}
use Rattle.std.proofs.lemmas.List.{take_all, length-drop}
use Rattle.wire_words.specs.Tree.{WireFields}
use Rattle.tars_model.specs.Declarations.{nothing_declared}
use Rattle.tars_model.specs.declared.member.Member.{Member}
use Rattle.tars_model.specs.declared.value.Value.{Value}
use Rattle.tars_wire.specs.Heads.{MAX_DEPTH}
use Rattle.tars_wire.specs.Spelled.{IsBody, Spelled}
use Rattle.tars_decode.specs.Decoding.{Answers, Judges}
use Rattle.tars_decode.specs.Reads.{Read, reads}
use Rattle.tars_decode.specs.declared.refuse.Refuse.{Refuse}
use Rattle.tars_decode.specs.declared.refuse.Refuse.TheVariants as refuse
use Rattle.wire_reading.specs.Readings.{AreBytes, Reading, body, no_body}
use Rattle.rpc_packet.specs.Bodies.{reading, unless_refused, values_in, values_of}
use Rattle.rpc_packet.specs.Outcomes.{IsReadAs, Refuses}

-- a body's reading is the answer
answer_read : (result : Result (List Value) Refuse) (read : Read (List Value)) → Answers result read → IsReadAs result (unless_refused read)
answer_read (Ok values) read e = ap unless_refused e
answer_read (Err (refuse.Missing path)) read e = ap unless_refused e
answer_read (Err (refuse.Mismatch path why)) read e = ap unless_refused e
answer_read (Err (refuse.Malformed fault)) read e = absurd e
answer_read (Err refuse.Memory) read e = tt

-- what is no body gives no values
none_read : (bytes : List ℕ) (result : Result (List Value) Refuse) → Judges bytes result → (IsBody bytes → ⊥) → IsReadAs result None
none_read bytes (Ok values) judged none = absurd (none judged)
none_read bytes (Err (refuse.Missing path)) judged none = refl
none_read bytes (Err (refuse.Mismatch path why)) judged none = refl
none_read bytes (Err (refuse.Malformed fault)) judged none = refl
none_read bytes (Err refuse.Memory) judged none = tt

abbrev pub Each : List Member → List ℕ → Result (List Value) Refuse → Type 0
Each members bytes result = (fields : WireFields) → Spelled MAX_DEPTH bytes fields → Answers result (reads nothing_declared members fields)

pub values_read : (members : List Member) (bytes : List ℕ) (result : Result (List Value) Refuse) → AreBytes bytes → Each members bytes result → Judges bytes result → IsReadAs result (values_of nothing_declared members bytes)
unfolding values_of
values_read members bytes result are each judged = by_reading (reading bytes)
  where
    by_reading : (r : Reading bytes) → IsReadAs result (values_in nothing_declared members r)
    by_reading (body fields spelled) = answer_read result (reads nothing_declared members fields) (each fields spelled)
    by_reading (no_body fault is) = none_read bytes result judged (is are).no_body

pub values_refused : (members : List Member) (bytes : List ℕ) (result : Result (List Value) Refuse) → Each members bytes result → Judges bytes result → IfErr result (Refuses members bytes)
values_refused members bytes (Ok values) each judged = tt
values_refused members bytes (Err (refuse.Missing path)) each judged = (judged.fields, judged.spelled, each judged.fields judged.spelled)
values_refused members bytes (Err (refuse.Mismatch path why)) each judged = (judged.fields, judged.spelled, each judged.fields judged.spelled)
values_refused members bytes (Err (refuse.Malformed fault)) each judged = judged
values_refused members bytes (Err refuse.Memory) each judged = tt

-- what stands after the length
pub after_length : (packet : List ℕ) → take (length packet - 4) (drop 4 packet) ≡ drop 4 packet
after_length packet = take_all (length packet - 4) (drop 4 packet) (omega (arith, length-drop 4 packet))

-- a refusal of values is one of what they give
pub refused_too : {A B : Type 0} (f : A → B) (why : Refuse) (read : Option A) → IsReadAs {A = A} (Err why) read → IsReadAs {A = B} (Err why) (option_map f read)
refused_too f (refuse.Malformed fault) read e = ap (option_map f) e
refused_too f (refuse.Missing path) read e = ap (option_map f) e
refused_too f (refuse.Mismatch path why) read e = ap (option_map f) e
refused_too f refuse.Memory read e = tt
