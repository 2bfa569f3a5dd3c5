-- How reading and writing of packets come out.
use Rattle.std.specs.Prelude.{◌≡◌, ◌<◌, ◌≤◌, ◌^◌, ◌-◌, ℕ, min, true, map, Option, Some, None, Result, Ok, Err, List, length}
use Rattle.std.specs.List.{AllByRecursion}
use Rattle.wire_words.specs.Tree.{WireFields}
use Rattle.tars_model.specs.Declarations.{nothing_declared}
use Rattle.tars_model.specs.Values.{a_text, keys_rise}
use Rattle.tars_model.specs.declared.member.Member.{Member}
use Rattle.tars_frames.specs.Streams.{LONGEST}
use Rattle.tars_wire.specs.Faults.{IsFault}
use Rattle.tars_wire.specs.Heads.{MAX_DEPTH}
use Rattle.tars_wire.specs.Spelled.{Spelled}
use Rattle.tars_decode.specs.Reads.{reads}
use Rattle.tars_decode.specs.declared.halt.Refusal.{Refusal}
use Rattle.tars_decode.specs.declared.halt.Refusal.TheVariants as refusal
use Rattle.tars_decode.specs.declared.refuse.Refuse.{Refuse}
use Rattle.tars_decode.specs.declared.refuse.Refuse.TheVariants as refuse
use Rattle.rpc_packet.specs.declared.request.Request.{Request}
use Rattle.rpc_packet.specs.declared.response.Response.{Response}
use Rattle.rpc_packet.specs.declared.text_pair.TextPair.{TextPair}
use Rattle.rpc_packet.specs.declared.write_refusal.WriteRefusal.{WriteRefusal}
use Rattle.rpc_packet.specs.declared.write_refusal.WriteRefusal.TheVariants.{TooLong, Memory}

-- What is read is what is returned; it is none where bytes are refused. Want of memory says nothing.
abbrev pub IsReadAs : {A : Type 0} → Result A Refuse → Option A → Type 0
IsReadAs (Ok a) read = read ≡ Some a
IsReadAs (Err (refuse.Malformed fault)) read = read ≡ None
IsReadAs (Err (refuse.Missing path)) read = read ≡ None
IsReadAs (Err (refuse.Mismatch path why)) read = read ≡ None
IsReadAs (Err refuse.Memory) read = Unit {0}

-- the reading of the members in these bytes ends in this refusal
abbrev pub EndsIn : List Member → List ℕ → Refusal → Type 0
EndsIn members bytes why = (fields : WireFields) × Spelled MAX_DEPTH bytes fields × (reads nothing_declared members fields ≡ Err why)

-- a refusal has its cause: bytes are no body and have this fault, or reading the members of the body ends in it
abbrev pub Refuses : List Member → List ℕ → Refuse → Type 0
Refuses members bytes (refuse.Malformed fault) = IsFault bytes fault
Refuses members bytes (refuse.Missing path) = EndsIn members bytes (refusal.Missing path)
Refuses members bytes (refuse.Mismatch path why) = EndsIn members bytes (refusal.Mismatch path why)
Refuses members bytes refuse.Memory = Unit {0}

-- a key and a value are as long as texts may be
abbrev pub IsShort : TextPair → Type 0
IsShort p = (length p.key < 2 ^ 32) × (length p.value < 2 ^ 32)

-- the entries of a map of texts: fewer than 2^31, and their keys rise, byte by byte
pub record AreTexts (texts : List TextPair) : Type 0 where
  pub few : length texts < 2 ^ 31
  pub rise : keys_rise (map (λ (p : TextPair). a_text p.key) texts) ≡ true
  pub short : AllByRecursion IsShort texts

-- texts, the body and maps fit their types
pub record IsSendable (r : Request) : Type 0 where
  pub servant : length r.servant < 2 ^ 32
  pub func : length r.func < 2 ^ 32
  pub body : length r.body < 2 ^ 31
  pub context : AreTexts r.context
  pub status : AreTexts r.status

pub record IsAnswerable (r : Response) : Type 0 where
  pub body : length r.body < 2 ^ 31
  pub status : AreTexts r.status
  pub note : length r.note < 2 ^ 32

-- a frame is written where it is no longer than a packet may be, and else its length is told
abbrev pub IsWithin : {A : Type 0} → List ℕ → Result A WriteRefusal → Type 0
IsWithin frame (Ok written) = length frame ≤ LONGEST
IsWithin frame (Err (TooLong told)) = (LONGEST < length frame) × (told ≡ min (length frame) (2 ^ 64 - 1))
IsWithin frame (Err Memory) = Unit {0}
