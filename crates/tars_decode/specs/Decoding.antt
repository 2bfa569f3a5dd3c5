-- What reading bytes results in (docs/PROTOCOL.md, "Reading members").
use Rattle.std.specs.Prelude.{◌≡◌, ℕ, true, false, Result, Ok, Err, List}
use Rattle.std.specs.List.{All}
use Rattle.tars_model.specs.Declarations.{Declared}
use Rattle.tars_model.specs.Members.{HaveRisingTags}
use Rattle.tars_model.specs.Values.{fits}
use Rattle.tars_model.specs.declared.member.Member.{Member}
use Rattle.tars_model.specs.declared.value.Value.{Value}
use Rattle.tars_wire.specs.Spelled.{IsBody}
use Rattle.tars_wire.specs.Faults.{IsFault}
use Rattle.tars_decode.specs.declared.halt.Refusal.TheVariants as refusal
use Rattle.tars_decode.specs.declared.refuse.Refuse.{Refuse}
use Rattle.tars_decode.specs.declared.refuse.Refuse.TheVariants as refuse
use Rattle.tars_decode.specs.Reads.{Read}

-- an optional member's default is one of its type
abbrev pub DefaultFits : Declared → Member → Type 0
DefaultFits d m = m.require ≡ false → fits d m.ty m.default ≡ true

-- members that may be read: their tags rise, and what is taken for an absent one is of its type
pub record MembersFit (d : Declared) (members : List Member) : Type 0 where
  pub rising : HaveRisingTags members
  pub defaults : All (DefaultFits d) members

-- The result is what is read, unless memory ran out.
abbrev pub Answers : Result (List Value) Refuse → Read (List Value) → Type 0
Answers (Ok values) read = read ≡ Ok values
Answers (Err (refuse.Missing path)) read = read ≡ Err (refusal.Missing path)
Answers (Err (refuse.Mismatch path why)) read = read ≡ Err (refusal.Mismatch path why)
Answers (Err (refuse.Malformed fault)) read = ⊥
Answers (Err refuse.Memory) read = Unit {0}

-- What a result says of the bytes: they are a body, or have this fault.
abbrev pub Judges : List ℕ → Result (List Value) Refuse → Type 0
Judges bytes (Ok values) = IsBody bytes
Judges bytes (Err (refuse.Missing path)) = IsBody bytes
Judges bytes (Err (refuse.Mismatch path why)) = IsBody bytes
Judges bytes (Err (refuse.Malformed fault)) = IsFault bytes fault
Judges bytes (Err refuse.Memory) = Unit {0}
