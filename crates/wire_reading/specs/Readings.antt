-- What bytes are: a body with its fields, or none, with its fault (docs/PROTOCOL.md, "Reading").
use Rattle.std.specs.Prelude.{◌<◌, ℕ, List, All}
use Rattle.wire_words.specs.Tree.{WireFields}
use Rattle.tars_wire.specs.Faults.{IsFault}
use Rattle.tars_wire.specs.Heads.{MAX_DEPTH}
use Rattle.tars_wire.specs.Spelled.{Spelled}
use Rattle.tars_wire.specs.declared.wire_fault.WireFault.{WireFault}

abbrev pub AreBytes : List ℕ → Type 0
AreBytes bytes = All (λ byte. byte < 256) bytes

-- what bytes are: a body with these fields, or no body, with this fault
pub data Reading (bytes : List ℕ) : Type 0 where
  body : (fields : WireFields) → Spelled MAX_DEPTH bytes fields → Reading bytes
  no_body : (fault : WireFault) → (AreBytes bytes → IsFault bytes fault) → Reading bytes
