-- What a reader of hexadecimal text returns.
use Rattle.std.specs.Prelude.{◌≡◌, ℕ, Result, Ok, Err, List}
use Rattle.std.specs.declared.vec.Vec.{Vec}
use Rattle.hex_text.specs.HexText.{HexSpells, IsHexFault}
use Rattle.hex_text.specs.declared.hex_fault.HexFault.{HexFault}
use Rattle.hex_text.specs.declared.hex_fault.HexFault.TheVariants.{Bad, Memory}

-- what is returned is what the text has: its bytes, or its fault
abbrev pub IsJudged : {A : Type 0} → List ℕ → Result (Vec ℕ A) HexFault → Type 0
IsJudged text (Ok bytes) = HexSpells bytes.items text
IsJudged text (Err (Bad at)) = IsHexFault text at
IsJudged text (Err Memory) = Unit {0}

-- these bytes, unless memory ran out
abbrev pub GivesBytes : {A : Type 0} → Result (Vec ℕ A) HexFault → List ℕ → Type 0
GivesBytes (Ok own) bytes = own.items ≡ bytes
GivesBytes (Err (Bad at)) bytes = ⊥
GivesBytes (Err Memory) bytes = Unit {0}

-- this fault, unless memory ran out
abbrev pub GivesFault : {A : Type 0} → Result (Vec ℕ A) HexFault → ℕ → Type 0
GivesFault (Ok own) at = ⊥
GivesFault (Err (Bad own)) at = own ≡ at
GivesFault (Err Memory) at = Unit {0}
