-- The fault of bytes that are no body (docs/PROTOCOL.md, "The offset of a fault").
use Rattle.std.specs.Prelude.{◌≡◌, ◌<◌, ℕ, suc, List, ◌++◌, length, take, codes}
use Rattle.std.specs.Fmt.{decimal}
use Rattle.longest_prefix.specs.Prefixes.{Begins, FaultAt}
use Rattle.tars_wire.specs.declared.wire_fault.WireWhy.{WireWhy}
use Rattle.tars_wire.specs.declared.wire_fault.WireWhy.TheVariants as why
use Rattle.tars_wire.specs.declared.wire_fault.WireFault.{WireFault}
use Rattle.tars_wire.specs.Spelled.{Rules, TYPES, SIZES, FIXED_TAGS, RISING_TAGS, ALL, IsBodyBy, IsBody}

-- Some bytes that keep these rules begin with all bytes up to this offset and the one there.
abbrev pub Keeps : Rules → List ℕ → ℕ → Type 0
Keeps rules bytes offset = Begins (IsBodyBy rules) (take (suc offset) bytes)

-- No bytes that keep these rules do.
abbrev pub Breaks : Rules → List ℕ → ℕ → Type 0
Breaks rules bytes offset = Keeps rules bytes offset → ⊥

-- The first rule that the byte at the offset breaks: those of types, then of sizes, of fixed tags, of rising
-- tags, and of the depth. Short, where there is no byte.
abbrev pub IsReason : WireWhy → List ℕ → ℕ → Type 0
IsReason why.Short bytes offset = offset ≡ length bytes
IsReason why.BadType bytes offset = (offset < length bytes) × Breaks TYPES bytes offset
IsReason why.BadSize bytes offset = (offset < length bytes) × Keeps TYPES bytes offset × Breaks SIZES bytes offset
IsReason why.BadTag bytes offset = (offset < length bytes) × Keeps SIZES bytes offset × Breaks FIXED_TAGS bytes offset
IsReason why.Order bytes offset = (offset < length bytes) × Keeps FIXED_TAGS bytes offset × Breaks RISING_TAGS bytes offset
IsReason why.Depth bytes offset = (offset < length bytes) × Keeps RISING_TAGS bytes offset × Breaks ALL bytes offset

-- The bytes are no body. The offset is the length of the longest prefix that some body goes on from, and the
-- reason is what the byte there breaks.
pub record IsFault (bytes : List ℕ) (fault : WireFault) : Type 0 where
  pub no_body : IsBody bytes → ⊥
  pub offset : FaultAt IsBody bytes fault.at
  pub reason : IsReason fault.why bytes fault.at

abbrev pub HasFault : List ℕ → Type 0
HasFault bytes = (fault : WireFault) × IsFault bytes fault

-- a reason's number in faults that are printed
abbrev pub number_of : WireWhy → ℕ
number_of why.Short = 1
number_of why.BadType = 2
number_of why.BadSize = 3
number_of why.BadTag = 4
number_of why.Order = 5
number_of why.Depth = 6

-- its word, and a fault in words
abbrev pub word_of : WireWhy → List ℕ
word_of why.Short = codes "short"
word_of why.BadType = codes "bad type"
word_of why.BadSize = codes "bad size"
word_of why.BadTag = codes "bad tag"
word_of why.Order = codes "order"
word_of why.Depth = codes "depth"

abbrev pub words_of : WireFault → List ℕ
words_of fault = word_of fault.why ++ codes " at " ++ decimal fault.at
