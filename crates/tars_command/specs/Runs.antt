-- How a run ends and what it leaves in the sink, against what is due.
use Rattle.std.specs.Prelude.{ℕ, ◌⊎◌, List, Option}
use Rattle.tars_base.specs.Contents.{Held, Appends, AppendsPrefix, Keeps}
use Rattle.tars_base.specs.declared.status.Status.{Status}
use Rattle.tars_base.specs.declared.status.Status.TheVariants.{Done, Refused, Usage, ReadFault, WriteFault, Memory}
use Rattle.tars_command.specs.Due.{DueAnswer, usage, refused, done, Due}

-- a text that is due: all that is printed, or the refusal line
abbrev pub IsDueText : Held → List (List ℕ) → List ℕ → Type 0
IsDueText held words text = Due held words (done text) ⊎ Due held words (refused text)

-- what was written is what was due, or a prefix of it where a write failed
abbrev pub WritesDue : Held → List (List ℕ) → Option (List ℕ) → Option (List ℕ) → Status → Type 0
WritesDue held words old new Done = (text : List ℕ) × Due held words (done text) × Appends old new text
WritesDue held words old new Refused = (line : List ℕ) × Due held words (refused line) × Appends old new line
WritesDue held words old new WriteFault = (text : List ℕ) × IsDueText held words text × AppendsPrefix old new text
WritesDue held words old new _ = Unit {0}

-- a run may end so where this is due
abbrev pub MayEnd : DueAnswer → Status → Type 0
MayEnd usage Usage = Unit {0}
MayEnd usage Memory = Unit {0}
MayEnd (refused line) Refused = Unit {0}
MayEnd (refused line) WriteFault = Unit {0}
MayEnd (done text) Done = Unit {0}
MayEnd (done text) WriteFault = Unit {0}
MayEnd usage _ = ⊥
MayEnd _ ReadFault = Unit {0}
MayEnd _ Memory = Unit {0}
MayEnd _ _ = ⊥

-- the run ends as it may for all that is due
abbrev pub EndsAsDue : Held → List (List ℕ) → Status → Type 0
EndsAsDue held words status = (answer : DueAnswer) → Due held words answer → MayEnd answer status

-- what ends otherwise than with a text leaves the sink as it was
abbrev pub KeepsQuiet : Option (List ℕ) → Option (List ℕ) → Status → Type 0
KeepsQuiet old new Done = Unit {0}
KeepsQuiet old new Refused = Unit {0}
KeepsQuiet old new WriteFault = Unit {0}
KeepsQuiet old new _ = Keeps old new
