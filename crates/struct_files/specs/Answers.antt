-- What a command on a struct gives, and what a call of it returns.
use Rattle.std.specs.Prelude.{ℕ, List, Result, Ok, Err}
use Rattle.std.specs.declared.vec.Vec.{Vec}
use Rattle.schema_files.specs.declared.load_fault.LoadFault.{LoadFault}
use Rattle.schema_files.specs.declared.load_fault.LoadFault.TheVariants.{Refused, Read, Memory}
use Rattle.struct_files.specs.Opening as opening
use Rattle.struct_files.specs.Opening.{Opens}
use Rattle.tars_base.specs.Contents.{Held, HoldsOnly}
use Rattle.tars_model.specs.Declarations.{Declared}

-- a line that is printed, a refusal line, or the name of a file that is needed and not there
pub data TextAnswer : Type 0 where
  done : List ℕ → TextAnswer
  refused : List ℕ → TextAnswer
  unread : List ℕ → TextAnswer

-- Files that are not opened are the answer. Else it is what the text of the values comes to.
pub data Gives (Comes : Declared → ℕ → List ℕ → TextAnswer → Type 0) (held : Held) (file home name values : List ℕ) : TextAnswer → Type 0 where
  no_file :
      (missing : List ℕ) → Opens held file home name values (opening.unread missing)
      → Gives Comes held file home name values (unread missing)
  bad_file :
      (line : List ℕ) → Opens held file home name values (opening.refused line)
      → Gives Comes held file home name values (refused line)
  both_files :
      (d : Declared) (number : ℕ) (text : List ℕ) (answer : TextAnswer)
      → Opens held file home name values (opening.opened d number text) → Comes d number text answer
      → Gives Comes held file home name values answer

-- A line or a refusal is the answer, and nothing else is. A failed read and want of memory say nothing of it.
abbrev pub IsAnswered : {A : Type 0} → (TextAnswer → Type 0) → Result (Vec ℕ A) LoadFault → Type 0
IsAnswered Given (Ok line) = HoldsOnly Given (done line.items)
IsAnswered Given (Err (Refused line)) = HoldsOnly Given (refused line)
IsAnswered Given (Err Read) = Unit {0}
IsAnswered Given (Err Memory) = Unit {0}
