-- For the proofs: what the functions of src/command.rt return to one another.
use Rattle.std.specs.Prelude.{◌≡◌, ℕ, ◌⊎◌, List, Option, Result, Ok, Err}
use Rattle.std.specs.declared.vec.Vec.{Vec}
use Rattle.command_words.specs.Asked.{Asked, check, plan, encode, decode, compat}
use Rattle.schema_files.specs.SchemaLoading.{SchemaAnswer, LoadsSchema}
use Rattle.schema_files.specs.declared.load_fault.LoadFault.{LoadFault}
use Rattle.schema_files.specs.declared.load_fault.LoadFault.TheVariants as faults
use Rattle.script_load.specs.Loading.{LoadAnswer, Loads}
use Rattle.struct_files.specs.Answers.{TextAnswer}
use Rattle.struct_files.specs.Comparing.{ComparesFiles}
use Rattle.struct_files.specs.Decoding.{DecodesFile}
use Rattle.struct_files.specs.Encoding.{EncodesFile}
use Rattle.tars_base.specs.Contents.{Held, Appends, AppendsPrefix}
use Rattle.tars_base.specs.declared.status.Status.{Status}
use Rattle.tars_base.specs.declared.status.Status.TheVariants.{WriteFault}
use Rattle.tars_command.specs.Due.{DueAnswer, refused, done, due_of_schema, due_of_script, due_of_text}

-- what is due where this is asked for
pub data Comes (held : Held) : Asked → DueAnswer → Type 0 where
  checked : {file : List ℕ} (answer : SchemaAnswer) → LoadsSchema (held 0) file answer → Comes held (check file) (due_of_schema answer)
  run : {script : List ℕ} (answer : LoadAnswer) → Loads held script answer → Comes held (plan script) (due_of_script answer)
  encoded : {file home name values : List ℕ} (answer : TextAnswer) → EncodesFile held file home name values answer → Comes held (encode file home name values) (due_of_text answer)
  decoded : {file home name hex : List ℕ} (answer : TextAnswer) → DecodesFile held file home name hex answer → Comes held (decode file home name hex) (due_of_text answer)
  compared : {old new home name : List ℕ} (answer : TextAnswer) → ComparesFiles held old new home name answer → Comes held (compat old new home name) (due_of_text answer)

-- a text, or a refusal, is what is due; a failed read and want of memory say nothing of it
abbrev pub IsComing : {A : Type 0} → Held → Asked → Result (Vec ℕ A) LoadFault → Type 0
IsComing held asked (Ok text) = Comes held asked (done text.items)
IsComing held asked (Err (faults.Refused line)) = Comes held asked (refused line)
IsComing held asked (Err faults.Read) = Unit {0}
IsComing held asked (Err faults.Memory) = Unit {0}

-- after a text was written a run ends with the status meant, or with a write fault after a prefix of it
abbrev pub EndsWith : Option (List ℕ) → Option (List ℕ) → List ℕ → Status → Status → Type 0
EndsWith old new text meant status =
    ((status ≡ meant) × Appends old new text) ⊎ ((status ≡ WriteFault) × AppendsPrefix old new text)
