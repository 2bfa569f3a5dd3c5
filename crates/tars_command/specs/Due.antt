-- What a command should do, by what the files hold.
use Rattle.std.specs.Prelude.{ℕ, List}
use Rattle.canonical_text.specs.Canonical.{canonical}
use Rattle.command_words.specs.Words.{AskForCheck, AskForPlan, AskForEncode, AskForDecode, AskForCompat, AreNoForm}
use Rattle.run_course.specs.Planned.{planned}
use Rattle.run_report.specs.ReportText.{report_text_of}
use Rattle.schema_files.specs.SchemaLoading as schema
use Rattle.schema_files.specs.SchemaLoading.{SchemaAnswer, LoadsSchema}
use Rattle.script_load.specs.Loading as load
use Rattle.script_load.specs.Loading.{LoadAnswer, Loads}
use Rattle.struct_files.specs.Answers as text
use Rattle.struct_files.specs.Answers.{TextAnswer}
use Rattle.struct_files.specs.Comparing.{ComparesFiles}
use Rattle.struct_files.specs.Decoding.{DecodesFile}
use Rattle.struct_files.specs.Encoding.{EncodesFile}
use Rattle.schema_kept.specs.Written.{HoldBytes}
use Rattle.tars_base.specs.Contents.{Held}

-- nothing but that the words are no command; a refusal line; a file that is needed and not there; all
-- that is printed
pub data DueAnswer : Type 0 where
  usage : DueAnswer
  refused : List ℕ → DueAnswer
  unread : List ℕ → DueAnswer
  done : List ℕ → DueAnswer

-- of an interface file that is loaded the schema is printed
abbrev pub due_of_schema : SchemaAnswer → DueAnswer
due_of_schema (schema.declared d) = done (canonical d)
due_of_schema (schema.refused line) = refused line
due_of_schema (schema.unread name) = unread name

-- of a script that is loaded the report of its session
abbrev pub due_of_script : LoadAnswer → DueAnswer
due_of_script (load.loaded l) = done (report_text_of l (planned l))
due_of_script (load.refused line) = refused line
due_of_script (load.unread name) = unread name

-- of a struct a line
abbrev pub due_of_text : TextAnswer → DueAnswer
due_of_text (text.done line) = done line
due_of_text (text.refused line) = refused line
due_of_text (text.unread name) = unread name

-- The words should be answered so. What an interface file gives is said by `LoadsSchema`, what a script gives by `Loads`,
-- what the values of a struct give by `EncodesFile` and `DecodesFile`, what two versions of one give by `ComparesFiles`.
pub data Due (held : Held) (words : List (List ℕ)) : DueAnswer → Type 0 where
  no_form : AreNoForm words → Due held words usage
  check :
      (file : List ℕ) (answer : SchemaAnswer) → AskForCheck words file → LoadsSchema (held 0) file answer
      → Due held words (due_of_schema answer)
  plan :
      (script : List ℕ) (answer : LoadAnswer) → AskForPlan words script → Loads held script answer
      → Due held words (due_of_script answer)
  encode :
      (file home name values : List ℕ) (answer : TextAnswer) → AskForEncode words file home name values
      → EncodesFile held file home name values answer → Due held words (due_of_text answer)
  decode :
      (file home name hex : List ℕ) (answer : TextAnswer) → AskForDecode words file home name hex
      → DecodesFile held file home name hex answer → Due held words (due_of_text answer)
  compat :
      (old new home name : List ℕ) (answer : TextAnswer) → AskForCompat words old new home name
      → ComparesFiles held old new home name answer → Due held words (due_of_text answer)

-- where `encode` is asked for, the files hold bytes when its interface file is read
abbrev pub AskedOfBytes : Held → List (List ℕ) → Type 0
AskedOfBytes held words = (file home name values : List ℕ) → AskForEncode words file home name values → HoldBytes (held 0)
