-- What the two files of a command on the values of a struct give (docs/SCRIPTS.md, "Values of a struct").
use Rattle.std.specs.Prelude.{ℕ, List}
use Rattle.schema_files.specs.FileReading as reading
use Rattle.schema_files.specs.FileReading.{ReadsFile}
use Rattle.struct_files.specs.Finding as finding
use Rattle.struct_files.specs.Finding.{Finds}
use Rattle.tars_base.specs.Contents.{Held}
use Rattle.tars_model.specs.Declarations.{Declared}

-- what is declared, the number of the struct there, and the text of its values; a refusal line; or the name of a file
-- that is needed and not there
pub data Opening : Type 0 where
  opened : Declared → ℕ → List ℕ → Opening
  refused : List ℕ → Opening
  unread : List ℕ → Opening

-- Opening the files for the struct `home::name` gives this. The struct is found in the interface file before the file with
-- its values is read. Files may change in between: each is read of what they hold then.
pub data Opens (held : Held) (file home name values : List ℕ) : Opening → Type 0 where
  no_interface :
      (missing : List ℕ) → Finds (held 0) file home name (finding.unread missing)
      → Opens held file home name values (unread missing)
  no_struct :
      (line : List ℕ) → Finds (held 0) file home name (finding.refused line)
      → Opens held file home name values (refused line)
  no_values :
      (d : Declared) (number : ℕ) (missing : List ℕ) → Finds (held 0) file home name (finding.found d number)
      → ReadsFile (held 1) values (reading.unread missing) → Opens held file home name values (unread missing)
  bad_values :
      (d : Declared) (number : ℕ) (line : List ℕ) → Finds (held 0) file home name (finding.found d number)
      → ReadsFile (held 1) values (reading.refused line) → Opens held file home name values (refused line)
  struct_and_values :
      (d : Declared) (number : ℕ) (text : List ℕ) → Finds (held 0) file home name (finding.found d number)
      → ReadsFile (held 1) values (reading.whole text) → Opens held file home name values (opened d number text)
