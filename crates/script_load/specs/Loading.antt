-- What loading a script gives (docs/SCRIPTS.md, "Scripts" and "Faults of scripts").
use Rattle.std.specs.Prelude.{ℕ, List}
use Rattle.schema_files.specs.FileReading.{ReadsFile}
use Rattle.schema_files.specs.FileReading as file
use Rattle.schema_files.specs.Refusals.{refusal_line}
use Rattle.script_lines.specs.Scripts.{Script, IsScript, IsScriptFault}
use Rattle.script_lines.specs.declared.fault.ScriptFault.{ScriptFault}
use Rattle.script_session.specs.declared.session.Session.{Session}
use Rattle.tars_base.specs.Contents.{Held}
use Rattle.tars_model.specs.Declarations.{Declared}
use Rattle.script_load.specs.LineFaults.{IsFirstFault}
use Rattle.script_load.specs.Sessions.{IsSession}
use Rattle.script_load.specs.SidesLoading.{LoadsSides}
use Rattle.script_load.specs.SidesLoading as side
use Rattle.script_load.specs.TextFaults.{form_fault, line_fault}
use Rattle.script_load.specs.declared.faults.LineFault.{LineFault}

-- a session, a refusal line, or the name of a file that is needed and not there
pub data LoadAnswer : Type 0 where
  loaded : Session → LoadAnswer
  refused : List ℕ → LoadAnswer
  unread : List ℕ → LoadAnswer

-- Loading a script gives this answer. The script is judged as a text before its interface files are loaded, and those before names and
-- values. Files may change in between: the script is read of what they hold first, the client's interface file of what they hold then,
-- and the server's of what they hold after that.
pub data Loads (held : Held) (script : List ℕ) : LoadAnswer → Type 0 where
  no_script : (name : List ℕ) → ReadsFile (held 0) script (file.unread name) → Loads held script (unread name)
  long_script : (line : List ℕ) → ReadsFile (held 0) script (file.refused line) → Loads held script (refused line)
  bad_form :
      (text : List ℕ) (fault : ScriptFault) → ReadsFile (held 0) script (file.whole text) → IsScriptFault text fault
      → Loads held script (refused (refusal_line script (form_fault fault)))
  no_interface :
      (text name : List ℕ) (s : Script) → ReadsFile (held 0) script (file.whole text) → IsScript text s
      → LoadsSides (held 1) (held 2) s (side.unread name) → Loads held script (unread name)
  bad_interface :
      (text line : List ℕ) (s : Script) → ReadsFile (held 0) script (file.whole text) → IsScript text s
      → LoadsSides (held 1) (held 2) s (side.refused line) → Loads held script (refused line)
  bad_line :
      (text : List ℕ) (s : Script) (client server : Declared) (fault : LineFault) → ReadsFile (held 0) script (file.whole text)
      → IsScript text s → LoadsSides (held 1) (held 2) s (side.sides client server) → IsFirstFault client server s fault
      → Loads held script (refused (refusal_line script (line_fault fault)))
  session :
      (text : List ℕ) (s : Script) (client server : Declared) (l : Session) → ReadsFile (held 0) script (file.whole text)
      → IsScript text s → LoadsSides (held 1) (held 2) s (side.sides client server) → IsSession s client server l
      → Loads held script (loaded l)
