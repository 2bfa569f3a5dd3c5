-- What loading the interface files of a script gives (docs/SCRIPTS.md, "Scripts").
use Rattle.std.specs.Prelude.{◌≡◌, ℕ, List, Some, None}
use Rattle.schema_files.specs.SchemaLoading.{LoadsSchema}
use Rattle.schema_files.specs.SchemaLoading as schema
use Rattle.script_lines.specs.Scripts.{Script}
use Rattle.tars_base.specs.Contents.{Contents}
use Rattle.tars_model.specs.Declarations.{Declared}

-- the schemas of the client and the server, a refusal line, or the name of a file that is needed and not there
pub data SidesAnswer : Type 0 where
  sides : Declared → Declared → SidesAnswer
  refused : List ℕ → SidesAnswer
  unread : List ℕ → SidesAnswer

-- Loading the interface files of a script gives this answer: first the client's, of what files hold then; and then the server's, where
-- a line names one, of what files hold by then. Else the client's schema is the server's too.
pub data LoadsSides (first later : Contents) (s : Script) : SidesAnswer → Type 0 where
  no_client : (name : List ℕ) → LoadsSchema first s.client (schema.unread name) → LoadsSides first later s (unread name)
  bad_client : (line : List ℕ) → LoadsSchema first s.client (schema.refused line) → LoadsSides first later s (refused line)
  one_file :
      (client : Declared) → LoadsSchema first s.client (schema.declared client) → s.server ≡ None → LoadsSides first later s (sides client client)
  no_server :
      (client : Declared) (server name : List ℕ) → LoadsSchema first s.client (schema.declared client) → s.server ≡ Some server
      → LoadsSchema later server (schema.unread name) → LoadsSides first later s (unread name)
  bad_server :
      (client : Declared) (server line : List ℕ) → LoadsSchema first s.client (schema.declared client) → s.server ≡ Some server
      → LoadsSchema later server (schema.refused line) → LoadsSides first later s (refused line)
  two_files :
      (client own : Declared) (server : List ℕ) → LoadsSchema first s.client (schema.declared client) → s.server ≡ Some server
      → LoadsSchema later server (schema.declared own) → LoadsSides first later s (sides client own)
