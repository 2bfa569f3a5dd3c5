-- What loading an interface file with those that it includes gives (docs/IDL.md, "Loading", "Rules" and "Schemas").
use Rattle.std.specs.Prelude.{◌≡◌, ℕ, Option, Some, None, Ok, Err, List, [], slice_get}
use Rattle.idl_load.specs.Loading.{Reading, Reads, load_of}
use Rattle.idl_load.specs.Loading as files
use Rattle.idl_load.specs.declared.file_fault.FileFault.{FileFault}
use Rattle.idl_parse.specs.Files.{File}
use Rattle.idl_scene.specs.Faults.{is_below}
use Rattle.idl_scene.specs.declared.check_fault.Fault.{Fault}
use Rattle.idl_rules.specs.Conditions.{faults_of}
use Rattle.idl_schema.specs.SchemaOf.{schema_of}
use Rattle.least_fault.specs.Least.{IsLeast}
use Rattle.schema_files.specs.Refusals.{refusal_line, file_fault, rule_fault}
use Rattle.tars_base.specs.Contents.{Contents}
use Rattle.tars_model.specs.Declarations.{Declared}

-- what the files declare, a refusal line, or the name of a file that is needed and not there
pub data SchemaAnswer : Type 0 where
  declared : Declared → SchemaAnswer
  refused : List ℕ → SchemaAnswer
  unread : List ℕ → SchemaAnswer

abbrev pub name_of : Option File → List ℕ
name_of None = []
name_of (Some file) = file.name

-- the name of the file of a number
abbrev pub name_at : List File → ℕ → List ℕ
name_at files number = name_of (slice_get files number)

-- Loading the file gives this answer. The files are read and judged one by one, and then by the rules: a broken rule is
-- told by the first fault, under the name of its file.
pub data LoadsSchema (contents : Contents) (file : List ℕ) : SchemaAnswer → Type 0 where
  no_file :
      (read : Reading) (name : List ℕ) → Reads contents read → load_of read file ≡ Err (files.unread name)
      → LoadsSchema contents file (unread name)
  bad_file :
      (read : Reading) (name : List ℕ) (fault : FileFault) → Reads contents read
      → load_of read file ≡ Err (files.refused name fault)
      → LoadsSchema contents file (refused (refusal_line name (file_fault fault)))
  broken_rule :
      (read : Reading) (found : List File) (fault : Fault) → Reads contents read → load_of read file ≡ Ok found
      → IsLeast is_below (faults_of found) fault
      → LoadsSchema contents file (refused (refusal_line (name_at found fault.file) (rule_fault fault)))
  schema :
      (read : Reading) (found : List File) → Reads contents read → load_of read file ≡ Ok found → faults_of found ≡ []
      → LoadsSchema contents file (declared (schema_of found))
