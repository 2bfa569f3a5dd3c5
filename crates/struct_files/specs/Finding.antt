-- What an interface file gives to one who looks for a struct that it declares (docs/SCRIPTS.md, "Values of a struct").
use Rattle.std.specs.Prelude.{◌≡◌, ℕ, Some, None, List}
use Rattle.idl_schema.specs.SchemaOf.{struct_number}
use Rattle.schema_files.specs.Refusals.{refusal_line, fault_at}
use Rattle.schema_files.specs.SchemaLoading as schema
use Rattle.schema_files.specs.SchemaLoading.{LoadsSchema}
use Rattle.schema_files.specs.declared.stage.Stage.TheVariants.{Struct}
use Rattle.schema_files.specs.declared.text_fault.TextFault.{TextFault}
use Rattle.tars_base.specs.Contents.{Contents}
use Rattle.tars_model.specs.Declarations.{Declared}

-- what is declared, with the number of the struct there; a refusal line; or the name of a file that is needed and not there
pub data Finding : Type 0 where
  found : Declared → ℕ → Finding
  refused : List ℕ → Finding
  unread : List ℕ → Finding

-- an interface file does not declare the struct
abbrev pub unknown_struct : TextFault
unknown_struct = fault_at Struct 1 0

-- Looking for the struct `home::name` in the interface file gives this. The file is loaded, with those that it includes, and
-- judged before the struct is looked up.
pub data Finds (contents : Contents) (file home name : List ℕ) : Finding → Type 0 where
  no_interface :
      (missing : List ℕ) → LoadsSchema contents file (schema.unread missing) → Finds contents file home name (unread missing)
  bad_interface :
      (line : List ℕ) → LoadsSchema contents file (schema.refused line) → Finds contents file home name (refused line)
  no_struct :
      (d : Declared) → LoadsSchema contents file (schema.declared d) → struct_number d home name ≡ None
      → Finds contents file home name (refused (refusal_line file unknown_struct))
  struct :
      (d : Declared) (number : ℕ) → LoadsSchema contents file (schema.declared d) → struct_number d home name ≡ Some number
      → Finds contents file home name (found d number)
