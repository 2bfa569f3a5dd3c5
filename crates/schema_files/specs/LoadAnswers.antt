-- What a call of loading returns, beside what loading gives (specs/FileReading.antt and specs/SchemaLoading.antt).
use Rattle.std.specs.Prelude.{◌≡◌, ℕ, List, Result, Ok, Err}
use Rattle.std.specs.declared.vec.Vec.{Vec}
use Rattle.schema_files.specs.FileReading.{ReadsFile}
use Rattle.schema_files.specs.FileReading as file
use Rattle.schema_files.specs.SchemaLoading.{LoadsSchema}
use Rattle.schema_files.specs.SchemaLoading as schema
use Rattle.schema_files.specs.declared.load_fault.LoadFault.{LoadFault}
use Rattle.schema_files.specs.declared.load_fault.LoadFault.TheVariants.{Refused, Read, Memory}
use Rattle.tars_base.specs.Contents.{Contents, HoldsOnly}
use Rattle.tars_model.specs.Declarations.{Declared}

-- a fault refuses a text by this line, or tells that there was no memory for it
abbrev pub IsRefusedBy : List ℕ → LoadFault → Type 0
IsRefusedBy line (Refused own) = own ≡ line
IsRefusedBy line Read = ⊥
IsRefusedBy line Memory = Unit {0}

-- bytes or a refusal are what reading the file gives, and nothing else is; a failed read and want of memory say nothing
abbrev pub IsFileAnswered : {A : Type 0} → Contents → List ℕ → Result (Vec ℕ A) LoadFault → Type 0
IsFileAnswered contents name (Ok bytes) = HoldsOnly (ReadsFile contents name) (file.whole bytes.items)
IsFileAnswered contents name (Err (Refused line)) = HoldsOnly (ReadsFile contents name) (file.refused line)
IsFileAnswered contents name (Err Read) = Unit {0}
IsFileAnswered contents name (Err Memory) = Unit {0}

-- the same of a schema or a refusal, and of what loading the file gives
abbrev pub IsSchemaAnswered : Contents → List ℕ → Result Declared LoadFault → Type 0
IsSchemaAnswered contents file (Ok d) = HoldsOnly (LoadsSchema contents file) (schema.declared d)
IsSchemaAnswered contents file (Err (Refused line)) = HoldsOnly (LoadsSchema contents file) (schema.refused line)
IsSchemaAnswered contents file (Err Read) = Unit {0}
IsSchemaAnswered contents file (Err Memory) = Unit {0}
