-- What a text is that stands for a schema (docs/IDL.md, "Canonical text").
use Rattle.std.specs.Prelude.{◌≡◌, ℕ, List, [], ◌∷◌}
use Rattle.idl_parse.specs.Files.{File, IsFileText}
use Rattle.idl_parse.specs.declared.tree.module.Entry.{Entry}
use Rattle.idl_rules.specs.Conditions.{faults_of}
use Rattle.idl_schema.specs.SchemaOf.{schema_of}
use Rattle.tars_model.specs.Declarations.{Declared}

-- a file of some name alone
abbrev pub one_file : List ℕ → List ℕ → List Entry → List File
one_file name text entries = record { name = name; text = text; entries = entries } ∷ []

-- the text is a file, which under any name has no fault and declares this
abbrev pub DeclaresAlone : List ℕ → Declared → Type 0
DeclaresAlone text d =
    (entries : List Entry) × IsFileText text entries
    × ((name : List ℕ) → (faults_of (one_file name text entries) ≡ []) × (schema_of (one_file name text entries) ≡ d))
