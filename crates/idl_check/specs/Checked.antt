-- What checking returns of interface files (docs/IDL.md, "Rules" and "Schemas").
use Rattle.std.specs.Prelude.{◌≡◌, List, [], Result, Ok, Err}
use Rattle.idl_check.specs.declared.check_fault.CheckFault.{CheckFault}
use Rattle.idl_check.specs.declared.check_fault.CheckFault.TheVariants.{Bad, Memory}
use Rattle.idl_parse.specs.Files.{File}
use Rattle.idl_scene.specs.Faults.{is_below}
use Rattle.idl_rules.specs.Conditions.{faults_of}
use Rattle.idl_schema.specs.SchemaOf.{schema_of}
use Rattle.least_fault.specs.Least.{IsLeast}
use Rattle.tars_model.specs.Declarations.{Declared}

-- the schema of files without a fault, or the first fault of others
abbrev pub IsChecked : List File → Result Declared CheckFault → Type 0
IsChecked files (Ok schema) = (faults_of files ≡ []) × (schema ≡ schema_of files)
IsChecked files (Err (Bad file at why)) = IsLeast is_below (faults_of files) (record { file = file; at = at; why = why })
IsChecked files (Err Memory) = Unit {0}
