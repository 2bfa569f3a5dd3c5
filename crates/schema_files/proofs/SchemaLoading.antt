-- What loading an interface file gives of what the files held, by what was read of them.
use Rattle.std.proofs.Common.{◌≡◌, ◌<◌, ◌≤◌, ◌^◌, ◌*◌, ℕ, List, [], ◌∷◌, length, Option, sym, subst, arith}
use Rattle.std.specs.Prelude.{Result, Ok, Err}
use Rattle.std.specs.List.{All}
use Rattle.std.proofs.lemmas.List.Elements.{All-head, All-tail}
use Rattle.idl_check.specs.Checked.{IsChecked}
use Rattle.idl_check.specs.declared.check_fault.CheckFault.{CheckFault}
use Rattle.idl_check.specs.declared.check_fault.CheckFault.TheVariants as checks
use Rattle.idl_load.specs.LoadAnswers.{ForRead, HasLoaded}
use Rattle.idl_load.specs.Loading.{MAX_FILES, load_of}
use Rattle.idl_load.specs.declared.files_fault.FilesFault.{FilesFault}
use Rattle.idl_load.specs.declared.files_fault.FilesFault.TheVariants as files
use Rattle.idl_load.proofs.Readings.{some_reading}
use Rattle.idl_parse.specs.Files.{File}
use Rattle.idl_schema.specs.Lengths.{total_length}
use Rattle.schema_files.specs.LoadAnswers.{IsRefusedBy, IsSchemaAnswered}
use Rattle.schema_files.specs.LoadSteps.{IsNotLoaded, IsNotChecked}
use Rattle.schema_files.specs.Refusals.{refusal_line, file_fault}
use Rattle.schema_files.specs.SchemaLoading.{declared, refused, schema, LoadsSchema, bad_file, broken_rule}
use Rattle.schema_files.specs.declared.load_fault.LoadFault.{LoadFault}
use Rattle.schema_files.specs.declared.load_fault.LoadFault.TheVariants.{Refused, Read, Memory}
use Rattle.schema_files.proofs.OneSchema.{only_schema}
use Rattle.tars_base.specs.Contents.{Contents, AreTold}
use Rattle.tars_base.specs.Limits.{MAX_FILE}
use Rattle.tars_model.specs.Declarations.{Declared}

abbrev IsShort : File → Type 0
IsShort file = length file.text ≤ MAX_FILE

at_most : (found : List File) → All IsShort found → total_length found ≤ length found * MAX_FILE
at_most [] short = omega arith
at_most (file ∷ found) short =
    let first = All-head IsShort file found short in
    let rest = at_most found (All-tail IsShort file found short) in
    omega (arith, first, rest)

-- so many files of at most so many bytes
pub files_short : (found : List File) → length found ≤ MAX_FILES → All IsShort found → total_length found < 2 ^ 32
files_short found few short = let most = at_most found short in omega (arith, few, most)

-- what loading the schema returned, for some contents
abbrev pub ForSchema : Option Contents → List ℕ → Result Declared LoadFault → Type 0
ForSchema told file result = (seen : Contents) × AreTold told seen × IsSchemaAnswered seen file result

by_line : (seen : Contents) (file line : List ℕ) (fault : LoadFault) → LoadsSchema seen file (refused line) → IsRefusedBy line fault → IsSchemaAnswered seen file (Err fault)
by_line seen file line (Refused own) holds by = only_schema seen file (refused own) (subst (λ (l : List ℕ). LoadsSchema seen file (refused l)) (sym by) holds)
by_line seen file line Read holds by = tt
by_line seen file line Memory holds by = tt

pub not_loaded : (told : Option Contents) (file : List ℕ) (e : FilesFault) (fault : LoadFault) → ForRead told (λ read. HasLoaded (Err e) (load_of read file)) → IsNotLoaded e fault → ForSchema told file (Err fault)
not_loaded told file (files.Refused name what) fault given by =
    let r = some_reading given.0 in
    (given.0, given.1, by_line given.0 file (refusal_line name (file_fault what)) fault (bad_file r.0 name what r.1 (given.2 r.0 r.1)) by)
not_loaded told file files.Read fault given by = (given.0, given.1, subst (λ (x : LoadFault). IsSchemaAnswered given.0 file (Err x)) (sym by) tt)
not_loaded told file files.Memory fault given by = (given.0, given.1, subst (λ (x : LoadFault). IsSchemaAnswered given.0 file (Err x)) (sym by) tt)

pub not_checked : (told : Option Contents) (file : List ℕ) (found : List File) (e : CheckFault) (fault : LoadFault) → ForRead told (λ read. load_of read file ≡ Ok found) → IsChecked found (Err e) → IsNotChecked found e fault → ForSchema told file (Err fault)
not_checked told file found (checks.Bad number at why) fault given least by =
    let r = some_reading given.0 in
    (given.0, given.1, by_line given.0 file _ fault (broken_rule r.0 found (record { file = number; at = at; why = why }) r.1 (given.2 r.0 r.1) least) by)
not_checked told file found checks.Memory fault given least by = (given.0, given.1, subst (λ (x : LoadFault). IsSchemaAnswered given.0 file (Err x)) (sym by) tt)

pub checked : (told : Option Contents) (file : List ℕ) (found : List File) (d : Declared) → ForRead told (λ read. load_of read file ≡ Ok found) → IsChecked found (Ok d) → ForSchema told file (Ok d)
checked told file found d given is =
    let r = some_reading given.0 in
    let holds = schema r.0 found r.1 (given.2 r.0 r.1) is.0 in
    (given.0, given.1, only_schema given.0 file (declared d) (subst (λ (x : Declared). LoadsSchema given.0 file (declared x)) (sym is.1) holds))
