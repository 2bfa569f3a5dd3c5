-- What a call that loads files returns, beside what loading gives (specs/Loading.antt).
use Rattle.std.specs.Prelude.{◌≡◌, List, Option, Result, Ok, Err}
use Rattle.idl_parse.specs.Files.{File}
use Rattle.idl_load.specs.Loading.{Reading, Reads, Stop, refused}
use Rattle.idl_load.specs.declared.files_fault.FilesFault.{FilesFault}
use Rattle.idl_load.specs.declared.files_fault.FilesFault.TheVariants as files
use Rattle.tars_base.specs.Contents.{Contents, AreTold}

-- this holds of what is read of some contents, which are those of the files where they are told
abbrev pub ForRead : Option Contents → (Reading → Type 0) → Type 0
ForRead told P = (seen : Contents) × AreTold told seen × ((read : Reading) → Reads seen read → P read)

-- what loading gives, by an error; a failed read and want of memory say nothing
abbrev pub IsErrGiven : {A : Type 0} → FilesFault → Result A Stop → Type 0
IsErrGiven (files.Refused name fault) given = given ≡ Err (refused name fault)
IsErrGiven files.Read given = Unit {0}
IsErrGiven files.Memory given = Unit {0}

-- the files that loading gives, or why it gives none
abbrev pub HasLoaded : Result (List File) FilesFault → Result (List File) Stop → Type 0
HasLoaded (Ok found) given = given ≡ Ok found
HasLoaded (Err e) given = IsErrGiven e given
