-- For the proofs: what the calls of loading make of the errors of others.
use Rattle.std.specs.Prelude.{◌≡◌, List}
use Rattle.idl_check.specs.declared.check_fault.CheckFault.{CheckFault}
use Rattle.idl_check.specs.declared.check_fault.CheckFault.TheVariants as checks
use Rattle.idl_load.specs.declared.files_fault.FilesFault.{FilesFault}
use Rattle.idl_load.specs.declared.files_fault.FilesFault.TheVariants as files
use Rattle.idl_parse.specs.Files.{File}
use Rattle.schema_files.specs.LoadAnswers.{IsRefusedBy}
use Rattle.schema_files.specs.Refusals.{refusal_line, file_fault, rule_fault}
use Rattle.schema_files.specs.SchemaLoading.{name_at}
use Rattle.schema_files.specs.declared.load_fault.LoadFault.{LoadFault}
use Rattle.schema_files.specs.declared.load_fault.LoadFault.TheVariants.{Read, Memory}
use Rattle.tars_base.specs.declared.fault.ReadFault.{ReadFault}
use Rattle.tars_base.specs.declared.fault.ReadFault.TheVariants as reads

-- what a fault of the files is to one who loads
abbrev pub fault_of : ReadFault → LoadFault
fault_of reads.Failed = Read
fault_of reads.Memory = Memory

-- what files that were not loaded are to one who loads their schema
abbrev pub IsNotLoaded : FilesFault → LoadFault → Type 0
IsNotLoaded (files.Refused name fault) answer = IsRefusedBy (refusal_line name (file_fault fault)) answer
IsNotLoaded files.Read answer = answer ≡ Read
IsNotLoaded files.Memory answer = answer ≡ Memory

-- what files that break a rule are to one who loads their schema
abbrev pub IsNotChecked : List File → CheckFault → LoadFault → Type 0
IsNotChecked found (checks.Bad file at why) answer =
    IsRefusedBy (refusal_line (name_at found file) (rule_fault (record { file = file; at = at; why = why }))) answer
IsNotChecked found checks.Memory answer = answer ≡ Memory
