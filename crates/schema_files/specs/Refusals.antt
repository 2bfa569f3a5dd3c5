-- Why a text is refused, and the line that says so (docs/SCRIPTS.md, "Refusals").
use Rattle.std.specs.Prelude.{ℕ, List, ◌++◌, codes}
use Rattle.std.specs.Fmt.{decimal}
use Rattle.idl_load.specs.declared.file_fault.FileFault.{FileFault}
use Rattle.idl_load.specs.declared.file_fault.FileFault.TheVariants as file
use Rattle.idl_lex.specs.LexWhy.{number_of}
use Rattle.idl_parse.specs.ParseWhy.{number_of as parse_number_of}
use Rattle.idl_scene.specs.Faults.{number_of as rule_number_of}
use Rattle.idl_scene.specs.declared.check_fault.CheckWhy.TheVariants.{TooMany}
use Rattle.idl_scene.specs.declared.check_fault.Fault.{Fault}
use Rattle.schema_files.specs.declared.stage.Stage.{Stage}
use Rattle.schema_files.specs.declared.stage.Stage.TheVariants.{Size, Lex, Parse, Check, Script, Value, Hex, Struct}
use Rattle.schema_files.specs.declared.text_fault.TextFault.{TextFault}
use Rattle.tars_base.specs.Limits.{MAX_FILE}

-- how a stage is written
abbrev pub stage_text : Stage → List ℕ
stage_text Size = codes "size"
stage_text Lex = codes "lex"
stage_text Parse = codes "parse"
stage_text Check = codes "check"
stage_text Script = codes "script"
stage_text Value = codes "value"
stage_text Hex = codes "hex"
stage_text Struct = codes "struct"

-- `refused FILE STAGE NUMBER OFFSET`
unfoldable pub refusal_line : List ℕ → TextFault → List ℕ
refusal_line name fault =
    codes "refused " ++ name ++ codes " " ++ stage_text fault.stage ++ codes " " ++ decimal fault.number ++ codes " "
    ++ decimal fault.offset ++ codes "\n"

abbrev pub fault_at : Stage → ℕ → ℕ → TextFault
fault_at stage number offset = record { stage = stage; number = number; offset = offset }

-- a file has more bytes than a file may have
abbrev pub too_long : TextFault
too_long = fault_at Size 1 MAX_FILE

-- what is wrong with an interface file, or with what it includes
abbrev pub file_fault : FileFault → TextFault
file_fault file.TooLong = too_long
file_fault (file.Lex at why) = fault_at Lex (number_of why) at
file_fault (file.Parse at why) = fault_at Parse (parse_number_of why) at
file_fault (file.TooManyFiles at) = fault_at Check (rule_number_of TooMany) at

-- a rule that interface files break
abbrev pub rule_fault : Fault → TextFault
rule_fault fault = fault_at Check (rule_number_of fault.why) fault.at
