-- What a call that loads a script returns, beside what loading gives (specs/Loading.antt).
use Rattle.std.specs.Prelude.{ℕ, List, Result, Ok, Err}
use Rattle.schema_files.specs.declared.load_fault.LoadFault.{LoadFault}
use Rattle.schema_files.specs.declared.load_fault.LoadFault.TheVariants.{Refused, Read, Memory}
use Rattle.script_load.specs.Loading.{Loads, loaded, refused}
use Rattle.script_session.specs.declared.session.Session.{Session}
use Rattle.tars_base.specs.Contents.{Held, HoldsOnly}

-- a session or a refusal is what loading the script gives, and nothing else is; a failed read and want of memory say nothing
abbrev pub IsAnswered : Held → List ℕ → Result Session LoadFault → Type 0
IsAnswered held script (Ok l) = HoldsOnly (Loads held script) (loaded l)
IsAnswered held script (Err (Refused line)) = HoldsOnly (Loads held script) (refused line)
IsAnswered held script (Err Read) = Unit {0}
IsAnswered held script (Err Memory) = Unit {0}
