-- The interface of a script in the schemas of both sides (docs/SCRIPTS.md, "Scripts").
use Rattle.std.specs.Prelude.{ℕ, Bool, ◌&&◌, Option, Some, None, List, [], position}
use Rattle.std.specs.Str.{bytes_eq}
use Rattle.script_lines.specs.Scripts.{InterfaceLine}
use Rattle.servant_core.specs.Functions.{functions_of}
use Rattle.tars_model.specs.Declarations.{Declared}
use Rattle.tars_model.specs.declared.func_desc.FuncDesc.{FuncDesc}
use Rattle.tars_model.specs.declared.interface_desc.InterfaceDesc.{InterfaceDesc}

-- it has the module and the name that the line gives
abbrev pub is_named : InterfaceLine → InterfaceDesc → Bool
is_named line i = bytes_eq line.home i.«module» && bytes_eq line.name i.name

-- the number of the first interface of the line's module and name
abbrev pub interface_number : Declared → InterfaceLine → Option ℕ
interface_number d line = position (is_named line) d.interfaces

abbrev pub funcs_at : Declared → Option ℕ → List FuncDesc
funcs_at d None = []
funcs_at d (Some number) = functions_of d number

-- the functions of that interface; a schema without it has none
abbrev pub funcs_named : Declared → InterfaceLine → List FuncDesc
funcs_named d line = funcs_at d (interface_number d line)
