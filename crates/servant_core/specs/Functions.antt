-- The functions of an interface (docs/IDL.md, "Schemas").
use Rattle.std.specs.Prelude.{ℕ, Option, Some, None, List, [], slice_get}
use Rattle.tars_model.specs.Declarations.{Declared}
use Rattle.tars_model.specs.declared.func_desc.FuncDesc.{FuncDesc}
use Rattle.tars_model.specs.declared.interface_desc.InterfaceDesc.{InterfaceDesc}

-- those of an interface, if there is one
abbrev pub functions_in : Option InterfaceDesc → List FuncDesc
functions_in None = []
functions_in (Some i) = i.funcs

-- those of the interface of a number
abbrev pub functions_of : Declared → ℕ → List FuncDesc
functions_of d interface = functions_in (slice_get d.interfaces interface)
