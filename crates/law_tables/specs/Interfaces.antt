-- The interfaces that are added to a schema.
use Rattle.std.specs.Prelude.{ℕ, List, [], codes}
use Rattle.tars_model.specs.declared.interface_desc.InterfaceDesc.{InterfaceDesc}

-- an interface of the module `M` that has no functions
abbrev pub plain_interface : List ℕ → InterfaceDesc
plain_interface name = record { «module» = codes "M"; name = name; funcs = [] }
