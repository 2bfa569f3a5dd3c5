-- For the proofs: what references hold.
use Rattle.std.specs.Prelude.{Option, option_map}
use Rattle.std.specs.Borrow.{Bor}
use Rattle.tars_model.specs.declared.func_desc.FuncDesc.{FuncDesc}

-- a function that may be there
abbrev pub func_of : Option (Bor FuncDesc) → Option FuncDesc
func_of func = option_map (λ f. f.now) func
