-- The functions of an interface, by their names (docs/SCRIPTS.md, "Scripts").
use Rattle.std.specs.Prelude.{◌≡◌, ◌≤◌, ℕ, Some, List, length, map, slice_get}
use Rattle.tars_model.specs.Members.{MAX_PARAMS}
use Rattle.tars_model.specs.Names.{AllDiffer}
use Rattle.tars_model.specs.declared.func_desc.FuncDesc.{FuncDesc}
use Rattle.tars_model.specs.declared.func_desc.Param.{Param}

-- the function of this number has the name
abbrev pub IsFunctionOf : List FuncDesc → List ℕ → ℕ → Type 0
IsFunctionOf funcs name number = (func : FuncDesc) × (slice_get funcs number ≡ Some func) × (func.name ≡ name)

-- few functions, no two of one name: so it is in a schema
pub record AreFuncs (funcs : List FuncDesc) : Type 0 where
  pub few : length funcs ≤ 256
  pub names_differ : AllDiffer (map (λ (f : FuncDesc). f.name) funcs)

-- few parameters, no two of one name: so it is in a schema
pub record AreParams (params : List Param) : Type 0 where
  pub few : length params ≤ MAX_PARAMS
  pub names_differ : AllDiffer (map (λ (p : Param). p.name) params)
