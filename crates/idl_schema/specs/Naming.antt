-- For the proofs: the names of structs and enums, as the code finds them.
use Rattle.std.specs.Prelude.{◌≡◌, ℕ, Bool, ◌&&◌, List, map}
use Rattle.std.specs.Str.{bytes_eq}
use Rattle.tars_model.specs.Declarations.{Declared}
use Rattle.tars_model.specs.declared.enum_desc.EnumDesc.{EnumDesc}
use Rattle.tars_model.specs.declared.struct_desc.StructDesc.{StructDesc}
use Rattle.idl_schema.specs.declared.building.Building.{Building}

-- the module and the name are these
abbrev pub is_name : List ℕ → List ℕ → List ℕ × List ℕ → Bool
is_name home name n = bytes_eq home n.0 && bytes_eq name n.1

abbrev pub struct_names : Declared → List (List ℕ × List ℕ)
struct_names d = map (λ (s : StructDesc). (s.module, s.name)) d.structs

abbrev pub enum_names : Declared → List (List ℕ × List ℕ)
enum_names d = map (λ (e : EnumDesc). (e.module, e.name)) d.enums

-- the names that are kept are those that are declared
pub record IsNamed (g : Building) : Type 0 where
  pub structs : g.structs ≡ struct_names g.schema
  pub enums : g.enums ≡ enum_names g.schema
