-- When a struct's value is one of its type.
use Rattle.std.proofs.Common.{◌≡◌, ℕ, List, map, refl, ap, ◌∙◌}
use Rattle.tars_model.specs.Declarations.{Declared, members_at}
use Rattle.tars_model.specs.Values.{told, fits, fits_struct, fit_members}
use Rattle.tars_model.specs.declared.ty.Ty.TheVariants.{Struct, outs-Struct}
use Rattle.tars_model.specs.declared.value.Value.{Value}
use Rattle.tars_model.specs.declared.value.Value.TheVariants as value
use Rattle.tars_model.proofs.CallerLemmas.{told_fits_struct}

pub struct_fits : (d : Declared) (number : ℕ) (vs : List Value) → fits d (Struct number) (value.Struct vs) ≡ fit_members d (members_at d number) vs
struct_fits d number vs = told_fits_struct (value.Struct vs) d (Struct number) vs refl ∙ ap (fits_struct (map told vs) d) (outs-Struct number)
