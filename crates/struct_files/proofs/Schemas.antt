-- A schema has at most 1,024 structs.
use Rattle.std.proofs.Common.{◌≤◌, [], ◌∷◌, length, sym, subst, arith, length-append}
use Rattle.tars_model.specs.Declarations.{Declared}
use Rattle.tars_model.specs.Schemas.{IsSchema}
use Rattle.tars_model.specs.Schemas.IsSchema.{nothing, struct, enum, const, key, interface}

abbrev Few : Declared → Type 0
Few d = length d.structs ≤ 1024

pub few_structs : (d : Declared) → IsSchema d → Few d
few_structs d (nothing is) = subst Few (sym is) (omega arith)
few_structs d (struct {d = before} {s = s} schema fits is) = subst Few (sym is) (omega (arith, fits.room, length-append before.structs (s ∷ [])))
few_structs d (enum {d = before} schema fits is) = subst Few (sym is) (few_structs before schema)
few_structs d (const {d = before} schema fits is) = subst Few (sym is) (few_structs before schema)
few_structs d (key {d = before} schema fits is) = subst Few (sym is) (few_structs before schema)
few_structs d (interface {d = before} schema fits is) = subst Few (sym is) (few_structs before schema)
