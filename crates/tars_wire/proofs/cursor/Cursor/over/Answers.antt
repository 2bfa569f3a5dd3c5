use Rattle.std.proofs.Common.{[], ◌∷◌, refl, arith}
use Rattle.tars_wire.specs.Left.{fields_left}
use Rattle.tars_wire.proofs.cursor.Cursor.over.Goals as goal

pub invariant_of-result : goal.invariant_of-result
invariant_of-result c =
    record { deep = omega arith; left = fields_left c.requires.fields ∷ []; spelled = ([], (0, c.requires.spelled, refl), refl) }
