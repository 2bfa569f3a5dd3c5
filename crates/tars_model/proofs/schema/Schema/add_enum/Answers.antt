use Rattle.std.proofs.Common.{refl}
use Rattle.tars_model.specs.Schemas.{enum}
use Rattle.tars_model.proofs.schema.Schema.add_enum.Goals as goal

pub invariant_of-self-2 : goal.invariant_of-self-2
invariant_of-self-2 c = rw (c.in_ok-declare.ensures.kind, c.in_ok-declare.ensures.order, c.len-number.ensures) (enum c.self.invariant (rw (← c.self.view_is) at c.requires) refl)
