use Rattle.std.proofs.Common.{refl}
use Rattle.tars_model.specs.Schemas.{interface}
use Rattle.tars_model.proofs.schema.Schema.add_interface.Goals as goal

pub invariant_of-self-2 : goal.invariant_of-self-2
invariant_of-self-2 c = rw (c.in_ok-declare.ensures.kind, c.in_ok-declare.ensures.order, c.len-number.ensures) (interface c.self.invariant (rw (← c.self.view_is) at c.requires) refl)
