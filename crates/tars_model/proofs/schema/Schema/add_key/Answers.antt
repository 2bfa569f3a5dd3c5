use Rattle.std.proofs.Common.{refl}
use Rattle.tars_model.specs.Schemas.{key}
use Rattle.tars_model.proofs.schema.Schema.add_key.Goals as goal

pub invariant_of-self-2 : goal.invariant_of-self-2
invariant_of-self-2 c = rw (c.in_ok-declare.ensures.kind, c.in_ok-declare.ensures.order, c.len-number.ensures) (key c.self.invariant (rw (← c.self.view_is) at c.requires) refl)
