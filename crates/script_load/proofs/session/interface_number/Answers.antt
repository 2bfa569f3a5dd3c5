use Rattle.std.proofs.Common.{List, length, ap, arith}
use Rattle.tars_model.specs.declared.interface_desc.InterfaceDesc.{InterfaceDesc}
use Rattle.script_load.proofs.SchemaSides.{are_few}
use Rattle.script_load.proofs.session.interface_number.Goals as goal

pub overflow_cast-result : goal.overflow_cast-result
overflow_cast-result c =
    let few = are_few c.args.schema.now c.order.ensures.rules in
    omega (arith, few, c.in_ok-place.ensures.within, ap (λ (is : List InterfaceDesc). length is) c.interfaces.ensures)
