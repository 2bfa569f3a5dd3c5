use Rattle.std.proofs.Common.{◌≤◌, length, List, slice_index_or, sym, subst}
use Rattle.tars_model.specs.declared.func_desc.FuncDesc.{FuncDesc}
use Rattle.tars_model.specs.declared.interface_desc.InterfaceDesc.{InterfaceDesc}
use Rattle.servant_core.proofs.Functions.{funcs_over}
use Rattle.servant_core.proofs.funcs.funcs_of.Goals as goal

pub returns-clause-few : goal.returns-clause-few
returns-clause-few c =
    let over = funcs_over c.order-order.ensures.rules c.args.interface c.index-interfaces-interface.result c.requires in
    subst (λ (funcs : List FuncDesc). length funcs ≤ 256) (sym c.as_slice.ensures)
    (subst (λ (interfaces : List InterfaceDesc). length (slice_index_or interfaces c.args.interface c.index-interfaces-interface.result).funcs ≤ 256)
    (sym c.interfaces.ensures) over.few)
