use Rattle.std.proofs.Common.{◌≡◌, ◌≤◌, ◌∙◌, List, length, sym, ap, subst}
use Rattle.std.specs.List.{All}
use Rattle.tars_model.specs.Members.{MAX_PARAMS}
use Rattle.tars_model.specs.declared.func_desc.FuncDesc.{FuncDesc}
use Rattle.tars_model.specs.declared.interface_desc.InterfaceDesc.{InterfaceDesc}
use Rattle.session_service.proofs.Functions.{interface_over}
use Rattle.session_service.proofs.service.funcs_of.Goals as goal

abbrev AllFew : List FuncDesc → Type 0
AllFew funcs = All (λ (func : FuncDesc). length func.params ≤ MAX_PARAMS) funcs

funcs_are : {i j : InterfaceDesc} {funcs : List FuncDesc} → funcs ≡ i.funcs → j ≡ i → j.funcs ≡ funcs
funcs_are e is = ap (λ (i : InterfaceDesc). i.funcs) is ∙ sym e

pub returns-clause-params : goal.returns-clause-params
returns-clause-params c =
    let over = interface_over c.args.session.now c.requires c.order-order.ensures.rules c.index-interfaces-session.result (rw c.interfaces.ensures at c.index-interfaces-session.is) in
    subst AllFew (funcs_are c.as_slice.ensures c.index-interfaces-session.is) (λ k func within. (over.funcs k func within).few)
