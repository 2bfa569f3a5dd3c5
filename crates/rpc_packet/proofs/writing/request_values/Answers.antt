use Rattle.std.proofs.Common.{◌≡◌, List, true, sym, subst, rules}
use Rattle.tars_model.specs.Declarations.{nothing_declared}
use Rattle.tars_model.specs.Values.{fit_members}
use Rattle.tars_model.specs.declared.value.Value.{Value}
use Rattle.rpc_packet.specs.Packets.{request_members}
use Rattle.rpc_packet.proofs.Taken.{wide_byte, wide_short, wide_int}
use Rattle.rpc_packet.proofs.ValuesFit.{HasRequestNumbers, request_fits, same_request_values}
use Rattle.rpc_packet.proofs.writing.request_values.Goals as goal

numbers : (c : goal.After-from-5) → HasRequestNumbers c.args.request
numbers c = record { version = search rules; kind = search rules; message = search rules; id = search rules; timeout = search rules }

pub returns-clause-value : goal.returns-clause-value
returns-clause-value c =
    let r = c.args.request in
    let n = numbers c in
    same_request_values r _ _ _ _ _ c.in_ok-context.context c.in_ok-status.status
    (wide_short c.from.result r.version c.from.type_inv c.from.ensures n.version) (wide_byte c.from-2.result r.kind c.from-2.type_inv c.from-2.ensures n.kind)
    (wide_int c.from-3.result r.message c.from-3.type_inv c.from-3.ensures n.message) (wide_int c.from-4.result r.id c.from-4.type_inv c.from-4.ensures n.id)
    (wide_int c.from-5.result r.timeout c.from-5.type_inv c.from-5.ensures n.timeout) c.in_ok-context.ensures c.in_ok-status.ensures

pub returns-clause-fits : goal.returns-clause-fits
returns-clause-fits c =
    subst (λ (values : List Value). fit_members nothing_declared request_members values ≡ true) (sym (returns-clause-value c)) (request_fits c.args.request (numbers c) c.requires)
