use Rattle.std.proofs.Common.{◌<◌, ◌∙◌, ap, subst}
use Rattle.std.proofs.lemmas.List.Elements.{All-from_get_or}
use Rattle.rpc_packet.specs.Bodies.{decoded}
use Rattle.script_session.specs.declared.session.Session.{Session}
use Rattle.session_service.specs.Outcomes.{IsRead}
use Rattle.session_service.specs.declared.func_members.FuncMembers.{FuncMembers}
use Rattle.session_service.proofs.Decoded.{decoded_is}
use Rattle.session_service.proofs.service.Service.reply_values.Goals as goal

pub returns : goal.returns
returns c =
    let client = c.session.result.now.client in
    let members = c.as_slice-members.result.now in
    let body = c.args.body.now in
    subst (λ said. IsRead c.decode.result said)
    (ap (λ (s : Session). decoded s.client members body) c.session.ensures.value
    ∙ ap (λ ms. decoded c.args.self.now.client ms body) (c.as_slice-members.ensures ∙ ap (λ (m : FuncMembers). m.reply) c.members.ensures.members))
    (decoded_is client members body (All-from_get_or (λ byte. byte < 256) body 0 (λ i within. (c.type_inv.body i).fits)) c.decode.result c.decode.ensures.reads c.decode.ensures.judged)
