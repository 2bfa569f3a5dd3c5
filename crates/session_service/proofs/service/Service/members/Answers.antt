use Rattle.std.proofs.Common.{◌≡◌, arith, sym, subst}
use Rattle.std.proofs.lemmas.Grind.{common_steps}
use Rattle.tars_model.specs.Schemas.{IsSchema}
use Rattle.tars_decode.specs.Decoding.{MembersFit}
use Rattle.script_session.specs.Sessions.{func_of}
use Rattle.session_service.specs.Made.{members_of}
use Rattle.session_service.specs.declared.func_members.FuncMembers.{FuncMembers}
use Rattle.session_service.proofs.Functions.{call_arguments_fit, call_reply_fit}
use Rattle.session_service.proofs.service.Service.members.Goals as goal

pub returns-clause-arguments : goal.returns-clause-arguments
returns-clause-arguments c =
    let is : c.index.result.now ≡ members_of (func_of c.args.self.now c.args.func) = grind (arith, common_steps) in
    let schema : IsSchema c.args.self.now.client = rw c.session.ensures.value at c.order-order.ensures.rules in
    subst (λ (m : FuncMembers). MembersFit c.args.self.now.client m.arguments) (sym is) (call_arguments_fit c.args.self.now schema c.args.func c.requires)

pub returns-clause-reply : goal.returns-clause-reply
returns-clause-reply c =
    let is : c.index.result.now ≡ members_of (func_of c.args.self.now c.args.func) = grind (arith, common_steps) in
    let schema : IsSchema c.args.self.now.client = rw c.session.ensures.value at c.order-order.ensures.rules in
    subst (λ (m : FuncMembers). MembersFit c.args.self.now.client m.reply) (sym is) (call_reply_fit c.args.self.now schema c.args.func c.requires)
