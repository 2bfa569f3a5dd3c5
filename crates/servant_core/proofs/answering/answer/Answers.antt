use Rattle.std.proofs.Common.{[]}
use Rattle.std.proofs.lemmas.Result.{IfOk-weaker}
use Rattle.servant_core.proofs.AnswerLaws.{one_way, code_answered, code_handled, call_answered, call_handled, on_ok}
use Rattle.servant_core.proofs.answering.answer.Goals as goal

pub returns-then-is_one_way-clause-answered : goal.returns-then-is_one_way-clause-answered
returns-then-is_one_way-clause-answered g c =
    one_way c.args.schema.now c.args.interface c.args.name.now c.args.request.now c.args.now (g.S.Servant.meaning c.args.servant.now [])
    c.is_one_way.result c.is_one_way.ensures c.if-is_one_way.true

pub returns-then-is_one_way-clause-handled : goal.returns-then-is_one_way-clause-handled
returns-then-is_one_way-clause-handled g c =
    code_handled c.args.schema.now c.args.interface c.args.name.now c.args.request.now c.args.now c.in-Code.code c.in_ok-code.field-0 c.in-Code.is c.in_ok-code.ensures
    (g.S.Servant.meaning c.args.servant.now)

pub returns-then-is_one_way-2-clause-answered : goal.returns-then-is_one_way-2-clause-answered
returns-then-is_one_way-2-clause-answered g c =
    one_way c.args.schema.now c.args.interface c.args.name.now c.args.request.now c.args.now (g.S.Servant.meaning c.args.servant.now [])
    c.is_one_way-in-Call.result c.is_one_way-in-Call.ensures c.if-is_one_way-2.true

pub returns-then-is_one_way-2-clause-handled : goal.returns-then-is_one_way-2-clause-handled
returns-then-is_one_way-2-clause-handled g c =
    call_handled c.args.schema.now c.args.interface c.args.name.now c.args.request.now c.args.now c.in-Call.func c.in-Call.args c.as_slice.result.now c.in_ok-code.field-0 c.in-Call.is (c.as_slice.ensures) c.in_ok-code.ensures
    (g.S.Servant.meaning c.args.servant.now) (g.S.Servant.meaning c.reply.new.self) c.in_ok-reply-in-Call.ensures.next

pub returns-else-is_one_way-clause-answered : goal.returns-else-is_one_way-clause-answered
returns-else-is_one_way-clause-answered g c =
    code_answered c.args.schema.now c.args.interface c.args.name.now c.args.request.now c.args.now c.in-Code.code c.in_ok-code.field-0 c.in-Code.is c.in_ok-code.ensures
    (g.S.Servant.meaning c.args.servant.now []) c.is_one_way.result c.is_one_way.ensures c.if-is_one_way.false c.code_alone.result c.code_alone.ensures

pub returns-else-is_one_way-clause-handled : goal.returns-else-is_one_way-clause-handled
returns-else-is_one_way-clause-handled g c =
    code_handled c.args.schema.now c.args.interface c.args.name.now c.args.request.now c.args.now c.in-Code.code c.in_ok-code.field-0 c.in-Code.is c.in_ok-code.ensures
    (g.S.Servant.meaning c.args.servant.now)

pub returns-else-is_one_way-2-clause-answered : goal.returns-else-is_one_way-2-clause-answered
returns-else-is_one_way-2-clause-answered g c =
    IfOk-weaker c.replied.result _ _
    (λ response is. call_answered c.args.schema.now c.args.interface c.args.name.now c.args.request.now c.args.now c.in-Call.func c.in-Call.args c.as_slice.result.now c.in_ok-code.field-0 c.in-Call.is (c.as_slice.ensures) c.in_ok-code.ensures
    (g.S.Servant.meaning c.args.servant.now []) c.is_one_way-in-Call.result c.is_one_way-in-Call.ensures c.if-is_one_way-2.false
    c.func_at-func.result.now c.in_ok-reply-in-Call.reply response c.func_at-func.ensures.found c.in_ok-reply-in-Call.ensures.reply is)
    c.replied.ensures

pub returns-else-is_one_way-2-clause-handled : goal.returns-else-is_one_way-2-clause-handled
returns-else-is_one_way-2-clause-handled g c =
    on_ok c.replied.result _
    (call_handled c.args.schema.now c.args.interface c.args.name.now c.args.request.now c.args.now c.in-Call.func c.in-Call.args c.as_slice.result.now c.in_ok-code.field-0 c.in-Call.is (c.as_slice.ensures) c.in_ok-code.ensures
    (g.S.Servant.meaning c.args.servant.now) (g.S.Servant.meaning c.reply.new.self) c.in_ok-reply-in-Call.ensures.next)
