use Rattle.std.proofs.Common.{ap, ◌∙◌}
use Rattle.std.proofs.lemmas.Result.{IfOk-weaker, on_ok_weaker}
use Rattle.servant_core.specs.Answers.{answered, handled_by}
use Rattle.servant_core.specs.Rules.{table_reply}
use Rattle.servant_core.specs.Servants.{Handled}
use Rattle.servant_core.specs.Tables.{functions}
use Rattle.script_session.specs.declared.session.Session.{Session}
use Rattle.run_engine.proofs.Servants.{answered_is, servant_after}
use Rattle.run_engine.proofs.node.NodeEnd.answer.Goals as goal

pub answer-requires-clause-suited : goal.answer-requires-clause-suited
answer-requires-clause-suited c = rw c.session-session.ensures.value c.requires.servant.suited

pub returns-clause-answered : goal.returns-clause-answered
returns-clause-answered c =
    let table = c.args.self.now.servant in
    let session = c.session-session.result.now in
    IfOk-weaker c.answer.result _ _
    (λ response is.
    is
    ∙ ap (λ name. answered session.server session.server_interface name (λ (call : Handled). table_reply table.schema (functions table) table.rules call) c.args.request.now c.args.now) c.as_slice.ensures
    ∙ ap (λ (s : Session). answered s.server s.server_interface s.object.id (λ (call : Handled). table_reply table.schema (functions table) table.rules call) c.args.request.now c.args.now) c.session-session.ensures.value
    ∙ answered_is c.args.service.now table c.args.request.now c.args.now c.requires.servant)
    c.answer.ensures.answered

pub returns-clause-servant : goal.returns-clause-servant
returns-clause-servant c =
    on_ok_weaker c.answer.result
    (λ after. servant_after c.args.service.now c.args.self.now.servant c.answer.new.servant
    (handled_by c.session-session.result.now.server c.session-session.result.now.server_interface c.as_slice.result.now c.args.request.now c.args.now) after c.requires.servant) c.answer.ensures.handled
