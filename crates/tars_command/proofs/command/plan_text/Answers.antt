use Rattle.command_words.specs.Asked.{plan}
use Rattle.tars_command.proofs.Comings.{no_memory, plan_failed, plan_printed}
use Rattle.tars_command.proofs.command.plan_text.Goals as goal

pub returns-in_err-loaded-clause-exact : goal.returns-in_err-loaded-clause-exact
returns-in_err-loaded-clause-exact g c =
    plan_failed _ (g.F.Files.contents c.args.files.now) c.args.script.now c.in_err-loaded.field-0.0 c.from_residual.result c.from_residual.ensures c.in_err-loaded.ensures.exact

pub returns-in_err-session_text-clause-exact : goal.returns-in_err-session_text-clause-exact
returns-in_err-session_text-clause-exact g c =
    no_memory _ (g.F.Files.contents c.args.files.now) (plan c.args.script.now) c.from_residual-in_err-session_text.result c.from_residual-in_err-session_text.ensures

pub returns-clause-exact : goal.returns-clause-exact
returns-clause-exact g c =
    plan_printed _ (g.F.Files.contents c.args.files.now) c.args.script.now c.in_ok-loaded.loaded c.in_ok-session_text.field-0 c.in_ok-loaded.ensures.exact c.in_ok-session_text.ensures
