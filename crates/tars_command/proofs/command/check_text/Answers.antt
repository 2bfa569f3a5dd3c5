use Rattle.command_words.specs.Asked.{check}
use Rattle.tars_command.proofs.Comings.{no_memory, check_failed, check_printed}
use Rattle.tars_command.proofs.command.check_text.Goals as goal

pub returns-in_err-schema-clause-exact : goal.returns-in_err-schema-clause-exact
returns-in_err-schema-clause-exact g c =
    check_failed _ (g.F.Files.contents c.args.files.now) c.args.file.now c.in_err-schema.field-0.0 c.from_residual.result c.from_residual.ensures c.in_err-schema.ensures.exact

pub returns-in_err-print-clause-exact : goal.returns-in_err-print-clause-exact
returns-in_err-print-clause-exact g c =
    no_memory _ (g.F.Files.contents c.args.files.now) (check c.args.file.now) c.from_residual-in_err-print.result c.from_residual-in_err-print.ensures

pub returns-clause-exact : goal.returns-clause-exact
returns-clause-exact g c =
    check_printed _ (g.F.Files.contents c.args.files.now) c.args.file.now c.in_ok-schema.schema c.in_ok-print.field-0 c.in_ok-schema.ensures.exact c.in_ok-print.ensures.text
