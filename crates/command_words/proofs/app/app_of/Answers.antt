use Rattle.std.proofs.Common.{rules, ◌≡◌, ◌∙◌, ap₂}
use Rattle.std.proofs.lemmas.Result.{IfOk-weaker}
use Rattle.clap.specs.Words.{shape_of, with_subcommand}
use Rattle.command_words.specs.FormSteps.{check_form, plan_form, encode_form, decode_form, compat_form}
use Rattle.command_words.proofs.app.app_of.Goals as goal

pub returns : goal.returns
returns c =
    let check : shape_of c.in_ok-command_of.field-0 ≡ check_form = search rules in
    let plan : shape_of c.in_ok-command_of-2.field-0 ≡ plan_form = search rules in
    let encode : shape_of c.in_ok-command_of-3.field-0 ≡ encode_form = search rules in
    let decode : shape_of c.in_ok-command_of-4.field-0 ≡ decode_form = search rules in
    let compat : shape_of c.in_ok-command_of-5.field-0 ≡ compat_form = search rules in
    let one = c.in_ok-subcommand.ensures.shape c.in_ok-command_of.ensures.local ∙ ap₂ with_subcommand c.program.ensures.app check in
    let two = c.in_ok-subcommand-2.ensures.shape c.in_ok-command_of-2.ensures.local ∙ ap₂ with_subcommand one plan in
    let three = c.in_ok-subcommand-3.ensures.shape c.in_ok-command_of-3.ensures.local ∙ ap₂ with_subcommand two encode in
    let four = c.in_ok-subcommand-4.ensures.shape c.in_ok-command_of-4.ensures.local ∙ ap₂ with_subcommand three decode in
    IfOk-weaker c.subcommand-5.result _ _ (λ app added. added.shape c.in_ok-command_of-5.ensures.local ∙ ap₂ with_subcommand four compat) c.subcommand-5.ensures
