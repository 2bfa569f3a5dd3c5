use Rattle.std.proofs.Common.{◌∙◌, sym}
use Rattle.script_rules.proofs.FunctionLaws.{place_found, place_is}
use Rattle.script_rules.proofs.functions.function_of.Goals as goal

pub returns-in_err-number-clause-only : goal.returns-in_err-number-clause-only
returns-in_err-number-clause-only c = λ number is.
    c.from_residual.ensures ∙ sym c.in_err-number.was ∙ c.place_of.ensures.place ∙ place_is c.args.funcs.now c.args.name.now c.requires number is

pub returns-clause-found : goal.returns-clause-found
returns-clause-found c =
    place_found c.args.funcs.now c.args.name.now c.in_ok-number.number (sym c.place_of.ensures.place ∙ c.in_ok-number.was) c.in_ok-number.ensures.within

pub returns-clause-only : goal.returns-clause-only
returns-clause-only c = λ number is. sym c.in_ok-number.was ∙ c.place_of.ensures.place ∙ place_is c.args.funcs.now c.args.name.now c.requires number is
