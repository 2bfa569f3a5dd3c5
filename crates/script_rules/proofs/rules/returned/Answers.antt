use Rattle.script_rules.proofs.RuleLaws.{returns_at, gives_err}
use Rattle.script_rules.proofs.rules.returned.Goals as goal

pub returns-in_err-read_whole-clause-only : goal.returns-in_err-read_whole-clause-only
returns-in_err-read_whole-clause-only c = λ value says.
    gives_err c.from_residual.result c.in_err-read_whole.field-0.0 value c.from_residual.ensures
    (c.in_err-read_whole.ensures.only value (returns_at _ c.args.func.now.ret c.in-Some.ty c.in-Some.is says))

pub returns-clause-only : goal.returns-clause-only
returns-clause-only c = λ value says. c.in_ok-read_whole.ensures.only value (returns_at _ c.args.func.now.ret c.in-Some.ty c.in-Some.is says)
