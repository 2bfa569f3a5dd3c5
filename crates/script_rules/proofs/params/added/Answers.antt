use Rattle.script_rules.proofs.Names.{some_is}
use Rattle.script_rules.proofs.RuleLaws.{some_apart}
use Rattle.script_rules.proofs.params.added.Goals as goal

pub returns-in_err-first-clause-only : goal.returns-in_err-first-clause-only
returns-in_err-first-clause-only c = λ first second at. absurd (some_apart (c.in_err-first.ensures.only first at.1))

pub returns-in_err-second-clause-only : goal.returns-in_err-second-clause-only
returns-in_err-second-clause-only c = λ first second at. absurd (some_apart (c.in_err-second.ensures.only second at.2))

pub returns-clause-only : goal.returns-clause-only
returns-clause-only c = λ first second at. (some_is (c.in_ok-first.ensures.only first at.1), some_is (c.in_ok-second.ensures.only second at.2))
