use Rattle.script_rules.proofs.OneRule.{value_or_none, some_rule, same_rule, same_fault, not_both_of}
use Rattle.script_rules.proofs.laws.one_rule.Goals as goal

pub returns-clause-some : goal.returns-clause-some
returns-clause-some c = λ d func words schema. some_rule c.one_value.ensures d (value_or_none d c.one_fault.ensures.some c.one_fault.ensures.not_both schema) func words

pub returns-clause-rule : goal.returns-clause-rule
returns-clause-rule c = λ d func words a b params first second. same_rule c.one_value.ensures d func words a b params first second

pub returns-clause-fault : goal.returns-clause-fault
returns-clause-fault c = λ d func words a b first second. same_fault c.one_value.ensures d func words a b first second

pub returns-clause-not_both : goal.returns-clause-not_both
returns-clause-not_both c = λ d func words made why means fault. not_both_of c.one_value.ensures d func words made why means fault
