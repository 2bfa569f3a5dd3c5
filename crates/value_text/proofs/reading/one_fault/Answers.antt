use Rattle.value_text.proofs.Breaking.Verdicts.{some_fault, no_fault, one_fault}
use Rattle.value_text.proofs.reading.one_fault.Goals as goal

pub returns-clause-some : goal.returns-clause-some
returns-clause-some c = λ d t text schema. some_fault d t text schema

pub returns-clause-not_both : goal.returns-clause-not_both
returns-clause-not_both c = λ d t text rest v at why s fault. no_fault d t text v rest at why s fault

pub returns-clause-one : goal.returns-clause-one
returns-clause-one c = λ d t text at other why reason one two. one_fault d t text at other why reason one two
