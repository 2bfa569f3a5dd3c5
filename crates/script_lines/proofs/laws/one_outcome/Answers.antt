use Rattle.script_lines.proofs.FormLaws.{one_said}
use Rattle.script_lines.proofs.ReadLaws.{some_outcome, one_script, one_fault, not_both}
use Rattle.script_lines.proofs.laws.one_outcome.Goals as goal

pub returns-clause-some : goal.returns-clause-some
returns-clause-some c = some_outcome

pub returns-clause-script : goal.returns-clause-script
returns-clause-script c = one_script

pub returns-clause-fault : goal.returns-clause-fault
returns-clause-fault c = one_fault

pub returns-clause-not_both : goal.returns-clause-not_both
returns-clause-not_both c = not_both

pub returns-clause-line : goal.returns-clause-line
returns-clause-line c = one_said
