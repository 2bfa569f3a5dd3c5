use Rattle.tars_command.proofs.DueLaws.{some_due, same_due}
use Rattle.tars_command.proofs.laws.one_due_answer.Goals as goal

pub returns-clause-some : goal.returns-clause-some
returns-clause-some c = some_due

pub returns-clause-only : goal.returns-clause-only
returns-clause-only c = same_due
