use Rattle.run_answers.proofs.Reported.{answered_law}
use Rattle.run_answers.proofs.laws.answered_by_servant.Goals as goal

pub returns : goal.returns
returns c = answered_law
