use Rattle.run_answers.proofs.Rests.{nothing_left_law}
use Rattle.run_answers.proofs.laws.nothing_left.Goals as goal

pub returns : goal.returns
returns c = nothing_left_law
