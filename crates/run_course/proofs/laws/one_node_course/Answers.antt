use Rattle.run_course.proofs.Openings.{as_scripted}
use Rattle.run_course.proofs.laws.one_node_course.Goals as goal

pub returns : goal.returns
returns c = record { refusals = as_scripted }
