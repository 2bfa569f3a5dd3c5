use Rattle.run_course.proofs.OneNode.{one_node_law}
use Rattle.run_course.proofs.laws.one_node_report.Goals as goal

pub returns : goal.returns
returns c = one_node_law
