use Rattle.run_course.proofs.Reports.{legal_law}
use Rattle.run_course.proofs.laws.legal_report.Goals as goal

pub returns : goal.returns
returns c = legal_law
