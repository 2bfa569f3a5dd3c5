use Rattle.script_load.proofs.OneLoading.{one_answer, same_answer}
use Rattle.script_load.proofs.laws.one_answer.Goals as goal

pub returns-clause-some : goal.returns-clause-some
returns-clause-some c = λ held script. let one = one_answer held script in (one.0, one.1.holds)

pub returns-clause-only : goal.returns-clause-only
returns-clause-only c = λ held script a b first second. same_answer held script a b first second
