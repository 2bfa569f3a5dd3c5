use Rattle.std.proofs.Common.{◌<◌}
use Rattle.std.proofs.lemmas.List.Elements.{recursion_from_All}
use Rattle.tars_wire.proofs.Machine.Faults.{some_outcome, same_faults}
use Rattle.tars_wire.proofs.laws.one_outcome.Goals as goal

pub returns-clause-some : goal.returns-clause-some
returns-clause-some c = λ bytes fits. some_outcome bytes (recursion_from_All (λ byte. byte < 256) bytes fits)

pub returns-clause-not_both : goal.returns-clause-not_both
returns-clause-not_both c = λ bytes body fault. fault.1.no_body body

pub returns-clause-one : goal.returns-clause-one
returns-clause-one c = λ bytes fault other fits is_fault is_other. same_faults bytes (recursion_from_All (λ byte. byte < 256) bytes fits) fault other is_fault is_other
