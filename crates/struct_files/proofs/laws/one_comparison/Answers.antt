use Rattle.struct_files.proofs.CallerLemmas.{some_compared, same_compared}
use Rattle.struct_files.proofs.laws.one_comparison.Goals as goal

pub returns-clause-some : goal.returns-clause-some
returns-clause-some c = some_compared

pub returns-clause-only : goal.returns-clause-only
returns-clause-only c = same_compared
