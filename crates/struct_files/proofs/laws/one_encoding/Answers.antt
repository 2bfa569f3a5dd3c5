use Rattle.struct_files.proofs.CallerLemmas.{some_encoded, same_encoded}
use Rattle.struct_files.proofs.laws.one_encoding.Goals as goal

pub returns-clause-some : goal.returns-clause-some
returns-clause-some c = some_encoded

pub returns-clause-only : goal.returns-clause-only
returns-clause-only c = same_encoded
