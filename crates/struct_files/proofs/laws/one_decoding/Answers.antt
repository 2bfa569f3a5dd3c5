use Rattle.struct_files.proofs.CallerLemmas.{some_decoded, same_decoded}
use Rattle.struct_files.proofs.laws.one_decoding.Goals as goal

pub returns-clause-some : goal.returns-clause-some
returns-clause-some c = some_decoded

pub returns-clause-only : goal.returns-clause-only
returns-clause-only c = same_decoded
