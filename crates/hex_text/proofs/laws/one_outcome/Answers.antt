use Rattle.hex_text.proofs.Prefixes.{some_outcome}
use Rattle.hex_text.proofs.Readings.{one_spelling}
use Rattle.hex_text.proofs.laws.one_outcome.Goals as goal

pub returns-clause-some : goal.returns-clause-some
returns-clause-some c = some_outcome

pub returns-clause-one_spelling : goal.returns-clause-one_spelling
returns-clause-one_spelling c = one_spelling
