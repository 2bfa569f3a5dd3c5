use Rattle.std.proofs.Common.{sym, ◌∙◌}
use Rattle.schema_files.proofs.OneFile.{one_file}
use Rattle.schema_files.proofs.laws.one_file_answer.Goals as goal

pub returns-clause-some : goal.returns-clause-some
returns-clause-some c = λ files name. let one = one_file files name in (one.0, one.1.holds)

pub returns-clause-only : goal.returns-clause-only
returns-clause-only c = λ files name a b first second.
    let one = one_file files name in
    one.1.only a first ∙ sym (one.1.only b second)
