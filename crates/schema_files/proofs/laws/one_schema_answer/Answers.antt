use Rattle.std.proofs.Common.{sym, ◌∙◌}
use Rattle.schema_files.proofs.OneSchema.{one_schema}
use Rattle.schema_files.proofs.laws.one_schema_answer.Goals as goal

pub returns-clause-some : goal.returns-clause-some
returns-clause-some c = λ files file. let one = one_schema files file in (one.0, one.1.holds)

pub returns-clause-only : goal.returns-clause-only
returns-clause-only c = λ files file a b first second.
    let one = one_schema files file in
    one.1.only a first ∙ sym (one.1.only b second)
