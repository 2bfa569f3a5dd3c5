use Rattle.std.proofs.Common.{ap, ◌∙◌}
use Rattle.run_report.specs.CallNumbers.{number_in}
use Rattle.run_report.proofs.CallTables.{row_put}
use Rattle.run_report.proofs.call_index.CallIndex.add.Goals as goal

pub returns-in_ok-insert : goal.returns-in_ok-insert
returns-in_ok-insert c rows held = row_put rows c.args.row.now c.in-Some.field-0 _ _ _ c.in-Some.is (ap (λ id. id.0) c.in-Some.field-0-is) (c.in_ok-insert.ensures.updates.0) (λ id. ap (λ table. number_in table id) c.self.view_is ∙ held id)
