use Rattle.std.proofs.Common.{◌∙◌, ap, ◌++◌}
use Rattle.std.specs.Option.{option_to_list}
use Rattle.run_course.specs.LegalReports.{reported_of}
use Rattle.run_engine.proofs.Lists.{none_left, one_more}
use Rattle.run_engine.proofs.reporting.reported_steps.Goals as goal

pub loop-row-preserved : goal.loop-row-preserved
loop-row-preserved c =
    one_more reported_of c.loop-row.steps.items c.add_step.new.steps.items _ c.args.rows.now c.loop-row.row-index c.row-item.result c.loop-row-test.true c.row-item.is c.loop-row.invariant
    (c.in_ok-add_step.ensures ∙ ap (λ step. c.loop-row.steps.items ++ option_to_list step) c.reported_step.ensures)

pub returns : goal.returns
returns c = none_left reported_of c.loop-row.steps.items _ c.args.rows.now c.loop-row.row-index c.loop-row-test.false c.loop-row.invariant
