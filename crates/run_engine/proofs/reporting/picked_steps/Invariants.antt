use Rattle.std.proofs.Common.{◌≡◌, ◌++◌, drop}
use Rattle.std.specs.Prelude.{filter_map}
use Rattle.run_course.specs.LegalReports.{picked_of}
use Rattle.run_engine.proofs.reporting.picked_steps.Given as goal

-- with the steps of the rows that are left they are those of all
abbrev pub invariant-loop-row : goal.invariant-loop-row
invariant-loop-row l = l.steps.items ++ filter_map picked_of (drop l.row-index l.rows) ≡ filter_map picked_of l.rows
