use Rattle.std.proofs.Common.{◌≡◌, ◌++◌, drop}
use Rattle.std.specs.List.{flat_map}
use Rattle.run_report.specs.ReportText.{call_line}
use Rattle.run_report.proofs.lines.Lines.put_calls.Given as goal

-- the lines so far and those of the rows that are left
abbrev pub invariant-loop-row : goal.invariant-loop-row
invariant-loop-row l =
    l.self ++ flat_map (call_line l.session) (drop l.row-index l.rows)
    ≡ l.initial.self ++ flat_map (call_line l.session) l.rows
