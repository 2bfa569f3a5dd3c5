use Rattle.std.proofs.Common.{◌≡◌, ◌+◌, ◌++◌, drop}
use Rattle.run_report.specs.CallNumbers.{number_in}
use Rattle.run_report.specs.ReportText.{got_line, numbered_lines}
use Rattle.run_report.proofs.lines.Lines.put_got_rows.Given as goal

-- the lines so far and those of the rows that are left
abbrev pub invariant-loop-i : goal.invariant-loop-i
invariant-loop-i l =
    l.self ++ numbered_lines (got_line (number_in l.calls) l.node) (l.i + 1) (drop l.i l.got)
    ≡ l.initial.self ++ numbered_lines (got_line (number_in l.calls) l.node) 1 l.got
