use Rattle.std.proofs.Common.{◌≡◌, ◌+◌, ◌++◌, drop}
use Rattle.run_report.specs.ReportText.{sent_line, numbered_lines}
use Rattle.run_report.proofs.lines.Lines.put_sent_rows.Given as goal

-- the lines so far and those of the rows that are left
abbrev pub invariant-loop-i : goal.invariant-loop-i
invariant-loop-i l =
    l.self ++ numbered_lines (sent_line l.node) (l.i + 1) (drop l.i l.sent)
    ≡ l.initial.self ++ numbered_lines (sent_line l.node) 1 l.sent
