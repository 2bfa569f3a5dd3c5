use Rattle.std.proofs.Common.{◌≡◌, ◌++◌, drop}
use Rattle.std.specs.List.{flat_map}
use Rattle.run_report.specs.ReportText.{sent_lines}
use Rattle.run_report.proofs.lines.Lines.put_sent.Given as goal

-- the lines so far and those of the links that are left
abbrev pub invariant-loop-link : goal.invariant-loop-link
invariant-loop-link l =
    l.self ++ flat_map sent_lines (drop l.link-index l.links)
    ≡ l.initial.self ++ flat_map sent_lines l.links
