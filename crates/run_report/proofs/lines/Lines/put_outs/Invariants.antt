use Rattle.std.proofs.Common.{◌≡◌, ◌++◌, drop}
use Rattle.run_report.specs.EndText.{outs_text}
use Rattle.run_report.proofs.lines.Lines.put_outs.Given as goal

-- the parameters so far and those that are left, with the values that are left
abbrev pub invariant-loop-param : goal.invariant-loop-param
invariant-loop-param l =
    l.self ++ outs_text l.schema (drop l.param-index l.params) l.rest ≡ l.initial.self ++ outs_text l.schema l.params l.values
