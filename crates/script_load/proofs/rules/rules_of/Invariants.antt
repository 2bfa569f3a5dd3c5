use Rattle.std.proofs.Common.{map, take}
use Rattle.std.specs.List.{All}
use Rattle.script_lines.specs.Views.{rule_line}
use Rattle.script_load.specs.LineSteps.{FitsRule}
use Rattle.script_load.specs.Sessions.{AreRules}
use Rattle.script_load.proofs.rules.rules_of.Given as goal

-- the rules so far are those of the lines so far
abbrev pub invariant-loop-line : goal.invariant-loop-line
invariant-loop-line l = record {
  read : AreRules l.schema l.funcs (take l.line-index (map rule_line l.lines)) l.rules;
  fits : All (FitsRule l.schema l.funcs) l.rules;
}
