use Rattle.std.proofs.Common.{drop}
use Rattle.script_rules.proofs.ParamLaws.{Sought}
use Rattle.script_rules.proofs.params.param_named.Given as goal

-- the parameters that are left, and how many that are not `out` were passed
abbrev pub invariant-loop-param : goal.invariant-loop-param
invariant-loop-param l = Sought l.param-items (drop l.param-index l.param-items) l.name l.place
