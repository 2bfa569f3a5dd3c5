use Rattle.std.proofs.Common.{◌≡◌, ◌++◌, drop}
use Rattle.servant_core.specs.Rules.{out_defaults}
use Rattle.servant_core.proofs.replying.add_defaults.Given as goal

abbrev pub invariant-loop-param : goal.invariant-loop-param
invariant-loop-param l = l.values ++ out_defaults l.schema (drop l.param-index l.params) ≡ l.initial.values ++ out_defaults l.schema l.params
