use Rattle.std.proofs.Common.{◌≡◌, ◌++◌, List, length}
use Rattle.script_session.specs.Sessions.{rule_table, server_funcs}
use Rattle.script_session.specs.declared.session.FuncRule.{FuncRule}
use Rattle.session_service.proofs.session_servant.servant_of.Given as goal

-- the servant has the rules after those that are left
abbrev pub invariant-loop-rest : goal.invariant-loop-rest
invariant-loop-rest l =
    (done : List FuncRule) × (l.session.rules ≡ l.rest ++ done)
    × (l.servant ≡ record { schema = l.session.server; interface = l.session.server_interface; rules = rule_table (length (server_funcs l.session)) done; handled = 0 })

abbrev pub decreases-loop-rest : goal.decreases-loop-rest
decreases-loop-rest l = length l.rest
