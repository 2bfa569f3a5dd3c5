use Rattle.script_rules.proofs.SchemaFuncs.{schema_funcs, schema_params}
use Rattle.script_rules.proofs.ScriptRules.{script_judged, events_judged}
use Rattle.script_rules.proofs.laws.lines_are_judged.Goals as goal

pub returns-clause-funcs : goal.returns-clause-funcs
returns-clause-funcs c = schema_funcs

pub returns-clause-params : goal.returns-clause-params
returns-clause-params c = schema_params

pub returns-clause-rules : goal.returns-clause-rules
returns-clause-rules c = script_judged

pub returns-clause-events : goal.returns-clause-events
returns-clause-events c = events_judged
