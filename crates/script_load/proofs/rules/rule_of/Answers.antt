use Rattle.std.proofs.Common.{rules, refl}
use Rattle.script_lines.specs.Views.{rule_line}
use Rattle.script_load.specs.LineFaults.{IsNamed, no_function}
use Rattle.script_load.proofs.Named.{named_within, is_named, named_params, rule_bytes, rule_refused}
use Rattle.script_load.proofs.rules.rule_of.Goals as goal

pub returns-in_default-clause-fault : goal.returns-in_default-clause-fault
returns-in_default-clause-fault c = (refl, no_function refl (λ number is. let some = c.function_of.ensures.only number is in search rules))

pub bounds-funcs-func : goal.bounds-funcs-func
bounds-funcs-func c = named_within c.args.funcs.now c.args.line.now.func.now c.in-Some.func c.in-Some.ensures.found

pub read_rule-requires-clause-params : goal.read_rule-requires-clause-params
read_rule-requires-clause-params c =
    named_params c.args.funcs.now c.args.line.now.func.now c.in-Some.func c.index-funcs-func.result c.in-Some.ensures.found c.index-funcs-func.is c.requires.funcs

pub returns-in-Ok-clause-means : goal.returns-in-Ok-clause-means
returns-in-Ok-clause-means c = record {
  func = c.index-funcs-func.result;
  named = is_named c.args.funcs.now c.args.line.now.func.now c.in-Some.func c.index-funcs-func.result c.in-Some.ensures.found c.index-funcs-func.is;
  means = c.in-Ok.ensures.means;
}

pub returns-in-Ok-clause-fits : goal.returns-in-Ok-clause-fits
returns-in-Ok-clause-fits c = record {
  func = c.index-funcs-func.result;
  found = (is_named c.args.funcs.now c.args.line.now.func.now c.in-Some.func c.index-funcs-func.result c.in-Some.ensures.found c.index-funcs-func.is).found;
  fits = c.in-Ok.ensures.fits;
  bytes = rule_bytes c.in-Ok.rule c.in-Ok.ensures.bytes;
}

pub returns-in-Err-clause-fault : goal.returns-in-Err-clause-fault
returns-in-Err-clause-fault c =
    rule_refused c.args.schema.now c.args.funcs.now (rule_line c.args.line.now) c.in-Some.func c.index-funcs-func.result
    (is_named c.args.funcs.now c.args.line.now.func.now c.in-Some.func c.index-funcs-func.result c.in-Some.ensures.found c.index-funcs-func.is)
    c.in-Err.fault c.in-Err.ensures.fault c.of_rule.result c.of_rule.ensures
