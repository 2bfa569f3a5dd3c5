use Rattle.std.proofs.Common.{rules, refl}
use Rattle.script_load.specs.LineFaults.{IsNamed, no_function, no_arguments}
use Rattle.script_load.proofs.Named.{named_within, is_named, named_params}
use Rattle.script_load.proofs.calls.call_of.Goals as goal

pub returns-in_default-clause-fault : goal.returns-in_default-clause-fault
returns-in_default-clause-fault c = (refl, no_function refl (λ number is. let some = c.function_of.ensures.only number is in search rules))

pub bounds-funcs-func : goal.bounds-funcs-func
bounds-funcs-func c = named_within c.args.funcs.now c.args.name.now c.in-Some.func c.in-Some.ensures.found

pub read_call-requires-clause-params : goal.read_call-requires-clause-params
read_call-requires-clause-params c =
    named_params c.args.funcs.now c.args.name.now c.in-Some.func c.index-funcs-func.result c.in-Some.ensures.found c.index-funcs-func.is c.requires.funcs

pub returns-in-Ok-clause-means : goal.returns-in-Ok-clause-means
returns-in-Ok-clause-means c = record {
  func = c.index-funcs-func.result;
  named = is_named c.args.funcs.now c.args.name.now c.in-Some.func c.index-funcs-func.result c.in-Some.ensures.found c.index-funcs-func.is;
  says = c.in-Ok.ensures.says;
  is = refl;
}

pub returns-in-Ok-clause-fits : goal.returns-in-Ok-clause-fits
returns-in-Ok-clause-fits c = record {
  func = c.index-funcs-func.result;
  found = (is_named c.args.funcs.now c.args.name.now c.in-Some.func c.index-funcs-func.result c.in-Some.ensures.found c.index-funcs-func.is).found;
  fits = c.in-Ok.ensures.fits;
  bytes = c.in-Ok.ensures.bytes;
}

pub returns-in-Err-Bad-clause-fault : goal.returns-in-Err-Bad-clause-fault
returns-in-Err-Bad-clause-fault c = (
  refl,
  no_arguments c.in-Some.func c.index-funcs-func.result refl
      (is_named c.args.funcs.now c.args.name.now c.in-Some.func c.index-funcs-func.result c.in-Some.ensures.found c.index-funcs-func.is)
      (λ values says. let given = c.in-Err-Bad.ensures.only values says in search rules),
)
