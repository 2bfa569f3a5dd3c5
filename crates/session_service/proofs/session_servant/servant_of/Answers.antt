use Rattle.std.proofs.Common.{◌∷◌}
use Rattle.session_service.proofs.Lists.{last_done}
use Rattle.session_service.proofs.Rules.{last_fits, last_func, one_set}
use Rattle.session_service.proofs.session_servant.servant_of.Goals as goal

pub set-requires-clause-function : goal.set-requires-clause-function
set-requires-clause-function c =
    let i = c.loop-rest.invariant in
    last_func c.args.session.now c.loop-rest.rest.now i.0 c.rule-item.result c.in-len1-up.len_at_least c.rule-item.is i.1 c.loop-rest.servant i.2 c.requires.rules

pub set-requires-clause-fits : goal.set-requires-clause-fits
set-requires-clause-fits c =
    let i = c.loop-rest.invariant in
    last_fits c.args.session.now c.loop-rest.rest.now i.0 c.rule-item.result c.in-len1-up.len_at_least c.rule-item.is i.1 c.loop-rest.servant c.in_ok-copy.field-0 i.2 c.requires.rules c.in_ok-copy.ensures

pub loop-rest-preserved : goal.loop-rest-preserved
loop-rest-preserved c =
    let i = c.loop-rest.invariant in (
      c.rule-item.result ∷ i.0,
      last_done c.args.session.now.rules c.loop-rest.rest.now i.0 c.rule-item.result c.in-len1-up.len_at_least c.rule-item.is i.1,
      one_set c.args.session.now c.loop-rest.rest.now i.0 c.rule-item.result c.in-len1-up.len_at_least c.rule-item.is i.1 c.loop-rest.servant c.set.new.self c.in_ok-copy.field-0 i.2 c.in_ok-copy.ensures c.set.ensures.set,
    )
