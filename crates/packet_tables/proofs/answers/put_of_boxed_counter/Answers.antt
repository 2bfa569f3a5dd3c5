use Rattle.std.proofs.Common.{refl, sym, subst}
use denote.Param.Object.{read_made}
use Rattle.packet_tables.specs.Servants.{SuitsAt}
use Rattle.packet_tables.proofs.FuncRules.{suits_as}
use Rattle.servant_core.specs.Servants.{Meaning}
use Rattle.packet_tables.proofs.answers.put_of_boxed_counter.OwnLists as own
use Rattle.packet_tables.proofs.answers.put_of_boxed_counter.Goals as goal

-- the box replies as its counter does
pub put_of_box-requires-clause-suited : goal.put_of_box-requires-clause-suited
put_of_box-requires-clause-suited c =
    let entry = own.own-1.entry own.at-1-1 in
    let same = read_made own.own-1 entry own.at-1-1 refl Meaning (λ j servant. j.1.meaning servant) c.into_dyn_box.result.vtable c.into_dyn_box.result.value
    c.in_ok-new.field-0.value c.into_dyn_box.ensures.1 in
    suits_as c.args.opened.now.schema c.args.opened.now.interface (entry.1.meaning c.in_ok-new.field-0.value) _ same
    (subst (λ counter. SuitsAt c.args.opened.now.schema c.args.opened.now.interface (entry.1.meaning counter)) (sym c.in_ok-new.ensures.ok) c.in_ok-counter.ensures)
