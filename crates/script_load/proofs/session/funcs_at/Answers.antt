use Rattle.std.proofs.Common.{sym, ◌∙◌, subst, Some, None}
use Rattle.script_load.specs.LineSteps.{AreTheFuncs}
use Rattle.script_load.proofs.SchemaSides.{schema_are, funcs_found, found_in, past_in}
use Rattle.script_load.proofs.session.funcs_at.Goals as goal

pub returns-in-Some-get-clause-are : goal.returns-in-Some-get-clause-are
returns-in-Some-get-clause-are c =
    let g = c.in-Some-get.ensures.lookup in
    subst AreTheFuncs
    (funcs_found c.args.schema.now c.in-Some.number (Some c.in-Some-get.interface.now)
    (found_in c.interfaces.result.now c.args.schema.now.interfaces c.in-Some.number c.in-Some-get.interface.now c.interfaces.ensures g.3.0 g.1) ∙ sym c.as_slice.ensures)
    (schema_are c.args.schema.now c.in-Some.number c.order.ensures.rules)

pub returns-in-None-get-clause-funcs : goal.returns-in-None-get-clause-funcs
returns-in-None-get-clause-funcs c =
    let none = funcs_found c.args.schema.now c.in-Some.number None (past_in c.interfaces.result.now c.args.schema.now.interfaces c.in-Some.number c.interfaces.ensures c.in-None-get.ensures.lookup.3) in
    rw c.in-Some.is (sym none)
