use Rattle.std.proofs.Common.{◌∙◌, Some, ap, sym, subst, true≢false}
use Rattle.servant_core.specs.Rules.{IsWhole}
use Rattle.script_rules.proofs.RuleLaws.{exact, with_type}
use Rattle.script_rules.proofs.params.whole_named.Goals as goal

pub returns-in_err-place-clause-only : goal.returns-in_err-place-clause-only
returns-in_err-place-clause-only c = λ place at.
    let e = exact c.args.func.now c.args.name.now place IsWhole at in
    absurd (c.in_err-place.ensures.only place e.0 e.1)

pub returns-then-is_whole-clause-found : goal.returns-then-is_whole-clause-found
returns-then-is_whole-clause-found c =
    with_type c.args.func.now c.args.name.now c.in_ok-place.place IsWhole c.in_ok-place.ty.now c.in_ok-place.ensures.found (sym c.is_whole.ensures ∙ c.if-is_whole.true)

pub returns-then-is_whole-clause-only : goal.returns-then-is_whole-clause-only
returns-then-is_whole-clause-only c = λ place at.
    let e = exact c.args.func.now c.args.name.now place IsWhole at in
    ap (λ n. Some n) (c.in_ok-place.ensures.only place e.0 e.1).0

pub returns-else-is_whole-clause-only : goal.returns-else-is_whole-clause-only
returns-else-is_whole-clause-only c = λ place at.
    let e = exact c.args.func.now c.args.name.now place IsWhole at in
    let found = c.in_ok-place.ensures.only place e.0 e.1 in
    absurd (true≢false (sym (subst IsWhole (sym found.1) e.2) ∙ sym c.is_whole.ensures ∙ c.if-is_whole.false))
