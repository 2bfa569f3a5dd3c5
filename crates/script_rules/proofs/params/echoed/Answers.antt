use Rattle.std.proofs.Common.{◌≡◌, ◌∙◌, Some, ap, sym, subst, true≢false}
use Rattle.script_rules.specs.Rules.{NamedAt}
use Rattle.script_rules.proofs.RuleLaws.{returns_at, returns_from}
use Rattle.script_rules.proofs.params.echoed.Goals as goal

pub returns-in_err-place-clause-only : goal.returns-in_err-place-clause-only
returns-in_err-place-clause-only c = λ place at.
    absurd (c.in_err-place.ensures.only place c.in-Some.returned (returns_at _ c.args.func.now.ret c.in-Some.returned c.in-Some.is at))

pub returns-then-is_same-clause-found : goal.returns-then-is_same-clause-found
returns-then-is_same-clause-found c =
    returns_from _ c.args.func.now.ret c.in-Some.returned c.in-Some.is
    (subst (λ t. NamedAt c.args.func.now c.args.name.now c.in_ok-place.place (λ taken. taken ≡ t)) (c.is_same.ensures.yes c.if-is_same.true) c.in_ok-place.ensures.found)

pub returns-then-is_same-clause-only : goal.returns-then-is_same-clause-only
returns-then-is_same-clause-only c = λ place at.
    ap (λ n. Some n) (c.in_ok-place.ensures.only place c.in-Some.returned (returns_at _ c.args.func.now.ret c.in-Some.returned c.in-Some.is at)).0

pub returns-else-is_same-clause-only : goal.returns-else-is_same-clause-only
returns-else-is_same-clause-only c = λ place at.
    let found = c.in_ok-place.ensures.only place c.in-Some.returned (returns_at _ c.args.func.now.ret c.in-Some.returned c.in-Some.is at) in
    absurd (true≢false (sym (c.is_same.ensures.no found.1) ∙ c.if-is_same.false))
