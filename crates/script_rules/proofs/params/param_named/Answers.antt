use Rattle.std.proofs.Common.{◌≡◌, ◌∷◌, ◌∙◌, ◌+◌, drop, drop_of_length-le, length, rules, ap, sym, subst, refl, arith}
use Rattle.std.proofs.lemmas.List.{drop_more}
use Rattle.script_rules.proofs.ParamLaws.{Sought, sought_from, sought_out, sought_other, named_from, found_named, found_only, found_none, named_other}
use Rattle.script_rules.proofs.params.param_named.Goals as goal
use Rattle.script_rules.proofs.params.param_named.Goals.{then-not-param+else-eq, else-not-param}

pub loop-param-init : goal.loop-param-init
loop-param-init c = sought_from c.as_slice-param-items.result.now c.args.name.now

pub returns-then-eq-clause-found : goal.returns-then-eq-clause-found
returns-then-eq-clause-found c =
    let left = drop_more c.as_slice-param-items.result.now c.loop-param.param-index c.param-item.result (search rules) in
    let before = subst (λ ps. Sought c.as_slice-param-items.result.now ps c.args.name.now c.loop-param.place) (left ∙ ap (λ first. first ∷ drop (c.loop-param.param-index + 1) c.as_slice-param-items.result.now) (sym c.param-item.is)) c.loop-param.invariant in
    let found = found_named c.args.func.now c.args.name.now _ _ c.param-item.result c.loop-param.place _ c.as_slice-param-items.ensures before c.if-not-param.true c.as_slice.ensures (sym c.eq.ensures ∙ c.if-eq.true) in
    named_from c.args.func.now c.args.name.now c.loop-param.place (λ t. t ≡ c.param-item.result.ty) c.param-item.result found.0 found.1 refl

pub returns-then-eq-clause-only : goal.returns-then-eq-clause-only
returns-then-eq-clause-only c =
    let left = drop_more c.as_slice-param-items.result.now c.loop-param.param-index c.param-item.result (search rules) in
    let before = subst (λ ps. Sought c.as_slice-param-items.result.now ps c.args.name.now c.loop-param.place) (left ∙ ap (λ first. first ∷ drop (c.loop-param.param-index + 1) c.as_slice-param-items.result.now) (sym c.param-item.is)) c.loop-param.invariant in
    let found = found_named c.args.func.now c.args.name.now _ _ c.param-item.result c.loop-param.place _ c.as_slice-param-items.ensures before c.if-not-param.true c.as_slice.ensures (sym c.eq.ensures ∙ c.if-eq.true) in
    found_only c.args.func.now c.args.name.now c.param-item.result c.loop-param.place c.requires found.0 found.1

pub overflow_add-place : goal.overflow_add-place
overflow_add-place c =
    let left = drop_more c.as_slice-param-items.result.now c.loop-param.param-index c.param-item.result (search rules) in
    let before = subst (λ ps. Sought c.as_slice-param-items.result.now ps c.args.name.now c.loop-param.place) left c.loop-param.invariant in
    let few = before.few in
    let params = c.requires.few in
    omega (arith, few, params, ap length c.as_slice-param-items.ensures)

pub loop-param-preserved : goal.loop-param-preserved
loop-param-preserved c =
    let left = drop_more c.as_slice-param-items.result.now c.loop-param.param-index c.param-item.result (search rules) in
    let before = subst (λ ps. Sought c.as_slice-param-items.result.now ps c.args.name.now c.loop-param.place) (left ∙ ap (λ first. first ∷ drop (c.loop-param.param-index + 1) c.as_slice-param-items.result.now) (sym c.param-item.is)) c.loop-param.invariant in
    elim c.if-not-param.branch [
      | then-not-param+else-eq w ↦ rw w.place-is (sought_other _ _ c.param-item.result c.args.name.now c.loop-param.place w.if-not-param.true (named_other c.param-item.result c.args.name.now _ w.as_slice.ensures (sym w.eq.ensures ∙ w.if-eq.false)) before)
      | else-not-param w ↦ rw w.place-is (sought_out _ _ c.param-item.result c.args.name.now c.loop-param.place w.if-not-param.false before)
    ]

pub returns-clause-only : goal.returns-clause-only
returns-clause-only c = found_none c.args.func.now c.args.name.now _ _ c.loop-param.place c.as_slice-param-items.ensures
    (drop_of_length-le c.as_slice-param-items.result.now (search rules)) c.loop-param.invariant
