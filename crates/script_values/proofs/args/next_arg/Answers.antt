use Rattle.std.proofs.Common.{◌∙◌, arith, sym, subst}
use Rattle.std.proofs.lemmas.List.{take_rest}
use Rattle.script_values.specs.Args.{IsApart}
use Rattle.script_values.proofs.Leads.{one_next}
use Rattle.script_values.proofs.args.next_arg.Goals as goal

pub read_value-requires : goal.read_value-requires
read_value-requires c = omega (arith, c.requires, c.past_spaces-text.ensures.shorter)

pub returns-then-is_apart-clause-only : goal.returns-then-is_apart-clause-only
returns-then-is_apart-clause-only c = λ v rest spells apart.
    let is = one_next c.one_value.ensures _ _ _ _ _ _ _ _ c.past_spaces-text.ensures.after c.in_ok-value.ensures.spells spells in
    (is.0, take_rest c.past_spaces-text.result.now c.in_ok-value.taken ∙ is.1)

pub returns-else-is_apart-clause-only : goal.returns-else-is_apart-clause-only
returns-else-is_apart-clause-only c = λ v rest spells apart.
    let is = one_next c.one_value.ensures _ _ _ _ _ _ _ _ c.past_spaces-text.ensures.after c.in_ok-value.ensures.spells spells in
    let here = take_rest c.past_spaces-text.result.now c.in_ok-value.taken ∙ is.1 in
    let yes = c.is_apart.ensures.no (subst IsApart (sym here) apart) in
    let no = c.if-is_apart.false in
    cc (yes, no)
