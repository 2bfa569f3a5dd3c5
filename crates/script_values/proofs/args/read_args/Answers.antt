use Rattle.std.proofs.Common.{◌≡◌, true, ◌∷◌, ◌++◌, [], drop, drop_of_length-le, rules, subst, ◌∙◌, ap, sym, ◌+◌, length, eqb-true}
use Rattle.std.specs.List.{list_all}
use Rattle.std.proofs.lemmas.List.{drop_more, nil_from_length}
use Rattle.value_text.specs.Printed.{has_bytes}
use Rattle.script_values.proofs.Leads.{Leads, leads_next, says_all, fits_all, bytes_next}
use Rattle.script_values.proofs.args.read_args.Goals as goal

pub loop-member-preserved : goal.loop-member-preserved
loop-member-preserved c =
    let member = c.member-item.result in
    let left = drop_more c.args.members.now c.loop-member.member-index member (search rules) in
    let before = subst (λ ms. Leads c.args.schema.now c.args.members.now ms c.args.text.now c.loop-member.rest.now c.loop-member.values) (left ∙ ap (λ first. first ∷ drop (c.loop-member.member-index + 1) c.args.members.now) (sym (search rules))) c.loop-member.invariant.leads in
    let after = leads_next c.one_value.ensures c.args.schema.now c.args.members.now (drop (c.loop-member.member-index + 1) c.args.members.now) member c.args.text.now c.loop-member.rest.now
    c.in_ok-value.after.now c.loop-member.values c.in_ok-value.value before c.in_ok-value.ensures.spells c.in_ok-value.ensures.apart c.in_ok-value.ensures.fits c.in_ok-value.ensures.shorter in
    let octets = bytes_next c.loop-member.values c.in_ok-value.value c.loop-member.invariant.bytes c.in_ok-value.ensures.bytes in
    rw c.in_ok-push.ensures.ok (record { leads = after; bytes = octets })

pub returns-clause-says : goal.returns-clause-says
returns-clause-says c = says_all _ _ _ _ _ _ c.loop-member.invariant.leads (drop_of_length-le c.args.members.now (search rules))
    (sym c.past_spaces.ensures.after ∙ nil_from_length c.past_spaces.result.now (eqb-true (length c.past_spaces.result.now) 0 (sym c.is_empty.ensures ∙ c.if-not-is_empty.false)))

pub returns-clause-fits : goal.returns-clause-fits
returns-clause-fits c = fits_all _ _ _ _ _ _ c.loop-member.invariant.leads (drop_of_length-le c.args.members.now (search rules))
