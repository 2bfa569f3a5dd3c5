use Rattle.std.proofs.Common.{drop, sym, ap, ◌∙◌}
use Rattle.std.proofs.lemmas.List.{take_rest}
use Rattle.std.proofs.lemmas.Result.{err_from_is_err_and}
use Rattle.value_text.specs.Spelling.{past_gap}
use Rattle.value_text.specs.declared.value_fault.ValueWhy.TheVariants.{Unexpected}
use Rattle.value_text.proofs.Breaking.Wholes.{is_whole, goes_on, one_whole_fault, no_whole_fault, whole_told, whole_given}
use Rattle.value_text.proofs.reading.read_whole.Goals as goal

pub returns-in_err-value-clause-fault : goal.returns-in_err-value-clause-fault
returns-in_err-value-clause-fault c =
    let p = err_from_is_err_and c.from_residual.result c.from_residual.ensures.1 in
    rw (p.1, p.2) (whole_told c.args.schema.now c.args.ty.now c.args.text.now c.in_err-value.field-0.0 c.in_err-value.ensures.fault)

pub returns-in_err-value-clause-refused : goal.returns-in_err-value-clause-refused
returns-in_err-value-clause-refused c = λ at why fault.
    let p = err_from_is_err_and c.from_residual.result c.from_residual.ensures.1 in
    rw (p.1, p.2) (whole_given c.args.schema.now c.args.ty.now c.args.text.now c.in_err-value.field-0.0 at why c.in_err-value.ensures.fault fault)

pub returns-then-is_empty-clause-refused : goal.returns-then-is_empty-clause-refused
returns-then-is_empty-clause-refused c = λ at why fault.
    no_whole_fault c.args.schema.now c.args.ty.now c.args.text.now c.in_ok-value.value at why
    (is_whole c.args.schema.now c.args.ty.now c.args.text.now c.in_ok-value.value (drop c.in_ok-value.taken c.args.text.now) c.rest.result.now c.in_ok-value.ensures.spells (c.rest.ensures ∙ c.gap.ensures ∙ ap past_gap (c.new-after.ensures ∙ take_rest c.args.text.now c.in_ok-value.taken)) (sym c.is_empty.ensures ∙ c.if-is_empty.true)) fault

pub returns-else-is_empty-clause-fault : goal.returns-else-is_empty-clause-fault
returns-else-is_empty-clause-fault c =
    rw (c.place.ensures, c.rest-else-is_empty.ensures)
    (goes_on c.args.schema.now c.args.ty.now c.args.text.now c.in_ok-value.value (drop c.in_ok-value.taken c.args.text.now) c.gap.new.self c.in_ok-value.ensures.spells (c.gap.ensures ∙ ap past_gap (c.new-after.ensures ∙ take_rest c.args.text.now c.in_ok-value.taken)) (rw (← c.rest.ensures) (sym c.is_empty.ensures ∙ c.if-is_empty.false)))

pub returns-else-is_empty-clause-only : goal.returns-else-is_empty-clause-only
returns-else-is_empty-clause-only c = λ v whole. no_whole_fault c.args.schema.now c.args.ty.now c.args.text.now v c.place.result Unexpected whole (returns-else-is_empty-clause-fault c)

pub returns-else-is_empty-clause-refused : goal.returns-else-is_empty-clause-refused
returns-else-is_empty-clause-refused c = λ at why fault. one_whole_fault c.args.schema.now c.args.ty.now c.args.text.now c.place.result at Unexpected why (returns-else-is_empty-clause-fault c) fault
