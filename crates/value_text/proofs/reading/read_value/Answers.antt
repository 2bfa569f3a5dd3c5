use Rattle.std.proofs.Common.{length, sym, ap, ◌∙◌}
use Rattle.value_text.specs.ValueSteps.{value_at}
use Rattle.value_text.proofs.Breaking.Verdicts.{told_fault}
use Rattle.value_text.proofs.Readings.{read_spells, read_fits, read_octets, read_only, stopped, printed_spells, printed_read}
use Rattle.value_text.proofs.reading.read_value.Goals as goal

pub returns-in-Ok-clause-spells : goal.returns-in-Ok-clause-spells
returns-in-Ok-clause-spells c =
    rw (c.saturating_sub.ensures, c.rest.ensures) (read_spells c.args.schema.now c.args.ty.now c.args.text.now c.in-Ok.value c.read.new.cursor (ap (value_at (length c.args.text.now) c.args.schema.now c.args.ty.now) (sym c.new-cursor.ensures) ∙ c.in-Ok.ensures))

pub returns-in-Ok-clause-fits : goal.returns-in-Ok-clause-fits
returns-in-Ok-clause-fits c = read_fits c.args.schema.now c.args.ty.now c.args.text.now c.in-Ok.value c.read.new.cursor (ap (value_at (length c.args.text.now) c.args.schema.now c.args.ty.now) (sym c.new-cursor.ensures) ∙ c.in-Ok.ensures) c.requires

pub returns-in-Ok-clause-bytes : goal.returns-in-Ok-clause-bytes
returns-in-Ok-clause-bytes c =
    read_octets c.args.schema.now c.args.ty.now c.args.text.now c.in-Ok.value c.read.new.cursor (ap (value_at (length c.args.text.now) c.args.schema.now c.args.ty.now) (sym c.new-cursor.ensures) ∙ c.in-Ok.ensures)

pub returns-in-Ok-clause-only : goal.returns-in-Ok-clause-only
returns-in-Ok-clause-only c = λ v rest s. rw (c.saturating_sub.ensures, c.rest.ensures) (read_only c.args.schema.now c.args.ty.now c.args.text.now c.in-Ok.value c.read.new.cursor (ap (value_at (length c.args.text.now) c.args.schema.now c.args.ty.now) (sym c.new-cursor.ensures) ∙ c.in-Ok.ensures) v rest s)

pub returns-in-Err-Bad-clause-only : goal.returns-in-Err-Bad-clause-only
returns-in-Err-Bad-clause-only c =
    λ v rest s. stopped c.args.schema.now c.args.ty.now c.args.text.now c.new-cursor.result c.read.new.cursor c.in-Err-Bad.field-0 c.in-Err-Bad.why c.in-Err-Bad.field-0-is c.new-cursor.ensures c.in-Err-Bad.ensures v rest s

pub returns-in-Ok-clause-back : goal.returns-in-Ok-clause-back
returns-in-Ok-clause-back c =
    λ v rest fit bytes ends is. printed_read c.args.schema.now c.args.ty.now c.args.text.now v rest c.order.ensures.rules fit bytes ends is c.in-Ok.value c.saturating_sub.result (returns-in-Ok-clause-only c)

pub returns-in-Err-Bad-clause-back : goal.returns-in-Err-Bad-clause-back
returns-in-Err-Bad-clause-back c =
    λ v rest fit bytes ends is. returns-in-Err-Bad-clause-only c v rest (printed_spells c.args.schema.now c.args.ty.now c.args.text.now v rest c.order.ensures.rules fit bytes ends is)

pub returns-in-Err-Bad-clause-fault : goal.returns-in-Err-Bad-clause-fault
returns-in-Err-Bad-clause-fault c =
    rw (c.place.ensures, c.rest-in-Err-Bad.ensures) (told_fault c.args.schema.now c.args.ty.now c.args.text.now c.order.ensures.rules c.new-cursor.result c.read.new.cursor c.in-Err-Bad.field-0 c.in-Err-Bad.why c.in-Err-Bad.field-0-is c.new-cursor.ensures c.in-Err-Bad.ensures)
