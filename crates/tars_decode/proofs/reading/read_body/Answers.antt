use Rattle.std.proofs.Common.{sym, ap, ◌∙◌}
use Rattle.tars_decode.specs.declared.halt.Halt.TheVariants.{Refused}
use Rattle.tars_decode.specs.declared.halt.Refusal.TheVariants.{Missing, Mismatch}
use Rattle.tars_decode.specs.Reads.{reads}
use Rattle.tars_decode.proofs.SchemaLaws.{structs_rise}
use Rattle.tars_decode.proofs.SchemaDefaults.{struct_defaults}
use Rattle.tars_decode.proofs.Laws.Joined.{never_stopped, joined_ok, joined_err}
use Rattle.tars_decode.proofs.Laws.Contents.{body_law}
use Rattle.tars_decode.proofs.Fitting.Contents.{body_fits}
use Rattle.tars_decode.proofs.reading.read_body.Goals as goal

pub unreachable-requires : goal.unreachable-requires
unreachable-requires c =
    let b = body_law c.args.schema.now c.args.members.now (structs_rise c.requires.schema) c.requires.members.rising c.requires.body.spelled in
    never_stopped (reads c.args.schema.now c.args.members.now c.requires.body.fields) b.rest (sym b.is ∙ (rw c.in-Err-Stopped.field-0-is at c.in-Err-Stopped.ensures))

pub returns-in-Ok-clause-reads : goal.returns-in-Ok-clause-reads
returns-in-Ok-clause-reads c = λ fields spelled.
    let b = body_law c.args.schema.now c.args.members.now (structs_rise c.requires.schema) c.requires.members.rising spelled in
    joined_ok (reads c.args.schema.now c.args.members.now fields) b.rest c.in-Ok.values c.in-Ok.field-0-1.now (sym b.is ∙ c.in-Ok.ensures)

pub returns-in-Err-Refused-Missing-clause-reads : goal.returns-in-Err-Refused-Missing-clause-reads
returns-in-Err-Refused-Missing-clause-reads c = λ fields spelled.
    let b = body_law c.args.schema.now c.args.members.now (structs_rise c.requires.schema) c.requires.members.rising spelled in
    let m = c.in-Err-Refused-Missing in
    joined_err (reads c.args.schema.now c.args.members.now fields) b.rest (Missing m.path) (sym b.is ∙ (rw (m.field-0-is ∙ ap Refused m.field-0-0-is) at m.ensures))

pub returns-in-Err-Refused-Mismatch-clause-reads : goal.returns-in-Err-Refused-Mismatch-clause-reads
returns-in-Err-Refused-Mismatch-clause-reads c = λ fields spelled.
    let b = body_law c.args.schema.now c.args.members.now (structs_rise c.requires.schema) c.requires.members.rising spelled in
    let m = c.in-Err-Refused-Mismatch in
    joined_err (reads c.args.schema.now c.args.members.now fields) b.rest (Mismatch m.path m.why) (sym b.is ∙ (rw (m.field-0-is ∙ ap Refused m.field-0-0-is) at m.ensures))

pub returns-in-Ok-clause-fits : goal.returns-in-Ok-clause-fits
returns-in-Ok-clause-fits c =
    let b = body_law c.args.schema.now c.args.members.now (structs_rise c.requires.schema) c.requires.members.rising c.requires.body.spelled in
    let is = joined_ok (reads c.args.schema.now c.args.members.now c.requires.body.fields) b.rest c.in-Ok.values c.in-Ok.field-0-1.now (sym b.is ∙ c.in-Ok.ensures) in
    body_fits c.requires.body.spelled c.args.schema.now c.args.members.now c.in-Ok.values (struct_defaults c.requires.schema) c.requires.members.defaults is
