use Rattle.std.proofs.Common.{sym, ◌∙◌}
use Rattle.struct_files.proofs.Found.{by_fault, not_declared, is_declared}
use Rattle.struct_files.proofs.finding.find_struct.Goals as goal

pub returns-in_err-schema-clause-exact : goal.returns-in_err-schema-clause-exact
returns-in_err-schema-clause-exact g c =
    by_fault (g.F.Files.contents c.args.files.now) c.args.file.now c.args.of.«module».now c.args.of.name.now c.in_err-schema.field-0.0 c.from_residual.result c.from_residual.ensures c.in_err-schema.ensures.exact

pub returns-in_default-clause-exact : goal.returns-in_default-clause-exact
returns-in_default-clause-exact g c =
    not_declared (g.F.Files.contents c.args.files.now) c.args.file.now c.args.of.«module».now c.args.of.name.now c.in_ok-schema.schema c.in_ok-schema.ensures.exact c.refused.result (sym c.number_of.ensures ∙ c.in_default.is) (rw c.as_bytes.ensures.value at c.refused.ensures)

pub returns-clause-exact : goal.returns-clause-exact
returns-clause-exact g c =
    is_declared (g.F.Files.contents c.args.files.now) c.args.file.now c.args.of.«module».now c.args.of.name.now c.in_ok-schema.schema c.in_ok-schema.ensures.exact c.in-Some.number (sym c.number_of.ensures ∙ c.in-Some.is)
