use Rattle.std.proofs.Common.{Global}
use Rattle.struct_files.proofs.Opened.{by_fault, not_found, not_read, both_read}
use Rattle.struct_files.proofs.opening.open.Goals as goal

pub returns-in_err-found-clause-exact : goal.returns-in_err-found-clause-exact
returns-in_err-found-clause-exact g c =
    let told = g.F.Files.contents c.args.files.now in
    by_fault told c.args.file.now c.args.of.«module».now c.args.of.name.now c.args.values.now c.in_err-found.field-0.0 c.from_residual.result c.from_residual.ensures
    (not_found told c.args.file.now c.args.of.«module».now c.args.of.name.now c.args.values.now c.in_err-found.field-0.0 c.in_err-found.ensures.exact)

pub returns-in_err-text-clause-exact : goal.returns-in_err-text-clause-exact
returns-in_err-text-clause-exact g c =
    let told = g.F.Files.contents c.args.files.now in
    by_fault told c.args.file.now c.args.of.«module».now c.args.of.name.now c.args.values.now c.in_err-text.field-0.0 c.from_residual-in_err-text.result c.from_residual-in_err-text.ensures
    (not_read told c.args.file.now c.args.of.«module».now c.args.of.name.now c.args.values.now c.in_ok-found.found c.in_ok-found.ensures.exact Global c.in_err-text.field-0.0 (rw c.find_struct.ensures.same at c.in_err-text.ensures.exact))

pub returns-clause-exact : goal.returns-clause-exact
returns-clause-exact g c =
    both_read (g.F.Files.contents c.args.files.now) c.args.file.now c.args.of.«module».now c.args.of.name.now c.args.values.now c.in_ok-found.found c.in_ok-found.ensures.exact Global c.in_ok-text.text (rw c.find_struct.ensures.same at c.in_ok-text.ensures.exact)
