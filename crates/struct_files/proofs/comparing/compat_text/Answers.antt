use Rattle.std.proofs.Common.{Global}
use Rattle.schema_files.specs.declared.load_fault.LoadFault.TheVariants.{Memory}
use Rattle.struct_files.proofs.Compared.{by_fault, old_not_found, new_not_found, both_found, no_memory}
use Rattle.struct_files.proofs.comparing.compat_text.Goals as goal

pub returns-in_err-before-clause-exact : goal.returns-in_err-before-clause-exact
returns-in_err-before-clause-exact g c =
    let told = g.F.Files.contents c.args.files.now in
    by_fault Global told c.args.old.now c.args.new.now c.args.of.«module».now c.args.of.name.now c.in_err-before.field-0.0 c.from_residual.result c.from_residual.ensures
    (old_not_found Global told c.args.old.now c.args.new.now c.args.of.«module».now c.args.of.name.now c.in_err-before.field-0.0 c.in_err-before.ensures.exact)

pub returns-in_err-after-clause-exact : goal.returns-in_err-after-clause-exact
returns-in_err-after-clause-exact g c =
    let told = g.F.Files.contents c.args.files.now in
    by_fault Global told c.args.old.now c.args.new.now c.args.of.«module».now c.args.of.name.now c.in_err-after.field-0.0 c.from_residual-in_err-after.result c.from_residual-in_err-after.ensures
    (new_not_found Global told c.args.old.now c.args.new.now c.args.of.«module».now c.args.of.name.now c.in_ok-before.before c.in_ok-before.ensures.exact c.in_err-after.field-0.0 (rw c.find_struct.ensures.same at c.in_err-after.ensures.exact))

pub returns-in_err-agreement_line-clause-exact : goal.returns-in_err-agreement_line-clause-exact
returns-in_err-agreement_line-clause-exact g c =
    let told = g.F.Files.contents c.args.files.now in
    by_fault Global told c.args.old.now c.args.new.now c.args.of.«module».now c.args.of.name.now Memory c.from_residual-in_err-agreement_line.result c.from_residual-in_err-agreement_line.ensures
    (no_memory Global told c.args.old.now c.args.new.now c.args.of.«module».now c.args.of.name.now)

pub returns-clause-exact : goal.returns-clause-exact
returns-clause-exact g c =
    both_found Global (g.F.Files.contents c.args.files.now) c.args.old.now c.args.new.now c.args.of.«module».now c.args.of.name.now c.in_ok-before.before c.in_ok-before.ensures.exact c.in_ok-after.after c.in_ok-agreement_line.field-0 (rw c.find_struct.ensures.same at c.in_ok-after.ensures.exact) c.in_ok-agreement_line.ensures
