use Rattle.std.proofs.Common.{List, Ok, Err, subst}
use Rattle.idl_check.specs.Checked.{IsChecked}
use Rattle.idl_parse.specs.Files.{File}
use Rattle.schema_files.specs.LoadSteps.{IsNotChecked}
use Rattle.schema_files.proofs.SchemaLoading.{files_short, not_loaded, not_checked, checked}
use Rattle.schema_files.proofs.schema_loading.load_schema.Goals as goal

pub returns-in-Err-clause-exact : goal.returns-in-Err-clause-exact
returns-in-Err-clause-exact g c =
    not_loaded (g.F.Files.contents c.args.files.now) c.args.name.now c.in-Err.fault c.not_loaded.result c.in-Err.ensures.exact c.not_loaded.ensures

pub check-requires-clause-short : goal.check-requires-clause-short
check-requires-clause-short g c = rw c.as_slice.ensures (files_short c.in-Ok.found c.in-Ok.ensures.few c.in-Ok.ensures.short)

pub returns-in-Ok-check-clause-exact : goal.returns-in-Ok-check-clause-exact
returns-in-Ok-check-clause-exact g c =
    let is : IsChecked c.in-Ok.found (Ok c.in-Ok-check.schema) = rw (← c.as_slice.ensures) c.in-Ok-check.ensures in
    checked (g.F.Files.contents c.args.files.now) c.args.name.now c.in-Ok.found c.in-Ok-check.schema c.in-Ok.ensures.exact is

pub returns-clause-exact : goal.returns-clause-exact
returns-clause-exact g c =
    let is = subst (λ (fs : List File). IsChecked fs (Err c.in-Err-check.fault)) c.as_slice.ensures c.in-Err-check.ensures in
    let by = subst (λ (fs : List File). IsNotChecked fs c.in-Err-check.fault c.not_checked.result) c.as_slice-in-Err-check.ensures c.not_checked.ensures in
    not_checked (g.F.Files.contents c.args.files.now) c.args.name.now c.in-Ok.found c.in-Err-check.fault c.not_checked.result c.in-Ok.ensures.exact is by
