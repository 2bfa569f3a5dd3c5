use Rattle.std.proofs.Common.{◌≡◌, Ok}
use Rattle.idl_load.specs.LoadAnswers.{ForRead, IsErrGiven}
use Rattle.idl_load.specs.Loading.{MAX_FILES, nothing_begun, visit, load_of}
use Rattle.idl_load.proofs.Bounds.{bounds}
use Rattle.idl_load.proofs.Seeing.{of_all}
use Rattle.idl_load.proofs.Steps.{loaded, not_loaded, load_error}
use Rattle.idl_load.proofs.loading.load_files.Goals as goal

pub returns-in_err-visit-clause-exact : goal.returns-in_err-visit-clause-exact
returns-in_err-visit-clause-exact g c =
    let told = g.F.Files.contents c.args.files.now in
    let e = c.in_err-visit.field-0.0 in
    let given : ForRead told (λ read. IsErrGiven e (visit MAX_FILES read c.new-progress.result c.args.name.now)) = of_all told c.new-progress.result.begun c.visit.new.progress.begun c.in_err-visit.ensures.exact in
    let inside : ForRead told (λ read. IsErrGiven e (visit MAX_FILES read nothing_begun c.args.name.now)) = rw (← c.new-progress.ensures) given in
    (inside.0, inside.1, λ read reads. load_error c.from_residual.result e (load_of read c.args.name.now) c.from_residual.ensures (not_loaded read c.args.name.now e (inside.2 read reads)))

pub returns-clause-exact : goal.returns-clause-exact
returns-clause-exact g c =
    let told = g.F.Files.contents c.args.files.now in
    let given : ForRead told (λ read. visit MAX_FILES read c.new-progress.result c.args.name.now ≡ Ok c.visit.new.progress) = of_all told c.new-progress.result.begun c.visit.new.progress.begun c.in_ok-visit.ensures.exact in
    let inside : ForRead told (λ read. visit MAX_FILES read nothing_begun c.args.name.now ≡ Ok c.visit.new.progress) = rw (← c.new-progress.ensures) given in
    (inside.0, inside.1, λ read reads. loaded read c.args.name.now c.visit.new.progress (inside.2 read reads))

pub returns-clause-few : goal.returns-clause-few
returns-clause-few g c = (bounds (g.F.Files.contents c.args.files.now) c.args.name.now c.visit.new.progress.done (returns-clause-exact g c)).0

pub returns-clause-short : goal.returns-clause-short
returns-clause-short g c = (bounds (g.F.Files.contents c.args.files.now) c.args.name.now c.visit.new.progress.done (returns-clause-exact g c)).1
