use Rattle.std.specs.Prelude.{Ok, Err}
use Rattle.script_lines.specs.Views.{script_of}
use Rattle.script_load.proofs.LoadingSides.{ForSides}
use Rattle.script_load.proofs.WhatLoads.{WasRead, by_error, no_file, no_form, no_sides, not_judged, judged}
use Rattle.script_load.proofs.loading.load_plan.Goals as goal

pub returns-in_err-text-clause-exact : goal.returns-in_err-text-clause-exact
returns-in_err-text-clause-exact g c =
    let told = g.F.Files.contents c.args.files.now in
    by_error told c.args.name.now c.in_err-text.field-0.0 c.from_residual.result c.from_residual.ensures
    (no_file told c.args.name.now c.read_file.result c.read_file.ensures.exact c.in_err-text.field-0.0 c.in_err-text.was)

pub returns-in-Err-clause-exact : goal.returns-in-Err-clause-exact
returns-in-Err-clause-exact g c =
    let told = g.F.Files.contents c.args.files.now in
    let read : WasRead told c.args.name.now c.deref.result.now = rw c.deref.ensures.value c.in_ok-text.ensures.exact in
    no_form told c.args.name.now c.deref.result.now read c.in-Err.refusal c.no_script.result c.in-Err.ensures.fault c.no_script.ensures

pub returns-in_err-sides-clause-exact : goal.returns-in_err-sides-clause-exact
returns-in_err-sides-clause-exact g c =
    let told = g.F.Files.contents c.args.files.now in
    let read : WasRead told c.args.name.now c.deref.result.now = rw c.deref.ensures.value c.in_ok-text.ensures.exact in
    let given : ForSides told (script_of c.in-Ok.script) (Err c.in_err-sides.field-0.0) = rw c.in_ok-text.ensures.same at c.in_err-sides.ensures.exact in
    by_error told c.args.name.now c.in_err-sides.field-0.0 c.from_residual-in_err-sides.result c.from_residual-in_err-sides.ensures
    (no_sides told c.args.name.now c.deref.result.now read (script_of c.in-Ok.script) c.in-Ok.ensures.read c.in_err-sides.field-0.0 given)

pub returns-in-Ok-session_of-clause-exact : goal.returns-in-Ok-session_of-clause-exact
returns-in-Ok-session_of-clause-exact g c =
    let told = g.F.Files.contents c.args.files.now in
    let read : WasRead told c.args.name.now c.deref.result.now = rw c.deref.ensures.value c.in_ok-text.ensures.exact in
    let given : ForSides told (script_of c.in-Ok.script) (Ok c.in_ok-sides.sides) = rw c.in_ok-text.ensures.same at c.in_ok-sides.ensures.exact in
    judged told c.args.name.now c.deref.result.now read (script_of c.in-Ok.script) c.in-Ok.ensures.read c.in_ok-sides.sides given c.in-Ok-session_of.loaded c.in-Ok-session_of.ensures.session

pub returns-clause-exact : goal.returns-clause-exact
returns-clause-exact g c =
    let told = g.F.Files.contents c.args.files.now in
    let read : WasRead told c.args.name.now c.deref.result.now = rw c.deref.ensures.value c.in_ok-text.ensures.exact in
    let given : ForSides told (script_of c.in-Ok.script) (Ok c.in_ok-sides.sides) = rw c.in_ok-text.ensures.same at c.in_ok-sides.ensures.exact in
    not_judged told c.args.name.now c.deref.result.now read (script_of c.in-Ok.script) c.in-Ok.ensures.read c.in_ok-sides.sides given c.in-Err-session_of.refusal c.not_judged.result
    c.in-Err-session_of.ensures.fault c.not_judged.ensures
