use Rattle.std.specs.Prelude.{Ok, Err}
use Rattle.script_lines.specs.Views.{script_of}
use Rattle.script_load.proofs.LoadingSides.{ForServer, by_error, client_failed, server_failed, sides_loaded}
use Rattle.script_load.proofs.sides.load_sides.Goals as goal

pub returns-in_err-client-clause-exact : goal.returns-in_err-client-clause-exact
returns-in_err-client-clause-exact g c =
    let told = g.F.Files.contents c.args.files.now in
    let s = script_of c.args.script.now in
    by_error told s c.in_err-client.field-0.0 c.from_residual.result c.from_residual.ensures (client_failed told s c.in_err-client.field-0.0 c.in_err-client.ensures.exact)

pub returns-in_err-server-clause-exact : goal.returns-in_err-server-clause-exact
returns-in_err-server-clause-exact g c =
    let told = g.F.Files.contents c.args.files.now in
    let s = script_of c.args.script.now in
    let own : ForServer told s c.in_ok-client.client (Err c.in_err-server.field-0.0) = rw c.in_ok-client.ensures.same at c.in_err-server.ensures.exact in
    by_error told s c.in_err-server.field-0.0 c.from_residual-in_err-server.result c.from_residual-in_err-server.ensures
    (server_failed told s c.in_ok-client.client c.in_ok-client.ensures.exact c.in_err-server.field-0.0 own)

pub returns-clause-exact : goal.returns-clause-exact
returns-clause-exact g c =
    let told = g.F.Files.contents c.args.files.now in
    let s = script_of c.args.script.now in
    let own : ForServer told s c.in_ok-client.client (Ok c.in_ok-server.server) = rw c.in_ok-client.ensures.same at c.in_ok-server.ensures.exact in
    sides_loaded told s c.in_ok-client.client c.in_ok-client.ensures.exact c.in_ok-server.server own
