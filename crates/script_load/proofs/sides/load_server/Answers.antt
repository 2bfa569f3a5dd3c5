use Rattle.std.specs.Prelude.{None, Result, Ok, Err, IsErr, IsErrAnd}
use Rattle.std.proofs.Common.{◌≡◌, sym, subst}
use Rattle.schema_files.proofs.Held.{any_contents}
use Rattle.schema_files.specs.declared.load_fault.LoadFault.{LoadFault}
use Rattle.schema_files.specs.declared.load_fault.LoadFault.TheVariants.{Memory}
use Rattle.tars_base.specs.Contents.{Contents}
use Rattle.tars_model.specs.Declarations.{Declared}
use Rattle.script_load.specs.LoadSteps.{IsServerAnswered}
use Rattle.script_load.proofs.sides.load_server.Goals as goal

-- want of memory says nothing of the server's schema
no_memory : (later : Contents) (client : Declared) (result : Result Declared LoadFault) → IsErr result × IsErrAnd result (λ x. x ≡ Memory) → IsServerAnswered later client None result
no_memory later client (Ok d) is = absurd (cc (is.0))
no_memory later client (Err own) is = subst (λ (f : LoadFault). IsServerAnswered later client None (Err f)) (sym is.1) tt

pub returns-in_err-copy-in-None-clause-exact : goal.returns-in_err-copy-in-None-clause-exact
returns-in_err-copy-in-None-clause-exact g c =
    let any = any_contents (g.F.Files.contents c.args.files.now) in
    (any.0, any.1, rw c.in-None.is (no_memory any.0 c.args.client.now c.from_residual.result c.from_residual.ensures))

pub returns-in_ok-copy-in-None-clause-exact : goal.returns-in_ok-copy-in-None-clause-exact
returns-in_ok-copy-in-None-clause-exact g c =
    let any = any_contents (g.F.Files.contents c.args.files.now) in
    (any.0, any.1, rw c.in-None.is c.in_ok-copy-in-None.ensures)
