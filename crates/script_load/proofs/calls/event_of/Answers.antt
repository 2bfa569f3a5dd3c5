use Rattle.std.proofs.Common.{◌≡◌}
use Rattle.script_lines.specs.Views.{event_line}
use Rattle.script_load.proofs.Named.{on_error}
use Rattle.script_load.specs.LineFaults.{HasEventFault}
use Rattle.script_load.proofs.calls.event_of.Goals as goal

pub returns-in_err-call_of-in-Call-clause-fault : goal.returns-in_err-call_of-in-Call-clause-fault
returns-in_err-call_of-in-Call-clause-fault c =
    on_error (λ f. (f.at ≡ c.args.line.now.at) × HasEventFault c.args.schema.now c.args.funcs.now (event_line c.args.line.now).event f.why)
    c.from_residual.result c.in_err-call_of-in-Call.field-0.0 c.from_residual.ensures (rw c.in-Call.is c.in_err-call_of-in-Call.ensures.fault)
