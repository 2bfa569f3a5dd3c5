use Rattle.idl_check.proofs.Canonical.{printed_declares}
use Rattle.idl_check.proofs.printing.print.Goals as goal

pub returns-clause-reads_back : goal.returns-clause-reads_back
returns-clause-reads_back c = printed_declares (λ t. t.items) c.args.schema.now c.print.ensures.rules c.print.result c.print.ensures.text
