use Rattle.std.proofs.Common.{sym, ◌∙◌}
use Rattle.struct_files.proofs.StructFits.{struct_fits}
use Rattle.struct_files.proofs.encoding.values_of.Goals as goal

pub returns-clause-fits : goal.returns-clause-fits
returns-clause-fits c =
    sym (struct_fits c.args.opened.now.schema c.args.opened.now.number c.in-Struct.values) ∙ rw (← c.in-Struct.is) c.in_ok-values.ensures.fits
