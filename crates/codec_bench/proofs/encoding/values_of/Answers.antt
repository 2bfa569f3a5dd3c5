use Rattle.std.proofs.Common.{sym, ◌∙◌}
use Rattle.codec_bench.proofs.StructFits.{struct_fits}
use Rattle.codec_bench.proofs.encoding.values_of.Goals as goal

pub returns-in-Struct-clause-fits : goal.returns-in-Struct-clause-fits
returns-in-Struct-clause-fits c =
    sym (struct_fits c.args.schema.now c.args.number c.in-Struct.values) ∙ rw (← c.in-Struct.is) c.in-Ok.ensures.fits
