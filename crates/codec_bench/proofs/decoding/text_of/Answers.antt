use Rattle.std.proofs.Common.{◌∙◌}
use Rattle.codec_bench.proofs.StructFits.{struct_fits}
use Rattle.codec_bench.proofs.decoding.text_of.Goals as goal

pub print_value-requires : goal.print_value-requires
print_value-requires c = struct_fits c.args.schema.now c.args.number c.args.values ∙ c.requires
