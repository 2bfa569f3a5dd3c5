use Rattle.std.proofs.Common.{◌∙◌}
use Rattle.struct_files.proofs.StructFits.{struct_fits}
use Rattle.struct_files.proofs.decoding.value_line.Goals as goal

pub print_value-requires : goal.print_value-requires
print_value-requires c = struct_fits c.args.schema.now c.args.number c.args.values ∙ c.requires
