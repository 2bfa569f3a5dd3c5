use Rattle.std.proofs.Common.{arith, ap, length, List}
use Rattle.tars_model.specs.declared.struct_desc.StructDesc.{StructDesc}
use Rattle.codec_bench.proofs.LastDeclared.{declares_last}
use Rattle.codec_bench.proofs.opening.open.Goals as goal

pub returns : goal.returns
returns c =
    declares_last c.args.interface.now c.in-Ok.file c.in-Ok-check.schema c.in_ok-number.number c.in-Ok.ensures.kept c.entries-entries.ensures.file
    (rw c.from_ref.ensures.value at c.in-Ok-check.ensures)
    (omega (arith, ap (λ (ss : List StructDesc). length ss) c.structs.ensures, c.in-Ok-try_from.ensures, c.in_ok-number.ensures))
