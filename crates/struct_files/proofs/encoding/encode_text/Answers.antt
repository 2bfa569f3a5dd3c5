use Rattle.std.proofs.Common.{Global}
use Rattle.struct_files.specs.Encoding.{Encodes}
use Rattle.struct_files.proofs.Answering.{by_fault, by_text}
use Rattle.struct_files.proofs.OneEncoding.{encodes_single}
use Rattle.struct_files.proofs.encoding.encode_text.Goals as goal

pub returns-in_err-opened-clause-exact : goal.returns-in_err-opened-clause-exact
returns-in_err-opened-clause-exact g c =
    by_fault Global (Encodes c.args.values.now) (encodes_single c.args.values.now) (g.F.Files.contents c.args.files.now) c.args.file.now c.args.of.«module».now c.args.of.name.now c.args.values.now c.in_err-opened.field-0.0 c.from_residual.result c.from_residual.ensures c.in_err-opened.ensures.exact

pub returns-clause-exact : goal.returns-clause-exact
returns-clause-exact g c =
    by_text Global (Encodes c.args.values.now) (encodes_single c.args.values.now) (g.F.Files.contents c.args.files.now) c.args.file.now c.args.of.«module».now c.args.of.name.now c.args.values.now c.in_ok-opened.opened c.encoded.result c.in_ok-opened.ensures.exact c.encoded.ensures
