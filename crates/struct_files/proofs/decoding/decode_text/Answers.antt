use Rattle.std.proofs.Common.{Global}
use Rattle.struct_files.specs.Decoding.{Decodes}
use Rattle.struct_files.proofs.Answering.{by_fault, by_text}
use Rattle.struct_files.proofs.OneDecoding.{decodes_single}
use Rattle.struct_files.proofs.decoding.decode_text.Goals as goal

pub returns-in_err-opened-clause-exact : goal.returns-in_err-opened-clause-exact
returns-in_err-opened-clause-exact g c =
    by_fault Global (Decodes c.args.hex.now) (decodes_single c.args.hex.now) (g.F.Files.contents c.args.files.now) c.args.file.now c.args.of.«module».now c.args.of.name.now c.args.hex.now c.in_err-opened.field-0.0 c.from_residual.result c.from_residual.ensures c.in_err-opened.ensures.exact

pub returns-clause-exact : goal.returns-clause-exact
returns-clause-exact g c =
    by_text Global (Decodes c.args.hex.now) (decodes_single c.args.hex.now) (g.F.Files.contents c.args.files.now) c.args.file.now c.args.of.«module».now c.args.of.name.now c.args.hex.now c.in_ok-opened.opened c.decoded.result c.in_ok-opened.ensures.exact c.decoded.ensures
