use Rattle.std.proofs.Common.{Global, arith}
use Rattle.hex_text.specs.HexText.{IsHexFault}
use Rattle.hex_text.proofs.CallerLemmas.{half_as_long}
use Rattle.schema_files.specs.Refusals.{refusal_line, fault_at}
use Rattle.schema_files.specs.declared.stage.Stage.TheVariants.{Hex}
use Rattle.struct_files.specs.Decoding.{Decodes, bad_hex}
use Rattle.struct_files.proofs.Coming.{by_line}
use Rattle.struct_files.proofs.decoding.decoded.Goals as goal

pub values_decoded-requires-clause-short : goal.values_decoded-requires-clause-short
values_decoded-requires-clause-short c =
    rw c.deref-in-Ok.ensures.value (omega (arith, half_as_long c.in-Ok.bytes.items c.deref.result.now c.in-Ok.ensures.judged, c.deref.ensures.len, c.requires))

pub returns-in-Err-Bad : goal.returns-in-Err-Bad
returns-in-Err-Bad c =
    let text = c.args.opened.now.text.items in
    let fault : IsHexFault text c.in-Err-Bad.at = rw (c.in-Err-Bad.field-0-is, c.deref.ensures.value) at c.in-Err-Bad.ensures.judged in
    by_line Global (Decodes c.args.file.now c.args.opened.now.schema c.args.opened.now.number text) (refusal_line c.args.file.now (fault_at Hex 1 c.in-Err-Bad.at)) c.bad_hex.result (bad_hex c.in-Err-Bad.at fault) c.bad_hex.ensures
