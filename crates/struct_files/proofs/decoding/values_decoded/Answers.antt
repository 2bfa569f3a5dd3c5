use Rattle.std.proofs.Common.{Global}
use Rattle.struct_files.specs.Decoding.{Decodes, value_line}
use Rattle.struct_files.proofs.Coming.{by_text, values_read, refused_so}
use Rattle.struct_files.proofs.decoding.values_decoded.Goals as goal

pub returns-in_ok-value_line-in-Ok : goal.returns-in_ok-value_line-in-Ok
returns-in_ok-value_line-in-Ok c =
    let d = c.args.opened.now.schema in
    let number = c.args.opened.now.number in
    let text = c.args.opened.now.text.items in
    by_text Global (Decodes c.args.file.now d number text) (value_line d number c.in-Ok.values) c.in_ok-value_line-in-Ok.field-0
    (values_read c.args.file.now d number text c.args.bytes.now c.requires.spelt c.in-Ok.values c.in-Ok.ensures.judged c.in-Ok.ensures.reads) c.in_ok-value_line-in-Ok.ensures

pub returns-in-Err : goal.returns-in-Err
returns-in-Err c =
    refused_so c.args.file.now c.args.opened.now.schema c.args.opened.now.number c.args.opened.now.text.items c.args.bytes.now c.requires.spelt Global c.in-Err.why c.bad_bytes.result c.in-Err.ensures.judged c.in-Err.ensures.reads c.bad_bytes.ensures
