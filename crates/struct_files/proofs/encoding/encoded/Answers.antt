use Rattle.std.proofs.Common.{Global, ap, ◌∙◌, List}
use Rattle.schema_files.specs.Refusals.{refusal_line, fault_at}
use Rattle.schema_files.specs.declared.stage.Stage.TheVariants.{Value}
use Rattle.struct_files.specs.Encoding.{Encodes, bad_value, body, hex_line}
use Rattle.struct_files.proofs.Coming.{by_line, by_text}
use Rattle.tars_codec.specs.Written.{written}
use Rattle.tars_model.specs.Declarations.{members_at}
use Rattle.tars_model.specs.declared.ty.Ty.TheVariants.{Struct}
use Rattle.tars_model.specs.declared.value.Value.{Value as Made}
use Rattle.value_text.specs.Faults.{WholeFaultOf}
use Rattle.value_text.specs.ValueWhy.{number_of}
use Rattle.struct_files.proofs.encoding.encoded.Goals as goal

pub returns-in-Err-Bad : goal.returns-in-Err-Bad
returns-in-Err-Bad c =
    let d = c.args.opened.now.schema in
    let number = c.args.opened.now.number in
    let text = c.args.opened.now.text.items in
    let fault : WholeFaultOf d (Struct number) text c.in-Err-Bad.at c.in-Err-Bad.why = rw c.in-Err-Bad.field-0-is at c.in-Err-Bad.ensures.fault in
    by_line Global (Encodes c.args.file.now d number text) (refusal_line c.args.file.now (fault_at Value (number_of c.in-Err-Bad.why) c.in-Err-Bad.at)) c.bad_value.result (bad_value c.in-Err-Bad.at c.in-Err-Bad.why fault) c.bad_value.ensures

pub returns : goal.returns
returns c =
    let d = c.args.opened.now.schema in
    let number = c.args.opened.now.number in
    let text = c.args.opened.now.text.items in
    let vs = c.in-Ok.values in
    by_text Global (Encodes c.args.file.now d number text) (hex_line (written d (members_at d number) vs)) c.in_ok-hex_line.field-0 (body vs c.in-Ok.ensures.says)
    (c.in_ok-hex_line.ensures ∙ ap hex_line (c.deref.ensures.value ∙ c.in_ok-body.ensures ∙ ap (λ (own : List Made). written d (members_at d number) own) c.as_slice.ensures))
