use Rattle.script_lines.proofs.Texts.{utf8_refuses}
use Rattle.script_lines.proofs.NumberLaws.{number_utf8, number_read}
use Rattle.script_lines.proofs.numbers.int_of.Goals as goal

pub returns-in_err-utf8 : goal.returns-in_err-utf8
returns-in_err-utf8 c = absurd (utf8_refuses c.args.text.now c.in_err-utf8.ensures (number_utf8 c.args.text.now c.requires))

pub returns : goal.returns
returns c = number_read c.args.text.now c.in_ok-utf8.field-0.now c.parse.result c.ok.result c.requires c.in_ok-utf8.ensures c.parse.ensures.value.0 c.ok.ensures.value
