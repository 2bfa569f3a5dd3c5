use Rattle.std.proofs.Common.{rules}
use Rattle.script_lines.proofs.Texts.{utf8_refuses}
use Rattle.script_lines.proofs.NumberLaws.{natural_utf8, natural_read}
use Rattle.script_lines.proofs.numbers.natural.Goals as goal

pub returns-in_err-utf8 : goal.returns-in_err-utf8
returns-in_err-utf8 c = absurd (utf8_refuses c.args.text.now c.in_err-utf8.ensures (natural_utf8 c.args.text.now (search rules)))

pub returns : goal.returns
returns c = natural_read c.args.text.now c.in_ok-utf8.field-0.now c.parse.result c.ok.result (search rules) c.in_ok-utf8.ensures c.parse.ensures.value.0 c.ok.ensures.value
