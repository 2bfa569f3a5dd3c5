use Rattle.std.proofs.Common.{rules}
use Rattle.script_lines.proofs.NumberLaws.{code_none, code_some}
use Rattle.script_lines.proofs.numbers.code_of.Goals as goal

pub returns-in_err-number : goal.returns-in_err-number
returns-in_err-number c = rw (code_none c.args.text.now (search rules)) (search rules)

pub returns : goal.returns
returns c = rw (code_some c.args.text.now c.in_ok-number.number (search rules) (search rules)) (search rules)
