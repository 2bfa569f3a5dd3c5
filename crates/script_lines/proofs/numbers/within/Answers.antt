use Rattle.std.proofs.Common.{rules, arith}
use Rattle.script_lines.proofs.NumberLaws.{within_none, within_some}
use Rattle.script_lines.proofs.numbers.within.Goals as goal

pub returns-in_err-number-clause-value : goal.returns-in_err-number-clause-value
returns-in_err-number-clause-value c = rw (within_none c.args.low c.args.high c.args.text.now (omega (arith, c.ranges.high.fits)) (search rules)) (search rules)

pub returns-clause-value : goal.returns-clause-value
returns-clause-value c = rw (within_some c.args.low c.args.high c.in_ok-number.number c.args.text.now (omega (arith, c.ranges.high.fits)) (search rules)) (search rules)
