use Rattle.std.proofs.Common.{◌+◌, ◌*◌, ◌<◌, get_or, drop, arith}
use Rattle.std.proofs.lemmas.Grind.{common_steps}
use Rattle.std.proofs.lemmas.Bool.Decides.{nat_tests}
use Rattle.std.proofs.lemmas.List.{at_drop_more}
use Rattle.std.specs.Char.{digit_value}
use Rattle.std.specs.Str.Parse.{digits_value, digits_value_after}
use Rattle.idl_lex.specs.LexSteps.{is_at_most}
use Rattle.idl_lex.proofs.Lexing.Numbers.DigitLaws.{le-digits_value_after}
use Rattle.idl_lex.proofs.numbers.value_at_most.Goals as goal

pub returns-then-next-from : goal.returns-then-next-from
unfolding is_at_most
returns-then-next-from c =
    let l = c.digits in
    let digits = c.args.digits.now in
    let base = c.args.base in
    let next = l.value * base + digit_value (get_or digits l.byte-index 0) in
    let turn = at_drop_more (digits_value_after base l.value) digits l.byte-index 0 c.digits-test.true in
    let grown = le-digits_value_after base next (drop (l.byte-index + 1) digits) (omega (arith, c.requires.low)) in
    let large : c.args.most < digits_value base digits = grind (arith, common_steps) in
    grind (arith, nat_tests, common_steps)
