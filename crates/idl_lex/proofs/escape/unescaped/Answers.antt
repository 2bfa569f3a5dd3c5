use Rattle.std.proofs.Common.{◌≡◌, ◌∙◌, get_or, rules}
use Rattle.idl_lex.specs.EscapeSteps.{escape_step, unescaped}
use Rattle.idl_lex.proofs.Lexing.Strings.EscapeLaws.{bytes_go_on, bytes_end}
use Rattle.idl_lex.proofs.escape.unescaped.Goals as goal

pub loop-byte-preserved : goal.loop-byte-preserved
loop-byte-preserved c =
    let step : c.step-next.result ≡ escape_step c.loop-byte.escape (get_or c.args.bytes.now c.loop-byte.byte-index 0) = search rules in
    rw (c.in_ok-add.ensures, step) (bytes_go_on c.loop-byte.plain.items c.loop-byte.escape c.args.bytes.now c.loop-byte.byte-index (unescaped c.args.bytes.now) c.loop-byte-test.true c.loop-byte.invariant)

pub returns : goal.returns
returns c =
    c.from_vec.ensures ∙ bytes_end c.loop-byte.plain.items c.loop-byte.escape c.args.bytes.now c.loop-byte.byte-index (unescaped c.args.bytes.now) c.loop-byte-test.false c.loop-byte.invariant
