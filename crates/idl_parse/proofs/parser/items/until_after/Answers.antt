use Rattle.std.proofs.Common.{◌≡◌, true, false, rules}
use Rattle.std.proofs.lemmas.Result.{err_from_is_err_and}
use Rattle.idl_parse.specs.KindSteps.{begins}
use Rattle.idl_parse.specs.ReadSteps.{with_prefix, until_at}
use Rattle.idl_lex.specs.declared.kind.Kind.TheVariants.{Sign}
use Rattle.idl_parse.proofs.Parsing.Repeating.LoopSteps.{loop_goes_on, loop_fails, loop_ends, loop_end_fails}
use Rattle.idl_parse.proofs.parser.items.until_after.Goals as goal

pub returns-in_err-item : goal.returns-in_err-item
returns-in_err-item g c =
    let f = g.T.Item.reading in
    let b : begins (Sign c.args.close) c.items.tokens ≡ false = search rules in
    let p = err_from_is_err_and c.from_residual.result c.from_residual.ensures.1 in
    rw (p.1, p.2) (loop_fails c.args.close f c.requires c.in_err-item.field-0.0 c.read.new.tokens c.items.items c.items.tokens (with_prefix c.args.before (until_at c.args.close f c.args.tokens.now)) b c.in_err-item.ensures c.items.invariant)

pub items-preserved : goal.items-preserved
items-preserved g c =
    let f = g.T.Item.reading in
    let b : begins (Sign c.args.close) c.items.tokens ≡ false = search rules in
    rw c.in_ok-push.ensures.ok (loop_goes_on c.args.close f c.requires c.items.items c.items.tokens c.in_ok-item.item c.read.new.tokens (with_prefix c.args.before (until_at c.args.close f c.args.tokens.now)) b c.in_ok-item.ensures c.items.invariant)

pub returns-in_err-expect : goal.returns-in_err-expect
returns-in_err-expect g c =
    let f = g.T.Item.reading in
    let b : begins (Sign c.args.close) c.items.tokens ≡ true = search rules in
    let p = err_from_is_err_and c.from_residual-in_err-expect.result c.from_residual-in_err-expect.ensures.1 in
    rw (p.1, p.2) (loop_end_fails c.args.close f c.requires c.in_err-expect.field-0.0 c.expect.new.self c.items.items c.items.tokens (with_prefix c.args.before (until_at c.args.close f c.args.tokens.now)) b c.in_err-expect.ensures c.items.invariant)

pub returns : goal.returns
returns g c =
    let f = g.T.Item.reading in
    let b : begins (Sign c.args.close) c.items.tokens ≡ true = search rules in
    loop_ends c.args.close f c.requires c.items.items c.items.tokens _ c.expect.new.self (with_prefix c.args.before (until_at c.args.close f c.args.tokens.now)) b c.in_ok-expect.ensures c.items.invariant
