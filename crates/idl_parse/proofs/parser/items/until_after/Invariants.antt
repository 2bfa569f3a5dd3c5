use Rattle.std.proofs.Common.{◌≡◌, length}
use Rattle.idl_parse.specs.ReadSteps.{with_prefix, until_at}
use Rattle.idl_parse.proofs.parser.items.until_after.Given as goal

abbrev pub invariant-items : goal.invariant-items
invariant-items g l = with_prefix l.items (until_at l.close g.T.Item.reading l.tokens) ≡ with_prefix l.fn.before (until_at l.close g.T.Item.reading l.fn.tokens)

abbrev pub decreases-items : goal.decreases-items
decreases-items g l = length l.tokens
