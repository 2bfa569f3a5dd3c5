use Rattle.servant_core.proofs.Sums.{no_number}
use Rattle.servant_core.proofs.replying.sum_of.Goals as goal

pub returns-in_err-sum-clause-none : goal.returns-in_err-sum-clause-none
returns-in_err-sum-clause-none c none fit =
    no_number c.args.schema.now c.args.ty.now c.args.first c.args.second c.checked_add.result c.ranges.first c.ranges.second
    c.checked_add.ensures c.in_err-sum.was fit
