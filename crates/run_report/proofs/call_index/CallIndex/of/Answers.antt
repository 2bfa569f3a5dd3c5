use Rattle.std.proofs.Common.{◌∷◌, rules}
use Rattle.run_report.proofs.CallTables.{last_done}
use Rattle.run_report.proofs.call_index.CallIndex.of.Goals as goal

pub loop-rest-preserved : goal.loop-rest-preserved
loop-rest-preserved c =
    let (done, same, held) = c.loop-rest.invariant in
    (c.row-item.result ∷ done, last_done c.args.rows.now c.loop-rest.rest.now done c.row-item.result c.in-len1-up.len_at_least (search rules) same, c.in_ok-add.ensures done held)
