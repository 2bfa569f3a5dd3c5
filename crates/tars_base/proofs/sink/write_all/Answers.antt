use Rattle.std.proofs.Common.{arith}
use Rattle.std.proofs.lemmas.List.{take_rest}
use Rattle.tars_base.proofs.Owing.{owes_less}
use Rattle.tars_base.proofs.sink.write_all.Goals as goal

pub loop-rest-preserved : goal.loop-rest-preserved
loop-rest-preserved g c = record {
  kept = omega (arith, c.in_ok-taken.ensures.cause.kept);
  owes = rw take_rest (owes_less _ _ _ _ _ _ c.loop-rest.invariant.owes c.in_ok-taken.ensures.bytes);
}
