use Rattle.std.proofs.Common.{◌≡◌, length}
use Rattle.tars_base.proofs.Owing.{Owes}
use Rattle.tars_base.proofs.sink.write_all.Given as goal

abbrev pub invariant-loop-rest : goal.invariant-loop-rest
invariant-loop-rest g l = record {
  kept : g.S.Sink.faults l.out ≡ g.S.Sink.faults l.initial.out;
  owes : Owes (g.S.Sink.written l.initial.out) (g.S.Sink.written l.out) l.text l.rest;
}

abbrev pub decreases-loop-rest : goal.decreases-loop-rest
decreases-loop-rest g l = length l.rest
