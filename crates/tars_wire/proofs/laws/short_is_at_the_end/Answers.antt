use Rattle.tars_wire.proofs.Machine.Faults.{short_at_the_end}
use Rattle.tars_wire.proofs.laws.short_is_at_the_end.Goals as goal

pub returns : goal.returns
returns c = short_at_the_end
