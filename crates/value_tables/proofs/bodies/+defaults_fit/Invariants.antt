use Rattle.std.proofs.Common.{length}
use Rattle.value_tables.proofs.bodies.+defaults_fit.Given as goal

abbrev pub decreases-defaults_fit : goal.decreases-defaults_fit
decreases-defaults_fit l = length l.members.now
