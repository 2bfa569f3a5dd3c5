use Rattle.std.proofs.Common.{length}
use Rattle.value_tables.proofs.bodies.+tags_rise.Given as goal

abbrev pub decreases-tags_rise : goal.decreases-tags_rise
decreases-tags_rise l = length l.members.now
