use Rattle.std.proofs.Common.{◌≡◌, take}
use Rattle.tars_model.specs.Values.{defaults_of}
use Rattle.tars_model.proofs.defaults.defaults_of.Given as goal

abbrev pub invariant-loop-member : goal.invariant-loop-member
invariant-loop-member l = l.defaults ≡ defaults_of (take l.member-index l.members)
