-- What is left has the same end as all of them.
use Rattle.std.proofs.Common.{◌≡◌, length}
use Rattle.tars_versions.specs.AgreementSteps.{from_tag}
use Rattle.tars_versions.proofs.agreement.from_tag.Given as goal

abbrev pub invariant-loop-left : goal.invariant-loop-left
invariant-loop-left l = from_tag l.tag l.left ≡ from_tag l.tag l.fn.members

abbrev pub decreases-loop-left : goal.decreases-loop-left
decreases-loop-left l = length l.left
