-- Each step into a type leaves fewer levels. In the loop, what is left of both lists agrees as both did.
use Rattle.std.proofs.Common.{◌+◌, ◌*◌, drop}
use Rattle.tars_versions.specs.Agreement.{agree_within, members_agree}
use Rattle.tars_versions.proofs.Merging.{LeftAgree}
use Rattle.tars_versions.proofs.agreement.+agree.Given as goal

abbrev pub decreases-types_agree : goal.decreases-types_agree
decreases-types_agree l = 5 * l.levels

abbrev pub decreases-kinds_agree : goal.decreases-kinds_agree
decreases-kinds_agree l = 5 * l.levels + 4

abbrev pub decreases-elements_agree : goal.decreases-elements_agree
decreases-elements_agree l = 5 * l.levels + 3

abbrev pub decreases-structs_agree : goal.decreases-structs_agree
decreases-structs_agree l = 5 * l.levels + 3

abbrev pub decreases-members_agree : goal.decreases-members_agree
decreases-members_agree l = 5 * l.levels + 2

abbrev pub decreases-member_agrees : goal.decreases-member_agrees
decreases-member_agrees l = 5 * l.levels + 1

abbrev pub invariant-members_agree-loop-member : goal.invariant-members_agree-loop-member
invariant-members_agree-loop-member l =
    let inner = agree_within l.levels l.versions.old.now l.versions.new.now in
    LeftAgree inner l.left (drop l.member-index l.new) (members_agree inner l.fn.old l.fn.new)
