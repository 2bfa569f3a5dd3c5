-- For the proofs: how the private functions go about agreement.
use Rattle.std.specs.Prelude.{◌≡◌, ℕ, nat_lt, ◌==◌, if◌then◌else◌, Option, Some, None, Result, Ok, Err, List, [], ◌∷◌}
use Rattle.tars_model.specs.declared.member.Member.{Member}
use Rattle.tars_versions.specs.Agreement.{Agreement, agree, differ}
use Rattle.tars_versions.specs.Reasons.{Reason}

-- what a function returned is whether there is agreement
abbrev pub Tells : {U : Type 0} → Result U Reason → Agreement → Type 0
Tells (Ok u) agreement = agreement ≡ agree
Tells (Err reason) agreement = agreement ≡ differ reason

-- the members from the first one on whose tag is not below this one
unfoldable pub from_tag : ℕ → List Member → List Member
from_tag tag [] = []
from_tag tag (m ∷ ms) = if nat_lt m.tag tag then from_tag tag ms else m ∷ ms

-- the first member, where it has the tag
abbrev pub first_with : ℕ → List Member → Option Member
first_with tag [] = None
first_with tag (m ∷ ms) = if m.tag == tag then Some m else None
