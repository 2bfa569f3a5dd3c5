-- What the files held while they were read, whether that is told or not.
use Rattle.std.proofs.Common.{zero, suc, Option, Some, None, refl}
use Rattle.tars_base.specs.Contents.{Contents, Held, AreTold, IsHeld}

pub any_contents : (told : Option Contents) → (c : Contents) × AreTold told c
any_contents None = (λ name. None, tt)
any_contents (Some c) = (c, λ name. refl)

-- the files hold this all the time
abbrev pub always : Contents → Held
always contents step = contents

pub any_held : (told : Option Contents) → (held : Held) × IsHeld told held
any_held told = let any = any_contents told in (always any.0, λ step. any.1)

-- what is held at first, and what from then on
abbrev pub held_in : Contents → Contents → Held
held_in first later zero = first
held_in first later (suc step) = later

pub held_told : (told : Option Contents) (first later : Contents) → AreTold told first → AreTold told later → IsHeld told (held_in first later)
held_told told first later a b zero = a
held_told told first later a b (suc step) = b
