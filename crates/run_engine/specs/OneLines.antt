-- For the proofs: the calls that a table of one line has.
use Rattle.std.specs.Prelude.{◌≡◌, ℕ, suc, false, Option, Some, None, option_map, List, [], ◌∷◌, slice_get}
use Rattle.std.specs.List.{AllByRecursion}
use Rattle.run_engine.specs.Claims.{Claim, MayFit, told}
use Rattle.run_engine.specs.declared.fate.Fate.{Fate}
use Rattle.run_engine.specs.declared.fate.Fate.TheVariants.{Closed}
use Rattle.run_engine.specs.declared.one_line.Opened.{Opened}

abbrev pub claim_at : ℕ → Opened → Claim
claim_at id call =
    record { line = 1; life = record { id = id; node = call.node; deadline = call.deadline; fate = option_map told call.fate; collected = false } }

-- the calls, from an id on
abbrev pub claims_from : ℕ → List Opened → List Claim
claims_from id [] = []
claims_from id (call ∷ calls) = claim_at id call ∷ claims_from (suc id) calls

abbrev pub CallFits : Opened → Type 0
CallFits call = MayFit call.fate

-- these are the calls of a line
pub record IsLine (calls : List Opened) (claims : List Claim) : Type 0 where
  pub are : claims ≡ claims_from 1 calls
  pub fit : AllByRecursion CallFits calls

-- a call at this place is open under the id
pub record IsOpenAt (id : ℕ) (calls : List Opened) (k : ℕ) : Type 0 where
  pub id_is : id ≡ suc k
  pub call : Opened
  pub call_is : slice_get calls k ≡ Some call
  pub is_open : call.fate ≡ None

abbrev pub closed_fate : Option Fate → Option Fate
closed_fate None = Some Closed
closed_fate (Some fate) = Some fate

abbrev pub closed_call : Opened → Opened
closed_call call = record call { fate = closed_fate call.fate }

abbrev pub fate_in : Opened → Option Fate
fate_in call = call.fate
