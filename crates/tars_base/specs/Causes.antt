-- Why a call on the outside failed: the object counts its faults. The count never falls, and rises only where
-- a call fails.
use Rattle.std.specs.Prelude.{◌≡◌, ℕ, ◌+◌, ◌-◌, ◌^◌, ◌≤◌, min, Result, IsErr, OnOk, IsErrOf}

-- where a counter of faults stays
abbrev pub last_count : ℕ
last_count = 2 ^ 64 - 1

-- the count rose, or it stands at its end
abbrev pub Rose : ℕ → ℕ → Type 0
Rose before now = min (before + 1) last_count ≤ now

-- an error comes only where the count rose, and where there is none the count stays
pub record HasCause {T E : Type 0} (before now : ℕ) (result : Result T E) : Type 0 where
  pub later : before ≤ now
  pub failed : IsErr result → Rose before now
  pub kept : OnOk result (now ≡ before)

-- This error comes only where the count rose, and where it does not come the count stays. Want of memory has
-- no cause to show.
pub record HasCauseOf {T E : Type 0} (error : E) (before now : ℕ) (result : Result T E) : Type 0 where
  pub later : before ≤ now
  pub failed : IsErrOf result error → Rose before now
  pub kept : ¬ (IsErrOf result error) → now ≡ before
