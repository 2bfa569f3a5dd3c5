-- Calls on an object in memory: they are counted from 1, and those of some numbers are to fail.
use Rattle.std.specs.Prelude.{◌==◌, ℕ, ◌+◌, Bool, min, List, if◌then◌else◌}
use Rattle.std.specs.List.{list_any}
use Rattle.tars_base.specs.Causes.{last_count}

pub record Calls : Type 0 where
  pub failing : List ℕ
  pub made : ℕ
  pub faults : ℕ

-- before the first call
abbrev pub no_calls : List ℕ → Calls
no_calls failing = record { failing = failing; made = 0; faults = 0 }

-- one more, on a counter that stays at its end
abbrev pub one_more : ℕ → ℕ
one_more n = min (n + 1) last_count

-- whether the next call is to fail
abbrev pub fails_next : Calls → Bool
fails_next calls = list_any (λ n. n == one_more calls.made) calls.failing

-- with one fault more
abbrev pub with_fault : Calls → Calls
with_fault calls = record { failing = calls.failing; made = calls.made; faults = one_more calls.faults }

-- with one call more
abbrev pub with_call : Calls → Calls
with_call calls = record { failing = calls.failing; made = one_more calls.made; faults = calls.faults }

-- after a call that fails or not
abbrev pub counted : Calls → Bool → Calls
counted calls fails = if fails then with_fault (with_call calls) else with_call calls
