-- A queue after a whole run (docs/PROTOCOL.md, "Adapters' queues"): of the items that were accepted, in their order, the first so many were taken.
use Rattle.std.specs.Prelude.{◌≡◌, ◌≤◌, ◌+◌, ℕ, List, [], ◌∷◌, ◌++◌, length, drop, slice_get, Option, None, Some, Result, Ok, Err}
use Rattle.adapter_queue.specs.declared.timed.Timed.{Timed}
use Rattle.adapter_queue.specs.declared.taken.Taken.{Taken}
use Rattle.adapter_queue.specs.declared.taken.Overload.{Overload}
use Rattle.adapter_queue.specs.Queues.{Queue, taken_at}

-- the others wait
pub record IsAfter {T : Type 0} (accepted : List (Timed T)) (taken : ℕ) (queue : Queue T) : Type 0 where
  pub within : taken ≤ length accepted
  pub items : queue.items ≡ drop taken accepted

-- what an offer makes of the run
abbrev pub AcceptedNext : {T : Type 0} → List (Timed T) → ℕ → T → ℕ → Queue T → Result Unit (Overload T) → Type 0
AcceptedNext accepted taken item now new (Ok _) = IsAfter (accepted ++ record { item = item; entered = now } ∷ []) taken new
AcceptedNext accepted taken item now new (Err back) = IsAfter accepted taken new

-- what a take makes of the run: it gives the next of the items that were accepted, and none exactly where all were taken
abbrev pub TookNext : {T : Type 0} → List (Timed T) → ℕ → ℕ → ℕ → Queue T → Option (Taken T) → Type 0
TookNext {T} accepted taken now timeout new None = (taken ≡ length accepted) × IsAfter accepted taken new
TookNext {T} accepted taken now timeout new (Some out) =
    (next : Timed T) × (slice_get accepted taken ≡ Some next) × (out ≡ taken_at timeout now next) × IsAfter accepted (taken + 1) new
