-- The queue of an adapter (docs/PROTOCOL.md, "Adapters' queues").
use Rattle.std.specs.Prelude.{◌≡◌, ◌≤◌, ◌<◌, ◌+◌, ℕ, nat_lt, if◌then◌else◌, List, [], ◌∷◌, ◌++◌, length, Option, None, Some, Result, Ok, Err}
use Rattle.adapter_queue.specs.declared.timed.Timed.{Timed}
use Rattle.adapter_queue.specs.declared.taken.Taken.{Taken}
use Rattle.adapter_queue.specs.declared.taken.Taken.TheVariants.{Work, Stale}
use Rattle.adapter_queue.specs.declared.taken.Overload.{Overload}

-- what a queue is: the most that it holds, how long an item may wait, and the items that wait, the first to come first
pub record Queue (T : Type 0) : Type 0 where
  pub capacity : ℕ
  pub timeout : ℕ
  pub items : List (Timed T)

-- these items wait in its place
abbrev pub holding : {T : Type 0} → Queue T → List (Timed T) → Queue T
holding queue items = record { capacity = queue.capacity; timeout = queue.timeout; items = items }

-- an item that is taken at this moment: it is stale where it waited longer than it may
abbrev pub taken_at : {T : Type 0} → ℕ → ℕ → Timed T → Taken T
taken_at timeout now timed = if nat_lt (timed.entered + timeout) now then Stale timed.item else Work timed.item

-- an item is accepted exactly where fewer wait than the queue may hold; else that very item comes back, and nothing changed
abbrev pub Offered : {T : Type 0} → Queue T → T → ℕ → Queue T → Result Unit (Overload T) → Type 0
Offered old item now new (Ok _) =
    (length old.items < old.capacity) × (new ≡ holding old (old.items ++ record { item = item; entered = now } ∷ []))
Offered old item now new (Err back) = (old.capacity ≤ length old.items) × (new ≡ old) × (back.0 ≡ item)

-- the first item is taken, and none exactly where none waits
abbrev pub Took : {T : Type 0} → Queue T → ℕ → Queue T → Option (Taken T) → Type 0
Took {T} old now new None = (old.items ≡ []) × (new ≡ old)
Took {T} old now new (Some taken) =
    (first : Timed T) × (rest : List (Timed T)) × (old.items ≡ first ∷ rest) × (new ≡ holding old rest) × (taken ≡ taken_at old.timeout now first)
