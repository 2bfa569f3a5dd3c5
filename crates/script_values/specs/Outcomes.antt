-- How reading arguments comes out. Want of memory says nothing.
use Rattle.std.specs.Prelude.{◌≡◌, ℕ, Result, Ok, Err, List}
use Rattle.tars_model.specs.declared.value.Value.{Value}
use Rattle.value_text.specs.declared.value_fault.ValueFault.{ValueFault}
use Rattle.value_text.specs.declared.value_fault.ValueFault.TheVariants as value
use Rattle.script_values.specs.declared.args_fault.ArgsFault.{ArgsFault}
use Rattle.script_values.specs.declared.args_fault.ArgsFault.TheVariants as args

-- these are returned, unless memory ran out
abbrev pub Gives : {A : Type 0} → Result A ArgsFault → A → Type 0
Gives (Ok found) a = found ≡ a
Gives (Err args.Memory) a = Unit {0}
Gives (Err args.Bad) a = ⊥

-- the same of a value and the bytes after it
abbrev pub GivesNext : {B : Type 0} → (B → List ℕ) → Result (Value × B) ArgsFault → Value → List ℕ → Type 0
GivesNext bytes (Ok x) v rest = (x.0 ≡ v) × (bytes x.1 ≡ rest)
GivesNext bytes (Err args.Memory) v rest = Unit {0}
GivesNext bytes (Err args.Bad) v rest = ⊥

-- a fault of a value is one of the arguments
abbrev pub OnMemory : ValueFault → ArgsFault → Type 0
OnMemory (value.Bad at why) e = e ≡ args.Bad
OnMemory value.Memory e = e ≡ args.Memory
