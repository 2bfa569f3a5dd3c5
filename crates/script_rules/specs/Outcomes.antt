-- How reading a rule comes out. Want of memory says nothing.
use Rattle.std.specs.Prelude.{◌≡◌, ℕ, Option, Some, None, Result, Ok, Err}
use Rattle.value_text.specs.declared.value_fault.ValueFault.{ValueFault}
use Rattle.value_text.specs.declared.value_fault.ValueFault.TheVariants as value
use Rattle.script_rules.specs.declared.rule_fault.RuleFault.{RuleFault}
use Rattle.script_rules.specs.declared.rule_fault.RuleFault.TheVariants.{UnknownName, BadValue, Memory}

-- this is returned, unless memory ran out
abbrev pub Gives : {A : Type 0} → Result A RuleFault → A → Type 0
Gives (Ok found) a = found ≡ a
Gives (Err Memory) a = Unit {0}
Gives (Err UnknownName) a = ⊥
Gives (Err BadValue) a = ⊥

-- this fault is returned, unless memory ran out
abbrev pub Refuses : {A : Type 0} → Result A RuleFault → RuleFault → Type 0
Refuses (Ok found) why = ⊥
Refuses (Err Memory) why = Unit {0}
Refuses (Err UnknownName) why = why ≡ UnknownName
Refuses (Err BadValue) why = why ≡ BadValue

-- what is said of a fault
abbrev pub OnFault : RuleFault → (RuleFault → Type 0) → Type 0
OnFault Memory P = Unit {0}
OnFault UnknownName P = P UnknownName
OnFault BadValue P = P BadValue

-- a value's fault is a bad value
abbrev pub OnMemory : ValueFault → RuleFault → Type 0
OnMemory (value.Bad at why) e = e ≡ BadValue
OnMemory value.Memory e = e ≡ Memory

-- this place is found, and what is seen of the other
abbrev pub Finds : {B C : Type 0} → (B → C) → Option (ℕ × B) → ℕ → C → Type 0
Finds view None place other = ⊥
Finds view (Some x) place other = (x.0 ≡ place) × (view x.1 ≡ other)
