-- What a reader answers (docs/SCRIPTS.md, "Value text").
use Rattle.std.specs.Prelude.{◌≡◌, ℕ, false, Result, Ok, Err, List}
use Rattle.idl_lex.specs.Bytes.{begins, is_word_byte}
use Rattle.tars_model.specs.declared.value.Value.{Value}
use Rattle.value_text.specs.declared.value_fault.ValueFault.{ValueFault}
use Rattle.value_text.specs.declared.value_fault.ValueFault.TheVariants as faults
use Rattle.value_text.specs.declared.value_fault.ValueWhy.{ValueWhy}

-- the value and how many bytes it took, unless memory ran out
abbrev pub GivesValue : Result (Value × ℕ) ValueFault → Value → ℕ → Type 0
GivesValue (Ok x) v taken = (x.0 ≡ v) × (x.1 ≡ taken)
GivesValue (Err faults.Memory) v taken = Unit {0}
GivesValue (Err (faults.Bad at why)) v taken = ⊥

-- this value alone, unless memory ran out
abbrev pub GivesWhole : Result Value ValueFault → Value → Type 0
GivesWhole (Ok w) v = w ≡ v
GivesWhole (Err faults.Memory) v = Unit {0}
GivesWhole (Err (faults.Bad at why)) v = ⊥

-- this fault, unless memory ran out
abbrev pub GivesFault : {A : Type 0} → Result A ValueFault → ℕ → ValueWhy → Type 0
GivesFault (Ok x) at why = ⊥
GivesFault (Err faults.Memory) at why = Unit {0}
GivesFault (Err (faults.Bad place reason)) at why = (place ≡ at) × (reason ≡ why)

-- of a fault's place and reason
abbrev pub IfBad : {A : Type 0} → Result A ValueFault → (ℕ → ValueWhy → Type 0) → Type 0
IfBad (Ok x) P = Unit {0}
IfBad (Err faults.Memory) P = Unit {0}
IfBad (Err (faults.Bad at why)) P = P at why

-- nothing follows a value, or a byte that continues none: no letter, digit or `_`
abbrev pub IsEnd : List ℕ → Type 0
IsEnd rest = begins is_word_byte rest ≡ false
