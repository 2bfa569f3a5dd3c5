-- A whole text says a value, or has one fault.
use Rattle.std.proofs.Common.{◌≡◌, ◌-◌, ◌<◌, ◌==◌, ℕ, true, false, List, [], length, Result, Err, refl, sym, ap, ◌∙◌, subst, arith}
use Rattle.std.proofs.lemmas.List.{nil_from_length}
use Rattle.std.proofs.lemmas.Bool.Decides.{nat_tests}
use Rattle.tars_model.specs.Declarations.{Declared}
use Rattle.tars_model.specs.declared.ty.Ty.{Ty}
use Rattle.tars_model.specs.declared.value.Value.{Value}
use Rattle.value_text.specs.Answers.{GivesFault, IfBad}
use Rattle.value_text.specs.Faults.{FaultOf, WholeFaultOf}
use Rattle.value_text.specs.Faults as faults
use Rattle.value_text.specs.Spelling.{past_gap, Spells, IsWhole}
use Rattle.value_text.specs.declared.value_fault.ValueFault.{ValueFault}
use Rattle.value_text.specs.declared.value_fault.ValueFault.TheVariants as told
use Rattle.value_text.specs.declared.value_fault.ValueWhy.{ValueWhy}
use Rattle.value_text.specs.declared.value_fault.ValueWhy.TheVariants.{Unexpected}
use Rattle.value_text.proofs.Breaking.Verdicts.{one_fault, no_fault}
use Rattle.value_text.proofs.Readings.{one_reading}

abbrev failed : {A : Type 0} → ValueFault → Result A ValueFault
failed fault = Err fault

none_left : (bytes : List ℕ) → (length bytes == 0) ≡ true → bytes ≡ []
none_left bytes none = nil_from_length bytes (is_zero (length bytes) none)
  where
    is_zero : (n : ℕ) → (n == 0) ≡ true → n ≡ 0
    is_zero n none = grind (arith, nat_tests)

some_left : (n : ℕ) → (n == 0) ≡ false → 0 < n
some_left n some = grind (arith, nat_tests)

module _ (d : Declared) (t : Ty) (text : List ℕ) where
  pub one_whole_fault : (at other : ℕ) (why reason : ValueWhy) → WholeFaultOf d t text at why → WholeFaultOf d t text other reason → (at ≡ other) × (why ≡ reason)
  one_whole_fault at other why reason (faults.in_value fault) (faults.in_value fault_too) = one_fault d t text at other why reason fault fault_too
  one_whole_fault at other why reason (faults.in_value fault) (faults.after_value {v = v} rest is s some other_is) = absurd (no_fault d t text v rest at why s fault)
  one_whole_fault at other why reason (faults.after_value {v = v} rest is s some at_is) (faults.in_value fault) = absurd (no_fault d t text v rest other reason s fault)
  one_whole_fault at other why reason (faults.after_value {v = v} rest is s some at_is) (faults.after_value {v = w} rest_too is_too s_too some_too other_is) =
      let same = one_reading d t text v w rest rest_too s s_too in
      (at_is ∙ ap (λ (l : List ℕ). length text - length (past_gap l)) same.1 ∙ sym other_is, is ∙ sym is_too)

  pub no_whole_fault : (v : Value) (at : ℕ) (why : ValueWhy) → IsWhole d t v text → WholeFaultOf d t text at why → ⊥
  no_whole_fault v at why whole (faults.in_value fault) = no_fault d t text v whole.0 at why whole.1 fault
  no_whole_fault v at why whole (faults.after_value {v = w} rest is s some at_is) =
      let same = one_reading d t text w v rest whole.0 s whole.1 in
      let none = ap length (ap past_gap same.1 ∙ whole.2) in
      omega arith

  -- ---- what is told

  -- nothing is left after a value and its gap, or a byte
  module _ (v : Value) (rest after : List ℕ) (s : Spells d t v text rest) (is : after ≡ past_gap rest) where
    pub is_whole : (length after == 0) ≡ true → IsWhole d t v text
    is_whole none = (rest, s, sym is ∙ none_left after none)

    pub goes_on : (length after == 0) ≡ false → WholeFaultOf d t text (length text - length after) Unexpected
    goes_on some =
        faults.after_value rest refl s (subst (λ (l : List ℕ). 0 < length l) is (some_left (length after) some)) (ap (λ (l : List ℕ). length text - length l) is)

  pub whole_told : (fault : ValueFault) → IfBad (failed {A = Value × ℕ} fault) (λ at why. FaultOf d t text at why) → IfBad (failed {A = Value} fault) (λ at why. WholeFaultOf d t text at why)
  whole_told told.Memory is = tt
  whole_told (told.Bad at why) is = faults.in_value is

  pub whole_given : (fault : ValueFault) (at : ℕ) (why : ValueWhy) → IfBad (failed {A = Value × ℕ} fault) (λ at why. FaultOf d t text at why) → WholeFaultOf d t text at why → GivesFault (failed {A = Value} fault) at why
  whole_given told.Memory at why is fault = tt
  whole_given (told.Bad place reason) at why is fault = one_whole_fault place at reason why (faults.in_value is) fault
