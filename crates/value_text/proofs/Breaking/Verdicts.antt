-- A text begins with a value, or has one fault.
use Rattle.std.proofs.Common.{◌≡◌, ◌-◌, ◌⊎◌, inl, inr, ℕ, List, length, Ok, Err, refl, sym, ap, ◌∙◌, subst, arith}
use Rattle.longest_prefix.proofs.Verdicts.{one_offset}
use Rattle.tars_model.specs.Declarations.{Declared}
use Rattle.tars_model.specs.Schemas.{IsSchema}
use Rattle.tars_model.specs.declared.ty.Ty.{Ty}
use Rattle.tars_model.specs.declared.value.Value.{Value}
use Rattle.value_text.specs.Faults.{BreaksRule, HasForm, FaultOf}
use Rattle.value_text.specs.Faults as faults
use Rattle.value_text.specs.ReadSteps.{Read, Fails}
use Rattle.value_text.specs.ValueSteps.{value_at}
use Rattle.value_text.specs.Spelling.{Spells}
use Rattle.value_text.specs.declared.halt.Halt.{Halt}
use Rattle.value_text.specs.declared.halt.Halt.TheVariants as halts
use Rattle.value_text.specs.declared.value_fault.ValueWhy.{ValueWhy}
use Rattle.value_text.specs.declared.value_fault.ValueWhy.TheVariants.{Unexpected, Range, TwiceKey}
use Rattle.value_text.proofs.Breaking.Reached.{broken_stops}
use Rattle.value_text.proofs.Breaking.Stopped.{stop_breaks}
use Rattle.value_text.proofs.Forms.{has_form}
use Rattle.value_text.proofs.MapSound.{value_sound}
use Rattle.value_text.proofs.Readings.{not_refused}
use Rattle.value_text.proofs.Stopping.Prefixes.{unexpected_at}
use Rattle.value_text.proofs.Stopping.Signs.{stop, stops_so}

abbrev bad : ValueWhy → Halt
bad why = halts.Bad why

no_rule : {d : Declared} {t : Ty} {text here : List ℕ} {why : ValueWhy} → BreaksRule d t text here why → why ≡ Unexpected → ⊥
no_rule (faults.out_of_range is reaches has says out) unexpected = absurd cc
no_rule (faults.key_again is reaches o key_is again) unexpected = absurd cc

module _ (d : Declared) (t : Ty) (text : List ℕ) where
  broken_is : {here : List ℕ} {why : ValueWhy} → BreaksRule d t text here why → value_at (length text) d t text ≡ Err (stop here why)
  broken_is breaks = broken_stops (length text) breaks (omega arith)

  pub one_fault : (at other : ℕ) (why reason : ValueWhy) → FaultOf d t text at why → FaultOf d t text other reason → (at ≡ other) × (why ≡ reason)
  one_fault at other why reason (faults.rule here breaks at_is) (faults.rule there breaks_too other_is) =
      let same = stops_so here there why reason (sym (broken_is breaks) ∙ broken_is breaks_too) in
      (at_is ∙ ap (λ (l : List ℕ). length text - length l) same.0 ∙ sym other_is, same.1)
  one_fault at other why reason (faults.rule here breaks at_is) (faults.form is none no_form place) = absurd (none here why breaks)
  one_fault at other why reason (faults.form is none no_form place) (faults.rule here breaks other_is) = absurd (none here reason breaks)
  one_fault at other why reason (faults.form is none no_form place) (faults.form is_too none_too no_form_too place_too) = (one_offset (HasForm d t) text at other place place_too, is ∙ sym is_too)

  pub no_fault : (v : Value) (rest : List ℕ) (at : ℕ) (why : ValueWhy) → Spells d t v text rest → FaultOf d t text at why → ⊥
  no_fault v rest at why s (faults.rule here breaks at_is) = not_refused d t text (stop here why) (broken_is breaks) v rest s
  no_fault v rest at why s (faults.form is none no_form place) = let form = has_form s in no_form (form.0, rest, form.1)

  -- ---- what is read

  module _ (schema : IsSchema d) where
    stop_fault : (left : List ℕ) (why : ValueWhy) → value_at (length text) d t text ≡ Err (stop left why) → FaultOf d t text (length text - length left) why
    stop_fault left Range e = faults.rule left (stop_breaks left Range (λ is. absurd cc) (length text) d t text e) refl
    stop_fault left TwiceKey e = faults.rule left (stop_breaks left TwiceKey (λ is. absurd cc) (length text) d t text e) refl
    stop_fault left Unexpected e =
        let place = unexpected_at d t text left schema e in
        faults.form refl (λ here other breaks. no_rule breaks (stops_so here left other Unexpected (sym (broken_is breaks) ∙ e)).1) place.1 place.0

    -- what is told where reading stops
    pub told_fault : (bytes left : List ℕ) (e : Halt) (why : ValueWhy) → e ≡ halts.Bad why → bytes ≡ text → Fails e left (value_at (length text) d t bytes) → FaultOf d t text (length text - length left) why
    told_fault bytes left halts.Memory why is same h = absurd cc
    told_fault bytes left (halts.Bad reason) why is same h =
        subst (λ (w : ValueWhy). FaultOf d t text (length text - length left) w) (one_reason reason why is) (stop_fault left reason (ap (value_at (length text) d t) (sym same) ∙ h))
      where
        one_reason : (reason why : ValueWhy) → bad reason ≡ halts.Bad why → reason ≡ why
        one_reason reason why is = cc

    pub some_fault : ((v : Value) × (rest : List ℕ) × Spells d t v text rest) ⊎ ((at : ℕ) × (why : ValueWhy) × FaultOf d t text at why)
    some_fault = by_read (value_at (length text) d t text) refl
      where
        by_read : (read : Read Value) → value_at (length text) d t text ≡ read → ((v : Value) × (rest : List ℕ) × Spells d t v text rest) ⊎ ((at : ℕ) × (why : ValueWhy) × FaultOf d t text at why)
        by_read (Ok (v, rest)) e = inl (v, rest, value_sound (length text) d t text v rest e)
        by_read (Err s) e = inr (length text - length s.left, s.why, stop_fault s.left s.why e)
