-- Bytes are a body, or they have one fault.
use Rattle.std.proofs.Common.{◌⊎◌, inl, inr, ◌≡◌, ◌<◌, ◌↔◌, ℕ, suc, List, ◌++◌, length, take, Result, Ok, Err, refl, sym, ap, ◌∙◌, subst, arith}
use Rattle.std.specs.List.{AllByRecursion}
use Rattle.longest_prefix.specs.Prefixes.{Begins, FaultAt}
use Rattle.longest_prefix.specs.Machine.{Course, taken, stopped, run}
use Rattle.longest_prefix.proofs.Verdicts.{Verdict, verdict_of, word_from_taken, fault_from_stopped, one_offset}
use Rattle.longest_prefix.proofs.Laxer.{At, Stopping, at_the_end, at_a_letter, stopping, GoesOn, goes_on}
use Rattle.tars_wire.specs.declared.wire_fault.WireWhy.{WireWhy}
use Rattle.tars_wire.specs.declared.wire_fault.WireWhy.TheVariants as why
use Rattle.tars_wire.specs.declared.wire_fault.WireFault.{WireFault}
use Rattle.tars_wire.specs.Spelled.{Rules, TYPES, SIZES, FIXED_TAGS, RISING_TAGS, ALL, IsBodyBy, IsBody}
use Rattle.tars_wire.specs.MachineSteps.{State, step, may_end, START}
use Rattle.tars_wire.specs.Faults.{Keeps, Breaks, IsReason, IsFault, HasFault}
use Rattle.tars_wire.proofs.Machine.Meaning.{Language}
use Rattle.tars_wire.proofs.Machine.Steps.{IsByte, reads}
use Rattle.tars_wire.proofs.Machine.Reasons.{Taken, Refused, Told, step_told}

-- a body, said in two ways
body_is : (rules : Rules) (w : List ℕ) → Language rules START w → IsBodyBy rules w
body_is rules w x = record { fields = x.0; spelled = x.1 }

is_body : (rules : Rules) (w : List ℕ) → IsBodyBy rules w → Language rules START w
is_body rules w b = (b.fields, b.spelled)

begins_too : (rules : Rules) (w : List ℕ) → Begins (Language rules START) w → Begins (IsBodyBy rules) w
begins_too rules w b = record { more = b.more; word = body_is rules (w ++ b.more) b.word }

begins_back : (rules : Rules) (w : List ℕ) → Begins (IsBodyBy rules) w → Begins (Language rules START) w
begins_back rules w b = record { more = b.more; word = is_body rules (w ++ b.more) b.word }

same_fault : (w : List ℕ) (offset : ℕ) → FaultAt (Language ALL START) w offset → FaultAt IsBody w offset
same_fault w offset f = record { within = f.within; prefix = begins_too ALL (take offset w) f.prefix; longest = λ longer lt le b. f.longest longer lt le (begins_back ALL (take longer w) b) }

-- the laxer steps go on to the same
pick : {X : Type 0} (types sizes fixed rising all : Result X WireWhy) (x : X) → all ≡ Ok x → Told types sizes fixed rising all → (types ≡ Ok x) × (sizes ≡ Ok x) × (fixed ≡ Ok x) × (rising ≡ Ok x)
pick {X} types sizes fixed rising all x e t = let P : Result X WireWhy → Type 0 = Told types sizes fixed rising in subst P e t

same_step : (state : State) (byte : ℕ) (to : State) → step ALL state byte ≡ Ok to → (step TYPES state byte ≡ Ok to) × (step SIZES state byte ≡ Ok to) × (step FIXED_TAGS state byte ≡ Ok to) × (step RISING_TAGS state byte ≡ Ok to)
same_step state byte to e = pick (step TYPES state byte) (step SIZES state byte) (step FIXED_TAGS state byte) (step RISING_TAGS state byte) (step ALL state byte) to e (step_told state byte)

-- what a step says of the rules that its byte keeps
keeps : (rules : Rules) (w : List ℕ) (offset : ℕ) (r : Result State WireWhy) → GoesOn (Language rules START) (take (suc offset) w) r → Taken r → Keeps rules w offset
keeps rules w offset (Ok to) g t = begins_too rules (take (suc offset) w) g
keeps rules w offset (Err why) g t = absurd t

breaks : (rules : Rules) (w : List ℕ) (offset : ℕ) (r : Result State WireWhy) → GoesOn (Language rules START) (take (suc offset) w) r → Refused r → Breaks rules w offset
breaks rules w offset (Ok to) g t = absurd t
breaks rules w offset (Err why) g t = λ k. g (begins_back rules (take (suc offset) w) k)

-- which rules a byte breaks, by its reason
abbrev Judged : WireWhy → List ℕ → ℕ → Type 0
Judged why.Short w offset = ⊥
Judged why.BadType w offset = Breaks TYPES w offset × Breaks SIZES w offset × Breaks FIXED_TAGS w offset × Breaks RISING_TAGS w offset × Breaks ALL w offset
Judged why.BadSize w offset = Keeps TYPES w offset × Breaks SIZES w offset × Breaks FIXED_TAGS w offset × Breaks RISING_TAGS w offset × Breaks ALL w offset
Judged why.BadTag w offset = Keeps TYPES w offset × Keeps SIZES w offset × Breaks FIXED_TAGS w offset × Breaks RISING_TAGS w offset × Breaks ALL w offset
Judged why.Order w offset = Keeps TYPES w offset × Keeps SIZES w offset × Keeps FIXED_TAGS w offset × Breaks RISING_TAGS w offset × Breaks ALL w offset
Judged why.Depth w offset = Keeps TYPES w offset × Keeps SIZES w offset × Keeps FIXED_TAGS w offset × Keeps RISING_TAGS w offset × Breaks ALL w offset

-- the reason of a step is the reason of the fault, and no other is
is_reason : (fault : WireWhy) (w : List ℕ) (offset : ℕ) → offset < length w → Judged fault w offset → IsReason fault w offset
is_reason why.Short w offset lt j = absurd j
is_reason why.BadType w offset lt j = (lt, j.0)
is_reason why.BadSize w offset lt j = (lt, j.0, j.1)
is_reason why.BadTag w offset lt j = (lt, j.1, j.2)
is_reason why.Order w offset lt j = (lt, j.2, j.3)
is_reason why.Depth w offset lt j = (lt, j.3, j.4)

one_reason : (fault other : WireWhy) (w : List ℕ) (offset : ℕ) → offset < length w → Judged fault w offset → IsReason other w offset → fault ≡ other
one_reason why.Short other w offset lt j r = absurd j
one_reason fault why.Short w offset lt j r = absurd (omega arith)
one_reason why.BadType why.BadType w offset lt j r = refl
one_reason why.BadType why.BadSize w offset lt j r = absurd (j.0 r.1)
one_reason why.BadType why.BadTag w offset lt j r = absurd (j.1 r.1)
one_reason why.BadType why.Order w offset lt j r = absurd (j.2 r.1)
one_reason why.BadType why.Depth w offset lt j r = absurd (j.3 r.1)
one_reason why.BadSize why.BadType w offset lt j r = absurd (r.1 j.0)
one_reason why.BadSize why.BadSize w offset lt j r = refl
one_reason why.BadSize why.BadTag w offset lt j r = absurd (j.1 r.1)
one_reason why.BadSize why.Order w offset lt j r = absurd (j.2 r.1)
one_reason why.BadSize why.Depth w offset lt j r = absurd (j.3 r.1)
one_reason why.BadTag why.BadType w offset lt j r = absurd (r.1 j.0)
one_reason why.BadTag why.BadSize w offset lt j r = absurd (r.2 j.1)
one_reason why.BadTag why.BadTag w offset lt j r = refl
one_reason why.BadTag why.Order w offset lt j r = absurd (j.2 r.1)
one_reason why.BadTag why.Depth w offset lt j r = absurd (j.3 r.1)
one_reason why.Order why.BadType w offset lt j r = absurd (r.1 j.0)
one_reason why.Order why.BadSize w offset lt j r = absurd (r.2 j.1)
one_reason why.Order why.BadTag w offset lt j r = absurd (r.2 j.2)
one_reason why.Order why.Order w offset lt j r = refl
one_reason why.Order why.Depth w offset lt j r = absurd (j.3 r.1)
one_reason why.Depth why.BadType w offset lt j r = absurd (r.1 j.0)
one_reason why.Depth why.BadSize w offset lt j r = absurd (r.2 j.1)
one_reason why.Depth why.BadTag w offset lt j r = absurd (r.2 j.2)
one_reason why.Depth why.Order w offset lt j r = absurd (r.2 j.3)
one_reason why.Depth why.Depth w offset lt j r = refl

-- Short is the reason at the end of the bytes, and there alone
pub short_at_the_end : (bytes : List ℕ) (fault : WireFault) → IsFault bytes fault → (fault.why ≡ why.Short) ↔ (fault.at ≡ length bytes)
short_at_the_end bytes fault f = go fault.why f.reason
  where
    go : (reason : WireWhy) → IsReason reason bytes fault.at → (reason ≡ why.Short) ↔ (fault.at ≡ length bytes)
    go why.Short r = (λ e. r, λ e. refl)
    go why.BadType r = (λ e. absurd cc, λ e. absurd (omega arith))
    go why.BadSize r = (λ e. absurd cc, λ e. absurd (omega arith))
    go why.BadTag r = (λ e. absurd cc, λ e. absurd (omega arith))
    go why.Order r = (λ e. absurd cc, λ e. absurd (omega arith))
    go why.Depth r = (λ e. absurd cc, λ e. absurd (omega arith))

-- at the end of the bytes
end_is_short : (w : List ℕ) (fault : WireWhy) → IsReason fault w (length w) → why.Short ≡ fault
end_is_short w why.Short r = refl
end_is_short w why.BadType r = absurd (omega arith)
end_is_short w why.BadSize r = absurd (omega arith)
end_is_short w why.BadTag r = absurd (omega arith)
end_is_short w why.Order r = absurd (omega arith)
end_is_short w why.Depth r = absurd (omega arith)

-- what the five steps on a byte say of the rules that it breaks
judged : (w : List ℕ) (offset : ℕ) (a b c d e : Result State WireWhy) → GoesOn (Language TYPES START) (take (suc offset) w) a → GoesOn (Language SIZES START) (take (suc offset) w) b → GoesOn (Language FIXED_TAGS START) (take (suc offset) w) c → GoesOn (Language RISING_TAGS START) (take (suc offset) w) d → GoesOn (Language ALL START) (take (suc offset) w) e
    → Refused e → (fault : WireWhy) → Told a b c d (Err fault) → Judged fault w offset
judged w offset a b c d e g0 g1 g2 g3 g4 r why.Short t = absurd t
judged w offset a b c d e g0 g1 g2 g3 g4 r why.BadType t = (breaks TYPES w offset a g0 t.0, breaks SIZES w offset b g1 t.1, breaks FIXED_TAGS w offset c g2 t.2, breaks RISING_TAGS w offset d g3 t.3, breaks ALL w offset e g4 r)
judged w offset a b c d e g0 g1 g2 g3 g4 r why.BadSize t = (keeps TYPES w offset a g0 t.0, breaks SIZES w offset b g1 t.1, breaks FIXED_TAGS w offset c g2 t.2, breaks RISING_TAGS w offset d g3 t.3, breaks ALL w offset e g4 r)
judged w offset a b c d e g0 g1 g2 g3 g4 r why.BadTag t = (keeps TYPES w offset a g0 t.0, keeps SIZES w offset b g1 t.1, breaks FIXED_TAGS w offset c g2 t.2, breaks RISING_TAGS w offset d g3 t.3, breaks ALL w offset e g4 r)
judged w offset a b c d e g0 g1 g2 g3 g4 r why.Order t = (keeps TYPES w offset a g0 t.0, keeps SIZES w offset b g1 t.1, keeps FIXED_TAGS w offset c g2 t.2, breaks RISING_TAGS w offset d g3 t.3, breaks ALL w offset e g4 r)
judged w offset a b c d e g0 g1 g2 g3 g4 r why.Depth t = (keeps TYPES w offset a g0 t.0, keeps SIZES w offset b g1 t.1, keeps FIXED_TAGS w offset c g2 t.2, keeps RISING_TAGS w offset d g3 t.3, breaks ALL w offset e g4 r)

refused : (r : Result State WireWhy) (fault : WireWhy) → r ≡ Err fault → Refused r
refused (Ok to) fault e = cc
refused (Err why) fault e = tt

told : (a b c d e : Result State WireWhy) (fault : WireWhy) → e ≡ Err fault → Told a b c d e → Told a b c d (Err fault)
told a b c d e fault f t = let P : Result State WireWhy → Type 0 = Told a b c d in subst P f t

-- a fault and no other
pub record OneFault (w : List ℕ) (offset : ℕ) (reason : WireWhy) : Type 0 where
  pub is_fault : IsFault w (record { at = offset; why = reason })
  pub only : (fault : WireFault) → IsFault w fault → (record { at = offset; why = reason }) ≡ fault

one_fault : (w : List ℕ) (offset : ℕ) (reason : WireWhy) → FaultAt IsBody w offset → (IsBody w → ⊥) → IsReason reason w offset → ((other : WireWhy) → IsReason other w offset → reason ≡ other) → OneFault w offset reason
one_fault w offset reason at none holds one = record {
  is_fault = record { no_body = none; offset = at; reason = holds };
  only = only;
}
  where
    both : (fault : WireFault) → offset ≡ fault.at → reason ≡ fault.why → (record { at = offset; why = reason }) ≡ fault
    both fault e f = ap (λ (k : ℕ). record { at = k; why = reason }) e ∙ ap (λ (r : WireWhy). record { at = fault.at; why = r }) f

    only : (fault : WireFault) → IsFault w fault → (record { at = offset; why = reason }) ≡ fault
    only fault f =
        let e = one_offset IsBody w offset fault.at at f.offset in
        both fault e (one fault.why (subst (λ (k : ℕ). IsReason fault.why w k) (sym e) f.reason))

module _ (w : List ℕ) (fits : AllByRecursion IsByte w) where
  the_verdict : Verdict (Language ALL START) w (run (step ALL) may_end why.Short START w)
  the_verdict = verdict_of (step ALL) may_end why.Short IsByte (Language ALL) (reads ALL) START w fits

  goes : (rules : Rules) → ((state : State) (byte : ℕ) (to : State) → step ALL state byte ≡ Ok to → step rules state byte ≡ Ok to) → (offset : ℕ) (at : At (step ALL) IsByte START w offset) → GoesOn (Language rules START) (take (suc offset) w) (step rules at.state at.letter)
  goes rules laxer offset at =
      let P : List ℕ → Type 0 = λ prefix. GoesOn (Language rules START) prefix (step rules at.state at.letter) in
      subst P (sym at.prefix_is) (goes_on (step ALL) (step rules) may_end IsByte (Language rules) laxer (reads rules) START at.prefix at.state at.letter at.prefix_fits at.fits at.reached)

  at_letter : (offset : ℕ) (reason : WireWhy) (at : At (step ALL) IsByte START w offset) → step ALL at.state at.letter ≡ Err reason → Judged reason w offset
  at_letter offset reason at e =
      judged w offset (step TYPES at.state at.letter) (step SIZES at.state at.letter) (step FIXED_TAGS at.state at.letter) (step RISING_TAGS at.state at.letter) (step ALL at.state at.letter)
      (goes TYPES (λ s b to e. (same_step s b to e).0) offset at) (goes SIZES (λ s b to e. (same_step s b to e).1) offset at) (goes FIXED_TAGS (λ s b to e. (same_step s b to e).2) offset at) (goes RISING_TAGS (λ s b to e. (same_step s b to e).3) offset at) (goes ALL (λ s b to e. e) offset at)
      (refused (step ALL at.state at.letter) reason e) reason
      (told (step TYPES at.state at.letter) (step SIZES at.state at.letter) (step FIXED_TAGS at.state at.letter) (step RISING_TAGS at.state at.letter) (step ALL at.state at.letter) reason e (step_told at.state at.letter))

  by_stop : (offset : ℕ) (reason : WireWhy) → FaultAt IsBody w offset → (IsBody w → ⊥) → Stopping (step ALL) IsByte why.Short START w offset reason → OneFault w offset reason
  by_stop offset reason at none (at_the_end e f) =
      let short : IsReason why.Short w offset = e in
      one_fault w offset reason at none (subst (λ (r : WireWhy). IsReason r w offset) (sym f) short) (λ other r. f ∙ end_is_short w other (subst (λ (k : ℕ). IsReason other w k) e r))
  by_stop offset reason at none (at_a_letter here e) =
      let j = at_letter offset reason here e in
      one_fault w offset reason at none (is_reason reason w offset here.within j) (λ other r. one_reason reason other w offset here.within j r)

  -- where the steps stop is the one fault
  pub stop_is_fault : (offset : ℕ) (reason : WireWhy) → run (step ALL) may_end why.Short START w ≡ stopped offset reason → OneFault w offset reason
  stop_is_fault offset reason e =
      let v = fault_from_stopped (Language ALL START) w (run (step ALL) may_end why.Short START w) offset reason the_verdict e in
      by_stop offset reason (same_fault w offset v.0) (λ b. v.1 (is_body ALL w b)) (stopping (step ALL) may_end why.Short IsByte START w offset reason fits e)

  -- what is taken to its end is a body
  pub end_is_body : run (step ALL) may_end why.Short START w ≡ taken → IsBody w
  end_is_body e = body_is ALL w (word_from_taken (Language ALL START) w (run (step ALL) may_end why.Short START w) the_verdict e)

  -- a body, or bytes with a fault
  pub some_outcome : IsBody w ⊎ HasFault w
  some_outcome = go (run (step ALL) may_end why.Short START w) refl
    where
      go : (course : Course WireWhy) → run (step ALL) may_end why.Short START w ≡ course → IsBody w ⊎ HasFault w
      go taken e = inl (end_is_body e)
      go (stopped offset reason) e = inr (record { at = offset; why = reason }, (stop_is_fault offset reason e).is_fault)

  pub same_faults : (fault other : WireFault) → IsFault w fault → IsFault w other → fault ≡ other
  same_faults fault other f g = go (run (step ALL) may_end why.Short START w) refl
    where
      go : (course : Course WireWhy) → run (step ALL) may_end why.Short START w ≡ course → fault ≡ other
      go taken e = absurd (f.no_body (end_is_body e))
      go (stopped offset reason) e = let one = stop_is_fault offset reason e in sym (one.only fault f) ∙ one.only other g
