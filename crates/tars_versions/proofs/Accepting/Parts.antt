-- Reading step by step, and what agreement says of parts.
use Rattle.std.proofs.Common.{◌≡◌, ℕ, Bool, true, false, cond, ◌&&◌, not, Ok, refl, sym, ap, ◌∙◌}
use Rattle.facts.specs.ResultSteps.{◌>>=◌}
use Rattle.tars_model.specs.Values.{is_byte}
use Rattle.tars_model.specs.declared.ty.Ty.{Ty, out-Ty}
use Rattle.tars_decode.specs.Reads.{Read, in_step}
use Rattle.tars_versions.specs.Agreement.{Agreement, agree, differ, Agreeing, mismatch, at_step, both, elements_agree}

-- something is read
abbrev pub IsRead : {X : Type 0} → Read X → Type 0
IsRead {X} read = (x : X) × (read ≡ Ok x)

pub then_read : {X Y : Type 0} (r : Read X) (f : X → Read Y) → IsRead r → ((x : X) → r ≡ Ok x → IsRead (f x)) → IsRead (r >>= f)
then_read r f is next =
    let after = next is.0 is.1 in
    (after.0, ap (λ r. r >>= f) is.1 ∙ after.1)

pub step_read : {X : Type 0} (step : ℕ) (r : Read X) → IsRead r → IsRead (in_step step r)
step_read step r is = (is.0, ap (in_step step) is.1)

pub moved_read : {X : Type 0} (r s : Read X) → r ≡ s → IsRead s → IsRead r
moved_read r s e is = (is.0, e ∙ is.1)

-- ---- agreement of parts

pub both_agree : (a b : Agreement) → both a b ≡ agree → (a ≡ agree) × (b ≡ agree)
both_agree agree b e = (refl, e)
both_agree (differ reason) b e = absurd cc

pub step_agrees : (step : ℕ) (a : Agreement) → at_step step a ≡ agree → a ≡ agree
step_agrees step agree e = refl
step_agrees step (differ reason) e = absurd cc

pub elements_are : (inner : Agreeing) (of of' : Ty) → is_byte (out-Ty of) ≡ false → elements_agree inner of of' ≡ agree → inner of of' ≡ agree
elements_are inner of of' no_byte e =
    let open_is = ap (λ b. cond (b && not (is_byte (out-Ty of'))) mismatch (at_step 0 (inner of of'))) (sym no_byte) in
    step_agrees 0 (inner of of') (open_is ∙ e)

pub bytes_are : (inner : Agreeing) (of of' : Ty) → is_byte (out-Ty of) ≡ true → elements_agree inner of of' ≡ agree → is_byte (out-Ty of') ≡ true
bytes_are inner of of' byte e = by_test (is_byte (out-Ty of')) (ap (λ b. cond (b && not (is_byte (out-Ty of'))) mismatch (at_step 0 (inner of of'))) (sym byte) ∙ e)
  where
    by_test : (b : Bool) → cond (not b) mismatch (at_step 0 (inner of of')) ≡ agree → b ≡ true
    by_test true e = refl
    by_test false e = absurd cc
