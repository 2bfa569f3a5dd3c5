-- An unexpected byte stands after the longest prefix that some text of the form goes on after.
use Rattle.std.proofs.Common.{◌≡◌, ◌≤◌, ◌<◌, ◌+◌, ◌-◌, ℕ, suc, List, [], ◌∷◌, ◌++◌, length, take, Err, refl, sym, ap, ◌∙◌, subst, append_assoc, append-nil, length-append, arith}
use Rattle.std.proofs.Math.Seq.{take-append_seam, take-append-add}
use Rattle.longest_prefix.specs.Prefixes.{FaultAt}
use Rattle.tars_model.specs.Declarations.{Declared}
use Rattle.tars_model.specs.Schemas.{IsSchema}
use Rattle.tars_model.specs.declared.ty.Ty.{Ty}
use Rattle.value_text.specs.Answers.{IsEnd}
use Rattle.value_text.specs.Faults.{HasForm}
use Rattle.value_text.specs.Spelling as spelling
use Rattle.value_text.specs.ValueSteps.{value_at}
use Rattle.value_text.specs.declared.value_fault.ValueWhy.TheVariants.{Unexpected}
use Rattle.value_text.proofs.Stopping.Languages.{Agrees, Stuck}
use Rattle.value_text.proofs.Stopping.Passing.{Formed}
use Rattle.value_text.proofs.Stopping.Signs.{stop}
use Rattle.value_text.proofs.Stopping.Values.{stuck_at}

agrees_with_itself : (left : List ℕ) → Agrees left left
agrees_with_itself [] = refl
agrees_with_itself (b ∷ left) = (left, refl)

agrees_longer : (left more : List ℕ) (count : ℕ) → suc count ≤ length left → Agrees left (take (suc count) left ++ more)
agrees_longer [] more count within = absurd (omega arith)
agrees_longer (b ∷ left) more count within = (take count left ++ more, refl)

module _ (d : Declared) (t : Ty) (text left : List ℕ) (s : Stuck IsEnd (Formed d t) text left) where
  front_length : length text ≡ length s.front + length left
  front_length = ap length s.is ∙ length-append s.front left

  at_front : length text - length left ≡ length s.front
  at_front = let len = front_length in omega arith

  front_is : take (length text - length left) text ≡ s.front
  front_is = ap (λ (n : ℕ). take n text) at_front ∙ ap (take (length s.front)) s.is ∙ take-append_seam s.front left

  longer_is : (count : ℕ) → take (length s.front + count) text ≡ s.front ++ take count left
  longer_is count = ap (take (length s.front + count)) s.is ∙ take-append-add s.front left count

  no_form : HasForm d t text → ⊥
  no_form has = s.blocked left has.1 (agrees_with_itself left) (subst (λ (l : List ℕ). Formed d t l has.1) s.is (has.0, has.2))

  no_longer : (longer : ℕ) → length text - length left < longer → longer ≤ length text → (more : List ℕ) → HasForm d t (take longer text ++ more) → ⊥
  no_longer longer past within more has = at_count (longer - length s.front - 1) (let len = front_length in omega arith) (let len = front_length in omega arith)
    where
      at_count : (count : ℕ) → longer ≡ length s.front + suc count → suc count ≤ length left → ⊥
      at_count count is inside =
          let whole : take longer text ++ more ≡ s.front ++ (take (suc count) left ++ more) =
          ap (λ (n : ℕ). take n text ++ more) is ∙ ap (λ (l : List ℕ). l ++ more) (longer_is (suc count)) ∙ append_assoc s.front (take (suc count) left) more in
          s.blocked (take (suc count) left ++ more) has.1 (agrees_longer left more count inside) (subst (λ (l : List ℕ). Formed d t l has.1) whole (has.0, has.2))

  stuck_is_fault : FaultAt (HasForm d t) text (length text - length left)
  stuck_is_fault = record {
    within = omega arith;
    prefix = record {
      more = s.more;
      word = let made = s.goes_on [] refl in (made.0, [], subst (λ (l : List ℕ). spelling.SpellsBy spelling.FORM d t made.0 l []) (ap (λ (l : List ℕ). s.front ++ l) (append-nil s.more) ∙ ap (λ (l : List ℕ). l ++ s.more) (sym front_is)) made.1);
    };
    longest = λ longer past within b. no_longer longer past within b.more b.word;
  }

pub unexpected_at : (d : Declared) (t : Ty) (text left : List ℕ) → IsSchema d → value_at (length text) d t text ≡ Err (stop left Unexpected) → FaultAt (HasForm d t) text (length text - length left) × (HasForm d t text → ⊥)
unexpected_at d t text left schema e =
    let s = stuck_at (length text) d schema t text left (omega arith) e in
    (stuck_is_fault d t text left s, no_form d t text left s)
