-- What one step of a queue makes of a whole run.
use Rattle.std.proofs.Common.{◌≡◌, ◌≤◌, ℕ, zero, suc, List, [], ◌∷◌, length, drop, Option, None, Some, refl, sym, ap, ◌∙◌, arith, add-one}
use Rattle.std.specs.Prelude.{slice_get}
use Rattle.adapter_queue.specs.declared.timed.Timed.{Timed}
use Rattle.adapter_queue.specs.declared.taken.Taken.{Taken}
use Rattle.adapter_queue.specs.Histories.{IsAfter, TookNext}
use Rattle.adapter_queue.specs.Queues.{Queue, Took, taken_at}

module _ {T : Type 0} where
  -- all of a run were taken where nothing waits
  pub all_taken : (accepted : List (Timed T)) (taken : ℕ) → taken ≤ length accepted → [] ≡ drop taken accepted → taken ≡ length accepted
  all_taken [] zero within none = refl
  all_taken [] (suc taken) within none = absurd (omega (arith, within))
  all_taken (a ∷ accepted) zero within none = absurd cc
  all_taken (a ∷ accepted) (suc taken) within none = ap suc (all_taken accepted taken (omega (arith, within)) none)

  pub record IsNext (accepted : List (Timed T)) (taken : ℕ) (first : Timed T) (rest : List (Timed T)) : Type 0 where
    pub is : slice_get accepted taken ≡ Some first
    pub rest_is : rest ≡ drop (suc taken) accepted
    pub within : suc taken ≤ length accepted

  -- the first that waits is the next of a run
  pub next_is : (accepted : List (Timed T)) (taken : ℕ) (first : Timed T) (rest : List (Timed T)) → first ∷ rest ≡ drop taken accepted → IsNext accepted taken first rest
  next_is [] zero first rest waits = absurd cc
  next_is [] (suc taken) first rest waits = absurd cc
  next_is (a ∷ accepted) zero first rest waits = record { is = cc; rest_is = cc; within = omega arith }
  next_is (a ∷ accepted) (suc taken) first rest waits =
      let later = next_is accepted taken first rest waits in record { is = later.is; rest_is = later.rest_is; within = omega (arith, later.within) }

  pub took_next : (old new : Queue T) (now : ℕ) (result : Option (Taken T)) (accepted : List (Timed T)) (taken : ℕ)
      → Took old now new result → IsAfter accepted taken old → TookNext accepted taken now old.timeout new result
  took_next old new now None accepted taken took after =
      (all_taken accepted taken after.within (sym took.0 ∙ after.items), rw took.1 after)
  took_next old new now (Some out) accepted taken (first, rest, waits, new_is, out_is) after =
      let next = next_is accepted taken first rest (sym waits ∙ after.items) in
      (first, next.is, out_is, rw (add-one taken) (record { within = next.within; items = rw new_is next.rest_is }))

  pub took_first : (old : Queue T) (capacity timeout now : ℕ) (items rest : List (Timed T)) (first : Timed T) (out : Taken T)
      → old ≡ record { capacity = capacity; timeout = timeout; items = items } → items ≡ first ∷ rest → out ≡ taken_at timeout now first
      → Took old now (record { capacity = capacity; timeout = timeout; items = rest }) (Some out)
  took_first old capacity timeout now items rest first out is waits out_is = rw is (first, rest, waits, refl, out_is)
