-- One turn of a loop: what is left to be read after it is what was left before, but for the piece.
use Rattle.std.proofs.Common.{◌≡◌, ◌<◌, ◌≤◌, ℕ, suc, ◌+◌, ◌-◌, List, [], ◌∷◌, ◌++◌, Result, Ok, Err, refl, sym, ap, ◌∙◌, subst, append_assoc, arith}
use Rattle.std.proofs.lemmas.List.{append-nil}
use Rattle.facts.specs.ResultSteps.{◌>>=◌}
use Rattle.tars_decode.specs.declared.halt.Halt.{Halt}
use Rattle.tars_decode.specs.declared.halt.Halt.TheVariants as halt
use Rattle.tars_decode.specs.ReadingSteps.{Walk, Fails}

-- where a step ends, so do the steps from it on
pub fails_on : {X Y : Type 0} (why : Halt) (first : Result X Halt) (f : X → Result Y Halt) → Fails why first → Fails why (first >>= f)
fails_on halt.Memory first f h = tt
fails_on halt.Stopped first f h = ap (λ r. r >>= f) h
fails_on (halt.Refused refusal) first f h = ap (λ r. r >>= f) h

pub fails_as : {X : Type 0} (why : Halt) (a b : Result X Halt) → a ≡ b → Fails why a → Fails why b
fails_as why a b e h = subst (Fails why) e h

-- ---- over a number of turns

module _ {R T : Type 0} (F : ℕ → List ℕ → Result R Halt) (first : List ℕ → Result T Halt) (next : (List ℕ → Result R Halt) → T → Result R Halt) (more : (n : ℕ) (w : List ℕ) → F (suc n) w ≡ first w >>= next (F n)) where
  unrolled : (count i : ℕ) (w : List ℕ) → i < count → F (count - i) w ≡ first w >>= next (F (count - (i + 1)))
  unrolled count i w lt =
      let k : count - i ≡ suc (count - (i + 1)) = omega arith in
      ap (λ n. F n w) k ∙ more (count - (i + 1)) w

  pub turn_fails : (count i : ℕ) (w : List ℕ) (why : Halt) (total : Result R Halt) → i < count → Fails why (first w) → F (count - i) w ≡ total → Fails why total
  turn_fails count i w why total lt h so_far =
      fails_as why (first w >>= next (F (count - (i + 1)))) total (sym (unrolled count i w lt) ∙ so_far) (fails_on why (first w) (next (F (count - (i + 1)))) h)

  pub turn_gives : (count i : ℕ) (w : List ℕ) (t : T) (total : Result R Halt) → i < count → first w ≡ Ok t → F (count - i) w ≡ total → next (F (count - (i + 1))) t ≡ total
  turn_gives count i w t total lt e so_far = sym (unrolled count i w lt ∙ ap (λ r. r >>= next (F (count - (i + 1)))) e) ∙ so_far

  pub turns_end : (end : List ℕ → Result R Halt) → ((w : List ℕ) → F 0 w ≡ end w) → (count i : ℕ) (w : List ℕ) (total : Result R Halt) → count ≤ i → F (count - i) w ≡ total → total ≡ end w
  turns_end end none count i w total le so_far =
      let k : count - i ≡ 0 = omega arith in
      sym so_far ∙ (ap (λ n. F n w) k ∙ none w)

-- ---- with what was read before

abbrev pub with_front : {A : Type 0} → List A → Walk (List A) → Walk (List A)
with_front front read = read >>= λ x. Ok (front ++ x.0, x.1)

-- an item, and those after it
abbrev pub one_and : {A : Type 0} → Walk A → (List ℕ → Walk (List A)) → Walk (List A)
one_and first others = first >>= λ x. others x.1 >>= λ xs. Ok (x.0 ∷ xs.0, xs.1)

regroup : {A : Type 0} (front : List A) (x : A) (read : Walk (List A)) → with_front front (read >>= λ xs. Ok (x ∷ xs.0, xs.1)) ≡ with_front (front ++ x ∷ []) read
regroup front x (Ok others) = ap (λ xs. Ok (xs, others.1)) (simp append_assoc)
regroup front x (Err why) = refl

-- what is left is one item, and others after it
pub one_gives : {A : Type 0} (left : Walk (List A)) (first : Walk A) (others : List ℕ → Walk (List A)) (front : List A) (x : A) (after : List ℕ) (total : Walk (List A)) → left ≡ one_and first others → first ≡ Ok (x, after) → with_front front left ≡ total → with_front (front ++ x ∷ []) (others after) ≡ total
one_gives left first others front x after total is e so_far =
    let one : left ≡ one_and (Ok (x, after)) others = is ∙ ap (λ r. one_and r others) e in
    sym (ap (with_front front) one ∙ regroup front x (others after)) ∙ so_far

pub one_fails : {A : Type 0} (left : Walk (List A)) (first : Walk A) (others : List ℕ → Walk (List A)) (front : List A) (why : Halt) (total : Walk (List A)) → left ≡ one_and first others → Fails why first → with_front front left ≡ total → Fails why total
one_fails left first others front why total is h so_far =
    fails_as why (with_front front left) total so_far (fails_on why left (λ x. Ok (front ++ x.0, x.1)) (fails_as why (one_and first others) left (sym is) (fails_on why first (λ x. others x.1 >>= λ xs. Ok (x.0 ∷ xs.0, xs.1)) h)))

pub none_left : {A : Type 0} (left : Walk (List A)) (front : List A) (after : List ℕ) (total : Walk (List A)) → left ≡ Ok ([], after) → with_front front left ≡ total → total ≡ Ok (front, after)
none_left left front after total e so_far = sym so_far ∙ (ap (with_front front) e ∙ ap (λ xs. Ok (xs, after)) (append-nil front))

-- ---- a step, and what follows it

pub step_fails : {X Y : Type 0} (left : Result Y Halt) (first : Result X Halt) (next : X → Result Y Halt) (why : Halt) (total : Result Y Halt) → left ≡ first >>= next → Fails why first → left ≡ total → Fails why total
step_fails left first next why total is h so_far = fails_as why (first >>= next) total (sym is ∙ so_far) (fails_on why first next h)

pub step_gives : {X Y : Type 0} (left : Result Y Halt) (first : Result X Halt) (next : X → Result Y Halt) (x : X) (total : Result Y Halt) → left ≡ first >>= next → first ≡ Ok x → left ≡ total → next x ≡ total
step_gives left first next x total is e so_far = sym (is ∙ ap (λ r. r >>= next) e) ∙ so_far
