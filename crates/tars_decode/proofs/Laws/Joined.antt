-- What is read of a tree, with the bytes after it.
use Rattle.std.proofs.Common.{◌≡◌, ℕ, List, ◌∷◌, Ok, Err, refl, ap, ◌∙◌}
use Rattle.facts.specs.ResultSteps.{◌>>=◌}
use Rattle.tars_decode.specs.declared.halt.Halt.TheVariants.{Refused, Stopped}
use Rattle.tars_decode.specs.declared.halt.Refusal.{Refusal}
use Rattle.tars_decode.specs.Reads.{Read, in_step}
use Rattle.tars_decode.specs.ReadingSteps.{Walk, step_in}

abbrev pub joined : {X : Type 0} → Read X → List ℕ → Walk X
joined (Ok x) rest = Ok (x, rest)
joined (Err refusal) rest = Err (Refused refusal)

pub step_joined : {X : Type 0} (step : ℕ) (read : Read X) (rest : List ℕ) → step_in step (joined read rest) ≡ joined (in_step step read) rest
step_joined step (Ok x) rest = refl
step_joined step (Err refusal) rest = refl

-- made into something else
pub made : {X Y : Type 0} (f : X → Y) (read : Read X) (rest : List ℕ) → (joined read rest >>= λ x. Ok (f x.0, x.1)) ≡ joined (read >>= λ x. Ok (f x)) rest
made f (Ok x) rest = refl
made f (Err refusal) rest = refl

-- one, and those after it
pub one_joined : {X : Type 0} (first : Read X) (others : Read (List X)) (walk : List ℕ → Walk (List X)) (next rest : List ℕ) → walk next ≡ joined others rest
    → (joined first next >>= λ x. walk x.1 >>= λ xs. Ok (x.0 ∷ xs.0, xs.1)) ≡ joined (first >>= λ x. others >>= λ xs. Ok (x ∷ xs)) rest
one_joined (Ok x) others walk next rest e = ap (λ r. r >>= λ xs. Ok (x ∷ xs.0, xs.1)) e ∙ made (λ xs. x ∷ xs) others rest
one_joined (Err refusal) others walk next rest e = refl

abbrev stopped : {X : Type 0} → Walk X
stopped = Err Stopped

pub never_stopped : {X : Type 0} (read : Read X) (rest : List ℕ) → joined read rest ≡ Err Stopped → ⊥
never_stopped (Ok x) rest e = cc
never_stopped (Err refusal) rest e = cc

abbrev walk_ok : {X : Type 0} → X × List ℕ → Walk X
walk_ok x = Ok x

ok_same : {X : Type 0} (x y : X × List ℕ) → walk_ok x ≡ walk_ok y → x ≡ y
ok_same x y e = cc

abbrev walk_err : {X : Type 0} → Refusal → Walk X
walk_err r = Err (Refused r)

err_same : {X : Type 0} (r s : Refusal) → walk_err {X = X} r ≡ walk_err {X = X} s → r ≡ s
err_same r s e = cc

pub joined_ok : {X : Type 0} (read : Read X) (rest : List ℕ) (x : X) (after : List ℕ) → joined read rest ≡ Ok (x, after) → read ≡ Ok x
joined_ok (Ok y) rest x after e = ap (λ p. Ok p.0) (ok_same (y, rest) (x, after) e)
joined_ok (Err refusal) rest x after e = absurd cc

pub joined_err : {X : Type 0} (read : Read X) (rest : List ℕ) (refusal : Refusal) → joined read rest ≡ Err (Refused refusal) → read ≡ Err refusal
joined_err (Ok y) rest refusal e = absurd cc
joined_err (Err other) rest refusal e = ap (λ r. Err r) (err_same {X = _} other refusal e)
