-- Laws of steps that stop.
use Rattle.std.proofs.Common.{◌≡◌, Result, Ok, Err, refl}
use Rattle.facts.specs.ResultSteps.{◌>>=◌}

pub bind_assoc : {A B C E : Type 0} (r : Result A E) (f : A → Result B E) (g : B → Result C E) → ((r >>= f) >>= g) ≡ (r >>= λ x. f x >>= g)
bind_assoc (Ok x) f g = refl
bind_assoc (Err stop) f g = refl

-- a last step that gives what it gets
pub bind_ok : {A E : Type 0} (r : Result A E) → (r >>= λ x. Ok x) ≡ r
bind_ok (Ok x) = refl
bind_ok (Err stop) = refl

-- the same steps after it
pub bind_same : {A B E : Type 0} (r : Result A E) (f g : A → Result B E) → ((x : A) → f x ≡ g x) → (r >>= f) ≡ (r >>= g)
bind_same (Ok x) f g same = same x
bind_same (Err stop) f g same = refl

-- the same steps after what it gives
pub bind_same_after : {A B E : Type 0} (r : Result A E) (f g : A → Result B E) → ((x : A) → r ≡ Ok x → f x ≡ g x) → (r >>= f) ≡ (r >>= g)
bind_same_after (Ok x) f g same = same x refl
bind_same_after (Err stop) f g same = refl

-- steps that give something have each given something
pub bind_gave : {A B E : Type 0} (r : Result A E) (f : A → Result B E) (y : B) → (r >>= f) ≡ Ok y → (x : A) × (r ≡ Ok x) × (f x ≡ Ok y)
bind_gave (Ok x) f y e = (x, refl, e)
bind_gave (Err stop) f y e = cc
