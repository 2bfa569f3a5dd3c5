-- Laws of steps that may give nothing.
use Rattle.std.proofs.Common.{◌≡◌, Bool, true, false, cond, Option, Some, None, refl, ap}
use Rattle.facts.specs.OptionSteps.{◌>>=◌}

-- the value of a step that gave something
pub bind_some : {A B : Type 0} (r : Option A) (f : A → Option B) (y : B) → (r >>= f) ≡ Some y → (x : A) × (r ≡ Some x) × (f x ≡ Some y)
bind_some (Some x) f y e = (x, refl, e)
bind_some None f y e = absurd cc

-- what was chosen by a test, where something was found
pub chosen : {A : Type 0} (b : Bool) (o : Option A) (v : A) → cond b o None ≡ Some v → (b ≡ true) × (o ≡ Some v)
chosen true o v e = (refl, e)
chosen false o v e = absurd cc

abbrev found : {A : Type 0} → A → Option A
found x = Some x

pub some_is : {A : Type 0} (x y : A) → found x ≡ found y → x ≡ y
some_is x y e = cc

-- the step after one that found something
pub bind_is : {A B : Type 0} (r : Option A) (f : A → Option B) (x : A) → r ≡ Some x → (r >>= f) ≡ f x
bind_is r f x e = ap (λ (o : Option _). o >>= f) e
