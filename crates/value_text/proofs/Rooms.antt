-- A value is read by the room that is left for values inside it.
use Rattle.std.proofs.Common.{◌≡◌, ℕ, zero, suc, ◌-◌, List, refl, ap, arith}
use Rattle.tars_model.specs.Declarations.{Declared}
use Rattle.tars_model.specs.declared.ty.Ty.{Ty, out-Ty}
use Rattle.value_text.specs.ReadSteps.{unexpected}
use Rattle.value_text.specs.ValueSteps.{value_by, value_at}

pub no_room_left : (room : ℕ) (d : Declared) (t : Ty) (bytes : List ℕ) → room ≡ 0 → value_at room d t bytes ≡ unexpected bytes
unfolding value_at
no_room_left zero d t bytes is = refl
no_room_left (suc room) d t bytes is = cc

pub room_left : (room : ℕ) (d : Declared) (t : Ty) (bytes : List ℕ) → (room ≡ 0 → ⊥) → value_at room d t bytes ≡ value_by d (value_at (room - 1) d) (out-Ty t) bytes
unfolding value_at
room_left zero d t bytes is_not = absurd (is_not refl)
room_left (suc room) d t bytes is_not = ap (λ r. value_by d (value_at r d) (out-Ty t) bytes) (omega arith)
