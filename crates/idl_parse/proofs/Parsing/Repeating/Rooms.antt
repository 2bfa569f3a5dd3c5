-- A type is read by the room that is left for types inside it.
use Rattle.std.proofs.Common.{◌≡◌, ℕ, zero, suc, ◌-◌, refl, ap, arith}
use Rattle.idl_parse.specs.ReadSteps.{no_room_at, type_with, type_at}

pub no_room_left : (room : ℕ) → room ≡ 0 → type_at room ≡ no_room_at
unfolding type_at
no_room_left zero is = refl
no_room_left (suc room) is = cc

pub room_left : (room : ℕ) → (room ≡ 0 → ⊥) → type_at room ≡ type_with (type_at (room - 1))
unfolding type_at
room_left zero is_not = absurd (is_not refl)
room_left (suc room) is_not = ap (λ r. type_with (type_at r)) (omega arith)
