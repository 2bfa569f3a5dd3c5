-- Small facts of tests and of bytes.
use Rattle.std.proofs.Common.{◌≡◌, ◌<◌, ℕ, suc, ◌+◌, ◌*◌, ◌/◌, ◌%◌, Bool, true, false, eqb, ltb, arith}
use Rattle.std.specs.Prelude.{◌&&◌}
use Rattle.std.proofs.lemmas.Bool.Decides.{nat_tests}

pub false_true : false ≡ true → ⊥
false_true e = cc

pub eqb_fact : (m n : ℕ) → eqb m n ≡ true → m ≡ n
eqb_fact m n e = grind (arith, nat_tests)

pub ltb_suc : (a b : ℕ) → ltb (suc a) (suc b) ≡ ltb a b
ltb_suc a b = grind (arith, nat_tests)

-- the two halves of a byte
pub halves : (byte high low : ℕ) → byte ≡ 16 * high + low → low < 14 → (byte % 16 ≡ low) × (byte / 16 ≡ high)
halves byte high low e below = (omega arith, omega arith)

-- where it is not so that something opens and no room is left, there is room for what opens
pub room_for : (opening : Bool) (room : ℕ) → (opening && eqb room 0) ≡ false → opening ≡ true → 0 < room
room_for true room e f = grind (arith, nat_tests)
room_for false room e f = absurd (false_true f)
