-- Bytes added one after the other to a buffer.
use Rattle.std.proofs.Common.{◌≤◌, ℕ, List, ◌++◌, length, append_assoc, ap, ◌∙◌, arith, length-append}
use Rattle.bytes.specs.Filled.{Filled}
use Rattle.tars_codec.specs.Rooms.{Adds}

pub added_twice : {old mid new : Filled} {a b : List ℕ} → Adds old mid a → Adds mid new b → Adds old new (a ++ b)
added_twice {old} {mid} {new} {a} {b} first second = record {
  items = second.items ∙ ap (λ xs. xs ++ b) first.items ∙ append_assoc old.items a b;
  spare = simp length-append (omega (arith, first.spare, second.spare));
}

-- room for two is room for the second, after the first
pub room_after : {old mid : Filled} {a : List ℕ} (b : List ℕ) → Adds old mid a → length (a ++ b) ≤ old.spare → length b ≤ mid.spare
room_after {a = a} b first room = omega (arith, first.spare, length-append a b)
