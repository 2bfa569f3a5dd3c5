-- For callers of the cursor.
use Rattle.std.proofs.Common.{◌≡◌, ◌≤◌, true, Bool, List, [], ◌∷◌, length, arith}
use Rattle.tars_wire.specs.declared.wire_type.WireType.{WireType}
use Rattle.tars_wire.specs.declared.head.Head.{Head}
use Rattle.tars_wire.specs.Left.{Remaining, skipped, Standing, IsLeft, IsNext, NextIs, HasEntered}

-- what `head` answered has such a type
pub next_is : (cursor : Standing) (sort : WireType → Bool) (head : Head) → IsNext cursor head → sort head.kind ≡ true → NextIs cursor sort
next_is cursor sort head next is_sort = record { head = head; next = next; is_sort = is_sort }

-- a field further, the same is open
pub still_entered : (old new : Standing) → ((left : List Remaining) → IsLeft old left → IsLeft new (skipped left)) → HasEntered old → HasEntered new
still_entered old new on h = record { left = skipped h.left; is_left = on h.left h.is_left; two = go h.left h.two }
  where
    go : (left : List Remaining) → 2 ≤ length left → 2 ≤ length (skipped left)
    go [] two = absurd (omega arith)
    go (inner ∷ outer) two = omega arith
