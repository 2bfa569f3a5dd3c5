-- With room left, the contents of a field are read one level deeper with one less; with none they are not.
use Rattle.std.proofs.Common.{◌≡◌, ◌<◌, ◌-◌, ℕ, zero, suc, List, Err, ap, arith}
use Rattle.tars_model.specs.Declarations.{Declared}
use Rattle.tars_model.specs.declared.ty.Ty.{Ty}
use Rattle.tars_wire.specs.declared.wire_type.WireType.{WireType}
use Rattle.tars_decode.specs.declared.halt.Halt.TheVariants.{Stopped}
use Rattle.tars_decode.specs.ReadingSteps.{kind_past, past_at, kind_at, value_at}

pub past_one_more : (room : ℕ) (type : WireType) (bytes : List ℕ) → 0 < room → past_at room type bytes ≡ kind_past (past_at (room - 1)) type bytes
unfolding past_at
past_one_more zero type bytes some = absurd (omega arith)
past_one_more (suc room) type bytes some = ap (λ k. kind_past (past_at k) type bytes) (omega arith)

pub value_one_more : (room : ℕ) (d : Declared) (t : Ty) (type : WireType) (bytes : List ℕ) → 0 < room → value_at room d t type bytes ≡ kind_at (value_at (room - 1) d) (past_at (room - 1)) d t type bytes
unfolding value_at
value_one_more zero d t type bytes some = absurd (omega arith)
value_one_more (suc room) d t type bytes some = ap (λ k. kind_at (value_at k d) (past_at k) d t type bytes) (omega arith)

pub past_no_room : (room : ℕ) (type : WireType) (bytes : List ℕ) → room ≡ 0 → past_at room type bytes ≡ Err Stopped
unfolding past_at
past_no_room room type bytes e = ap (λ k. past_at k type bytes) e

pub value_no_room : (room : ℕ) (d : Declared) (t : Ty) (type : WireType) (bytes : List ℕ) → room ≡ 0 → value_at room d t type bytes ≡ Err Stopped
unfolding value_at
value_no_room room d t type bytes e = ap (λ k. value_at k d t type bytes) e
