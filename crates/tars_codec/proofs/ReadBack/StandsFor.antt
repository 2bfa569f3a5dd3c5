-- What is said of a value by what is written for it: it is read again, and a body can hold it.
use Rattle.std.proofs.Common.{◌≡◌, ◌<◌, ℕ, true, Ok, sym, subst}
use Rattle.wire_words.specs.Tree.{WireValue}
use Rattle.tars_model.specs.Declarations.{Declared}
use Rattle.tars_model.specs.Types.{type_depth, depths_of}
use Rattle.tars_model.specs.Values.{told}
use Rattle.tars_model.specs.declared.ty.Ty.{Ty}
use Rattle.tars_model.specs.declared.value.Value.{Value}
use Rattle.tars_wire.specs.Writable.{Writable}
use Rattle.tars_decode.specs.Reads.{says}
use Rattle.tars_codec.specs.Written.{wire_value}

-- how deep values of a type are at most
abbrev pub depth : Declared → Ty → ℕ
depth d t = type_depth (depths_of d.structs) t

-- this stands for the value under a type
pub record StandsFor (d : Declared) (t : Ty) (v : Value) (w : WireValue) : Type 0 where
  pub again : says w d t ≡ Ok v
  pub fits : (room : ℕ) → depth d t < room → Writable w room

-- what is written for it stands for it under each type that it fits
abbrev pub ComesBack : Declared → Value → Type 0
ComesBack d v = (t : Ty) → (told v).fits d t ≡ true → StandsFor d t v (wire_value v d t)

pub by_wire : (d : Declared) (t : Ty) (v : Value) (w : WireValue) → wire_value v d t ≡ w → StandsFor d t v w → StandsFor d t v (wire_value v d t)
by_wire d t v w is stands = subst (StandsFor d t v) (sym is) stands
