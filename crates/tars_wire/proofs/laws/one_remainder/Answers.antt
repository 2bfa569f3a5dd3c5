use Rattle.tars_wire.proofs.Walking.OneReading.{left_same}
use Rattle.tars_wire.proofs.laws.one_remainder.Goals as goal

pub returns : goal.returns
returns c = λ cursor left other x y. left_same cursor.room cursor.levels left other cursor.bytes x y
