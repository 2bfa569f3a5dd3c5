-- For the proofs: how the text of an object is read, as the functions of src/object.rt do. What such a text says stands
-- in specs/Objects.antt.
use Rattle.std.specs.Prelude.{ℕ, Bool, ◌&&◌, nat_le, List, length, codes, Some}
use Rattle.std.specs.List.{list_all}
use Rattle.facts.specs.OptionSteps.{◌>>=◌}
use Rattle.script_lines.specs.Numbers.{within}
use Rattle.script_lines.specs.Objects.{Object, is_part_byte, is_host_byte}
use Rattle.script_lines.specs.TextLimits.{MAX_PORT, MAX_TIME}
use Rattle.script_lines.specs.ScanSteps.{Whole, tested, before, ◌&>◌}

-- a word of such bytes
abbrev pub is_word_of : (ℕ → Bool) → List ℕ → Bool
is_word_of test bytes = nat_le 1 (length bytes) && list_all test bytes

-- a part of an id
unfoldable pub part : Whole (List ℕ)
part = tested (is_word_of is_part_byte)

unfoldable pub host : Whole (List ℕ)
host = tested (is_word_of is_host_byte)

-- an id, whose three parts are looked at and not kept
unfoldable pub id : Whole (List ℕ)
id bytes = do
  parts ← (before (codes ".") part &> (before (codes ".") part &> part)) bytes
  Some bytes

-- the host, the port and the timeout
unfoldable pub node : Whole (List ℕ × (ℕ × ℕ))
node = before (codes " -p ") host &> (before (codes " -t ") (within 1 MAX_PORT) &> within 1 MAX_TIME)

abbrev pub object_from : List ℕ × (List ℕ × (ℕ × ℕ)) → Object
object_from o = record { id = o.0; host = o.1.0; port = o.1.1.0; timeout = o.1.1.1 }

-- the id, and the node
unfoldable pub object_at : Whole Object
object_at text = do
  object ← (before (codes "@tcp -h ") id &> node) text
  Some (object_from object)
