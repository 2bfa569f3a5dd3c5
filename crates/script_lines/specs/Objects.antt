-- The text of an object with its one node (docs/SCRIPTS.md, "General scripts").
use Rattle.std.specs.Prelude.{◌≡◌, ◌≤◌, ℕ, Bool, true, ◌||◌, ◌==◌, List, ◌++◌, length, codes}
use Rattle.std.specs.List.{list_all}
use Rattle.std.specs.Char.{is_ascii_alphabetic}
use Rattle.std.specs.Str.Parse.{digits_value}
use Rattle.script_lines.specs.Numbers.{is_digit, is_natural}
use Rattle.script_lines.specs.TextLimits.{MAX_PORT, MAX_TIME}

-- what the text says; the port and the timeout are texts
pub record ObjectText : Type 0 where
  pub app : List ℕ
  pub server : List ℕ
  pub object : List ℕ
  pub host : List ℕ
  pub port : List ℕ
  pub timeout : List ℕ

-- `APP.SERVER.OBJ`
unfoldable pub object_id : ObjectText → List ℕ
object_id o = o.app ++ codes "." ++ o.server ++ codes "." ++ o.object

unfoldable pub object_text : ObjectText → List ℕ
object_text o = object_id o ++ codes "@tcp -h " ++ o.host ++ codes " -p " ++ o.port ++ codes " -t " ++ o.timeout

-- one byte or more, which all pass
pub record IsWordOf (test : ℕ → Bool) (bytes : List ℕ) : Type 0 where
  pub some : 1 ≤ length bytes
  pub each : list_all test bytes ≡ true

-- a part of an id: letters, digits and `_`
abbrev pub is_part_byte : ℕ → Bool
is_part_byte c = is_ascii_alphabetic c || is_digit c || c == 95

-- a host: letters, digits, `.` and `-`
abbrev pub is_host_byte : ℕ → Bool
is_host_byte c = is_ascii_alphabetic c || is_digit c || c == 46 || c == 45

-- a natural number in a range
pub record IsNaturalWithin (low high : ℕ) (text : List ℕ) : Type 0 where
  pub form : is_natural text ≡ true
  pub low_end : low ≤ digits_value 10 text
  pub high_end : digits_value 10 text ≤ high

pub record IsObject (o : ObjectText) : Type 0 where
  pub app : IsWordOf is_part_byte o.app
  pub server : IsWordOf is_part_byte o.server
  pub object : IsWordOf is_part_byte o.object
  pub host : IsWordOf is_host_byte o.host
  pub port : IsNaturalWithin 1 MAX_PORT o.port
  pub timeout : IsNaturalWithin 1 MAX_TIME o.timeout

-- an object with its one node
pub record Object : Type 0 where
  pub id : List ℕ
  pub host : List ℕ
  pub port : ℕ
  -- in milliseconds
  pub timeout : ℕ

abbrev pub object_meant : ObjectText → Object
object_meant o = record {
  id = object_id o;
  host = o.host;
  port = digits_value 10 o.port;
  timeout = digits_value 10 o.timeout;
}

-- the text says the object
abbrev pub SaysObject : List ℕ → Object → Type 0
SaysObject text object = (o : ObjectText) × (text ≡ object_text o) × IsObject o × (object ≡ object_meant o)
