-- For the proofs: how a number's text is read, as the functions of src/numbers.rt do. What such a text means stands
-- in specs/Numbers.antt.
use Rattle.std.specs.Prelude.{◌^◌, ℕ, ◌&&◌, nat_le, nat_lt, if◌then◌else◌, ℤ, Some, None}
use Rattle.std.specs.Str.Parse.{digits_value}
use Rattle.tars_model.specs.Ranges.{is_int}
use Rattle.facts.specs.OptionSteps.{◌>>=◌}
use Rattle.script_lines.specs.Numbers.{is_natural, number_of}
use Rattle.script_lines.specs.ScanSteps.{Whole}

-- a natural number below 2 ^ 32
unfoldable pub natural : Whole ℕ
natural text = if is_natural text && nat_lt (digits_value 10 text) (2 ^ 32) then Some (digits_value 10 text) else None

-- a natural number in a range
unfoldable pub natural_within : ℕ → ℕ → Whole ℕ
natural_within low high text = do
  n ← natural text
  if nat_le low n && nat_le n high then Some n else None

-- the int that a number's text means, if it means one
unfoldable pub int_of : Whole ℤ
int_of text = if is_int (number_of text) then Some (number_of text) else None
