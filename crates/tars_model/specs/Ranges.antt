-- The range of ints.
use Rattle.std.specs.Prelude.{Bool, ℤ, ◌≤ℤ◌, pos, negsuc}
use Rattle.tars_model.specs.Values.{is_signed}

abbrev pub IsInt : ℤ → Type 0
IsInt n = (negsuc 2147483647 ≤ℤ n) × (n ≤ℤ pos 2147483647)

-- whether a whole number is an int
abbrev pub is_int : ℤ → Bool
is_int n = is_signed 31 n
