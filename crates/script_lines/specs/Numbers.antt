-- How numbers are written (docs/SCRIPTS.md, "Names and numbers").
use Rattle.std.specs.Prelude.{ℕ, Bool, true, false, ◌&&◌, ◌||◌, ◌==◌, nat_le, nat_lt, if◌then◌else◌, slice_index, ℤ, pos, neg_ℤ, List, [], ◌∷◌, Option, Some, None}
use Rattle.std.specs.List.{list_all}
use Rattle.std.specs.Str.Parse.{digits_value}

-- `0`
abbrev pub ZERO : ℕ
ZERO = 48

-- `-`
abbrev pub MINUS : ℕ
MINUS = 45

abbrev pub is_digit : ℕ → Bool
is_digit c = nat_le 48 c && nat_le c 57

-- digits without a leading zero
abbrev pub is_natural : List ℕ → Bool
is_natural [] = false
is_natural (d ∷ ds) = list_all is_digit (d ∷ ds) && (nat_lt ZERO d || is_empty ds)
  where
    is_empty : List ℕ → Bool
    is_empty [] = true
    is_empty (e ∷ es) = false

-- a whole number: no leading zero, and no minus before 0
abbrev pub is_number : List ℕ → Bool
is_number [] = false
is_number (c ∷ cs) = if c == MINUS then is_natural cs && nat_lt ZERO (slice_index cs 0) else is_natural (c ∷ cs)

-- the number that such a text means
abbrev pub number_of : List ℕ → ℤ
number_of [] = pos 0
number_of (c ∷ cs) = if c == MINUS then neg_ℤ (pos (digits_value 10 cs)) else pos (digits_value 10 (c ∷ cs))

-- the number that a natural number's text means, if it is in the range
unfoldable pub within : ℕ → ℕ → List ℕ → Option ℕ
within low high text =
    let number = digits_value 10 text in
    if is_natural text && (nat_le low number && nat_le number high) then Some number else None
