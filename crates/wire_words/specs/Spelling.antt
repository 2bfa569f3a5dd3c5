-- The one spelling that is written of fields (docs/PROTOCOL.md, "Heads", "Contents", "Writing").
use Rattle.std.specs.Prelude.{ℕ, ◌+◌, ◌*◌, Bool, false, ◌==◌, nat_lt, if◌then◌else◌, ℤ, pos, negsuc, List, [], ◌∷◌, ◌++◌, length}
use Rattle.std.specs.Int.{Width, w8, w16, w32, w64, to_be_bytes, cast_unsigned}
use Rattle.wire_words.specs.Tree.{WireNumber, zero_tag, int1, int2, int4, int8, WireValue, whole, float, double, string1, string4, simple_list, list, map, struct, WireValues, no_values, value, WirePairs, no_pairs, pair, WireFields, no_fields, field}

-- The head of a field: its tag in the high four bits and its type in the low four. From 15 on the tag
-- has a byte of its own.
unfoldable pub head : ℕ → ℕ → List ℕ
head tag type = if nat_lt tag 15 then (tag * 16 + type) ∷ [] else (240 + type) ∷ tag ∷ []

-- a whole number in two's complement, the high byte first
unfoldable pub two_complement : Width → ℤ → List ℕ
two_complement w n = to_be_bytes w (cast_unsigned w n)

-- whether a number stands in so many bits
unfoldable pub fits_bits : ℕ → ℤ → Bool
fits_bits limit (pos n) = nat_lt n limit
fits_bits limit (negsuc n) = nat_lt n limit

-- the shortest kind that holds a number
unfoldable pub shortest : ℤ → WireNumber
shortest n =
    if is_zero n then zero_tag
    else (if fits_bits 128 n then int1 n
    else (if fits_bits 32768 n then int2 n
    else (if fits_bits 2147483648 n then int4 n
    else int8 n)))
  where
    is_zero : ℤ → Bool
    is_zero (pos n) = n == 0
    is_zero (negsuc n) = false

-- a field that is a whole number
unfoldable pub spelled_number : ℕ → WireNumber → List ℕ
spelled_number tag zero_tag = head tag 12
spelled_number tag (int1 n) = head tag 0 ++ two_complement w8 n
spelled_number tag (int2 n) = head tag 1 ++ two_complement w16 n
spelled_number tag (int4 n) = head tag 2 ++ two_complement w32 n
spelled_number tag (int8 n) = head tag 3 ++ two_complement w64 n

-- the size of a simple list, list or map
unfoldable pub spelled_size : ℕ → List ℕ
spelled_size n = spelled_number 0 (shortest (pos n))

-- how many values, pairs and so on
abbrev pub count_values : WireValues → ℕ
count_values no_values = 0
count_values (value v vs) = 1 + count_values vs

abbrev pub count_pairs : WirePairs → ℕ
count_pairs no_pairs = 0
count_pairs (pair k v ps) = 1 + count_pairs ps

-- A field: its head, then its contents. A list's elements have tag 0, a map's keys tag 0 and its
-- values tag 1.
abbrev mutual
  pub spelled : ℕ → WireValue → List ℕ
  spelled tag (whole n) = spelled_number tag n
  spelled tag (float bytes) = head tag 4 ++ bytes
  spelled tag (double bytes) = head tag 5 ++ bytes
  spelled tag (string1 bytes) = head tag 6 ++ length bytes ∷ bytes
  spelled tag (string4 bytes) = head tag 7 ++ to_be_bytes w32 (length bytes) ++ bytes
  spelled tag (map pairs) = head tag 8 ++ spelled_size (count_pairs pairs) ++ spelled_pairs pairs
  spelled tag (list values) = head tag 9 ++ spelled_size (count_values values) ++ spelled_values values
  spelled tag (struct fields) = head tag 10 ++ spelled_fields fields ++ head 0 11
  spelled tag (simple_list bytes) = head tag 13 ++ head 0 0 ++ spelled_size (length bytes) ++ bytes

  pub spelled_values : WireValues → List ℕ
  spelled_values no_values = []
  spelled_values (value v vs) = spelled 0 v ++ spelled_values vs

  pub spelled_pairs : WirePairs → List ℕ
  spelled_pairs no_pairs = []
  spelled_pairs (pair k v ps) = spelled 0 k ++ spelled 1 v ++ spelled_pairs ps

  pub spelled_fields : WireFields → List ℕ
  spelled_fields no_fields = []
  spelled_fields (field tag v fs) = spelled tag v ++ spelled_fields fs
