-- Hexadecimal digits, byte by byte.
use Rattle.std.proofs.Common.{◌≡◌, ℕ, ◌/◌, ◌%◌, bit_and, List, [], ◌∷◌, slice_index, refl, ap}
use Rattle.std.specs.List.{flat_map}
use Rattle.std.proofs.lemmas.Nat.{and_mask}
use Rattle.hex.specs.Hex.{encode_with, encode_upper, upper_digits}

-- the digits of bytes are those of each byte
pub digits_of_each : (bytes : List ℕ) → flat_map (λ byte. encode_upper (byte ∷ [])) bytes ≡ encode_upper bytes
unfolding encode_with
digits_of_each [] = refl
digits_of_each (byte ∷ bytes) =
    ap (λ (rest : List ℕ). slice_index upper_digits (byte / 16) ∷ slice_index upper_digits (byte % 16) ∷ rest) (digits_of_each bytes)

-- the digits of one byte, its low four bits taken by a mask
pub two_digits : (byte : ℕ) → slice_index upper_digits (byte / 16) ∷ slice_index upper_digits (bit_and byte 15) ∷ [] ≡ encode_upper (byte ∷ [])
unfolding encode_with
two_digits byte = ap (λ (low : ℕ). slice_index upper_digits (byte / 16) ∷ slice_index upper_digits low ∷ []) (and_mask byte 4)
