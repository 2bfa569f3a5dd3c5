-- A whole number that is spelled in its kind is read as this number.
use Rattle.std.proofs.Common.{◌≡◌, ◌^◌, ◌<◌, ℕ, ℤ, pos, List, ◌++◌, length, refl, subst, arith}
use Rattle.std.specs.Prelude.{FitsSigned}
use Rattle.std.specs.Int.{Width, w8, w16, w32, w64, from_be_bytes, cast_unsigned}
use Rattle.std.proofs.Math.Facts.{Fits-of_z}
use Rattle.std.proofs.lemmas.Int.{to_z-of_z}
use Rattle.std.proofs.lemmas.Nat.{from_be_bytes-to_be_bytes_2, from_be_bytes-to_be_bytes_4, from_be_bytes-to_be_bytes_8}
use Rattle.wire_words.specs.Tree.{WireNumber, zero_tag, int1, int2, int4, int8}
use Rattle.wire_words.specs.Spelling.{head, two_complement, shortest, spelled_number, spelled_size}
use Rattle.tars_wire.specs.declared.wire_type.WireType.{WireType}
use Rattle.tars_wire.specs.declared.wire_type.WireType.TheVariants as wire
use Rattle.tars_wire.specs.Heads.{code_of}
use Rattle.tars_wire.specs.Spelled.{Bytes, signed, Number, is_zero_tag, is_int1, is_int2, is_int4, is_int8, Size}
use Rattle.tars_wire.specs.Writable.{IsInKind}
use Rattle.tars_wire.proofs.Writing.Pieces.{AreBytes, bytes_spell, head_spells, Spells, one_piece}
use Rattle.tars_wire.proofs.Writing.Shortest.{shortest_in_kind, size_is}

abbrev pub IsNumber : WireNumber → List ℕ → WireType → List ℕ → Type 0
IsNumber number rest type following = Number type number following rest

-- so many bytes, which are read as the number
record Reads (w : Width) (size : ℕ) (n : ℤ) : Type 0 where
  long : length (two_complement w n) ≡ size
  again : signed w (two_complement w n) ≡ n

reads : (w : Width) (size : ℕ) (n : ℤ) → FitsSigned w n → length (two_complement w n) ≡ size → from_be_bytes w (two_complement w n) ≡ cast_unsigned w n → Reads w size n
reads w size n fits long is = record { long = long; again = rw is (to_z-of_z w n fits) }

reads_8 : (n : ℤ) → FitsSigned w8 n → Reads w8 1 n
unfolding two_complement
reads_8 n fits = let below = (Fits-of_z fits).fits in reads w8 1 n fits refl (omega arith)

reads_16 : (n : ℤ) → FitsSigned w16 n → Reads w16 2 n
unfolding two_complement
reads_16 n fits = reads w16 2 n fits refl (from_be_bytes-to_be_bytes_2 (cast_unsigned w16 n) (Fits-of_z fits).fits)

reads_32 : (n : ℤ) → FitsSigned w32 n → Reads w32 4 n
unfolding two_complement
reads_32 n fits = reads w32 4 n fits refl (from_be_bytes-to_be_bytes_4 (cast_unsigned w32 n) (Fits-of_z fits).fits)

reads_64 : (n : ℤ) → FitsSigned w64 n → Reads w64 8 n
unfolding two_complement
reads_64 n fits = reads w64 8 n fits refl (from_be_bytes-to_be_bytes_8 (cast_unsigned w64 n) (Fits-of_z fits).fits)

-- a kind whose numbers are read so
module _ (type : WireType) (w : Width) (size : ℕ) (kind : ℤ → WireNumber) (is_kind : (bytes input rest : List ℕ) → Bytes bytes input rest → length bytes ≡ size → Number type (kind (signed w bytes)) input rest) where
  kind_spells : (n : ℤ) (tag : ℕ) (rest : List ℕ) → AreBytes (head tag (code_of type) ++ two_complement w n) → Reads w size n → Spells (IsNumber (kind n) rest) tag ((head tag (code_of type) ++ two_complement w n) ++ rest)
  kind_spells n tag rest all r =
      one_piece (IsNumber (kind n) rest) tag type (two_complement w n) rest all (λ are.
      subst (λ z. Number type (kind z) (two_complement w n ++ rest) rest) r.again (is_kind (two_complement w n) (two_complement w n ++ rest) rest (bytes_spell (two_complement w n) rest are) r.long))

pub number_spells : (number : WireNumber) (tag : ℕ) (rest : List ℕ) → AreBytes (spelled_number tag number) → IsInKind number → Spells (IsNumber number rest) tag (spelled_number tag number ++ rest)
unfolding spelled_number
number_spells zero_tag tag rest all fits = record { type = wire.ZeroTag; following = rest; head = head_spells tag wire.ZeroTag rest all; contents = is_zero_tag }
number_spells (int1 n) tag rest all fits = kind_spells wire.Int1 w8 1 int1 (λ bytes input rest. is_int1) n tag rest all (reads_8 n fits)
number_spells (int2 n) tag rest all fits = kind_spells wire.Int2 w16 2 int2 (λ bytes input rest. is_int2) n tag rest all (reads_16 n fits)
number_spells (int4 n) tag rest all fits = kind_spells wire.Int4 w32 4 int4 (λ bytes input rest. is_int4) n tag rest all (reads_32 n fits)
number_spells (int8 n) tag rest all fits = kind_spells wire.Int8 w64 8 int8 (λ bytes input rest. is_int8) n tag rest all (reads_64 n fits)

pub size_spells : (n : ℕ) (rest : List ℕ) → n < 2 ^ 31 → AreBytes (spelled_size n) → Size n (spelled_size n ++ rest) rest
unfolding spelled_size
size_spells n rest short all =
    let s = number_spells (shortest (pos n)) 0 rest all (shortest_in_kind (pos n) (record { sfits = omega arith })) in
    record { type = s.type; number = shortest (pos n); following = s.following; head = s.head; contents = s.contents; size = size_is n short }
