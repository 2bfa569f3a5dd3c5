-- For the proofs: how a text is read byte by byte, as the functions of src/ do.
use Rattle.std.specs.Prelude.{◌<◌, ℕ, ◌+◌, ◌*◌, if◌then◌else◌, List, [], ◌∷◌, ◌++◌, Option, Some, None, Result, Ok, Err}
use Rattle.std.specs.Char.{digit_value}
use Rattle.hex_text.specs.HexText.{is_blank, is_hexadecimal}
use Rattle.hex_text.specs.declared.part.Part.{Part}
use Rattle.hex_text.specs.declared.part.Part.TheVariants.{Blank, High, Byte}

-- what a byte is, after the first digit of a pair or outside one
unfoldable pub part_of : Option ℕ → ℕ → Option Part
part_of None c =
    if is_hexadecimal c then Some (High (digit_value c)) else (if is_blank c then Some Blank else None)
part_of (Some high) c = if is_hexadecimal c then Some (Byte (16 * high + digit_value c)) else None

-- a first digit is one
abbrev pub IsSmall : Option Part → Type 0
IsSmall (Some (High digit)) = digit < 16
IsSmall _ = Unit {0}

-- the digit that waits for its second after a byte
abbrev pub waits : Part → Option ℕ
waits Blank = None
waits (High digit) = Some digit
waits (Byte byte) = None

-- the bytes after it
abbrev pub spelt_by : List ℕ → Part → List ℕ
spelt_by bytes Blank = bytes
spelt_by bytes (High digit) = bytes
spelt_by bytes (Byte byte) = bytes ++ byte ∷ []

-- what is read of a byte and those after it
abbrev pub later : Result (List ℕ) ℕ → Result (List ℕ) ℕ
later (Ok bytes) = Ok bytes
later (Err at) = Err (at + 1)

abbrev pub with_byte : ℕ → Result (List ℕ) ℕ → Result (List ℕ) ℕ
with_byte byte (Ok bytes) = Ok (byte ∷ bytes)
with_byte byte (Err at) = Err (at + 1)

abbrev pub goes_on : Part → Result (List ℕ) ℕ → Result (List ℕ) ℕ
goes_on Blank read = later read
goes_on (High digit) read = later read
goes_on (Byte byte) read = with_byte byte read

-- no digit may wait at the end
abbrev pub at_end : Option ℕ → Result (List ℕ) ℕ
at_end None = Ok []
at_end (Some high) = Err 0

-- the bytes, or how many bytes of the text stand before its fault
abbrev pub read_of : Option ℕ → List ℕ → Result (List ℕ) ℕ
read_of high [] = at_end high
read_of high (c ∷ text) = elim (part_of high c) [ None ↦ Err 0 | Some t ↦ goes_on t (read_of (waits t) text) ]
