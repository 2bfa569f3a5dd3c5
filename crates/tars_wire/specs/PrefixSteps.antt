-- Pieces that begin bytes, as the private functions find them; for those and the proofs alone.
use Rattle.std.specs.Prelude.{◌≡◌, ◌<◌, ◌^◌, ◌-◌, ◌*◌, ◌/◌, ◌%◌, ℕ, nat_lt, if◌then◌else◌, ℤ, pos, negsuc, List, [], ◌∷◌, length, take, drop, Option, Some, None, Bool, false, ◌==◌}
use Rattle.std.specs.Int.{Width, w8, w16, w32, w64, byte_len, from_be_bytes, cast_signed}
use Rattle.facts.specs.OptionSteps.{◌>>=◌}
use Rattle.tars_wire.specs.declared.wire_type.WireType.{WireType}
use Rattle.tars_wire.specs.declared.wire_type.WireType.TheVariants as wire
use Rattle.tars_wire.specs.declared.head.Head.{Head}
use Rattle.tars_wire.specs.declared.level.Level.{Level}
use Rattle.tars_wire.specs.declared.level.Level.TheVariants as level
use Rattle.tars_wire.specs.Heads.{LONG_HEAD, type_of}

-- a function found, seen by view, what stands there
abbrev pub Found : {X Y : Type 0} → (X → Y) → Option X → Option Y → Type 0
Found view None found = found ≡ None
Found view (Some x) found = found ≡ Some (view x)

abbrev pub long_prefix : WireType → List ℕ → Option (Head × List ℕ)
long_prefix type [] = None
long_prefix type (tag ∷ rest) = Some (record { tag = tag; kind = type }, rest)

abbrev pub typed_prefix : Option WireType → ℕ → List ℕ → Option (Head × List ℕ)
typed_prefix None high rest = None
typed_prefix (Some type) high rest = if nat_lt high LONG_HEAD then Some (record { tag = high; kind = type }, rest) else long_prefix type rest

-- a head in either form
unfoldable pub head_prefix : List ℕ → Option (Head × List ℕ)
head_prefix [] = None
head_prefix (byte ∷ rest) = typed_prefix (type_of (byte % 16)) (byte / 16) rest

-- so many bytes, and those after them
unfoldable pub bytes_prefix : ℕ → List ℕ → Option (List ℕ × List ℕ)
bytes_prefix count bytes = if nat_lt (length bytes) count then None else Some (take count bytes, drop count bytes)

unfoldable pub unsigned_prefix : Width → List ℕ → Option (ℕ × List ℕ)
unsigned_prefix w bytes = bytes_prefix (byte_len w) bytes >>= λ number. Some (from_be_bytes w number.0, number.1)

unfoldable pub signed_prefix : Width → List ℕ → Option (ℤ × List ℕ)
signed_prefix w bytes = bytes_prefix (byte_len w) bytes >>= λ number. Some (cast_signed w (from_be_bytes w number.0), number.1)

-- a whole number of a type
unfoldable pub number_prefix : WireType → List ℕ → Option (ℤ × List ℕ)
number_prefix wire.ZeroTag bytes = Some (pos 0, bytes)
number_prefix wire.Int1 bytes = signed_prefix w8 bytes
number_prefix wire.Int2 bytes = signed_prefix w16 bytes
number_prefix wire.Int4 bytes = signed_prefix w32 bytes
number_prefix wire.Int8 bytes = signed_prefix w64 bytes
number_prefix _ bytes = None

abbrev pub natural : ℤ → Option ℕ
natural (pos n) = if nat_lt n (2 ^ 31) then Some n else None
natural (negsuc n) = None

unfoldable pub size_prefix : List ℕ → Option (ℕ × List ℕ)
size_prefix bytes = head_prefix bytes >>= λ head. number_prefix head.0.kind head.1 >>= λ number. natural number.0 >>= λ n. Some (n, number.1)

unfoldable pub text_prefix : WireType → List ℕ → Option (List ℕ × List ℕ)
text_prefix wire.String1 bytes = unsigned_prefix w8 bytes >>= λ size. bytes_prefix size.0 size.1
text_prefix wire.String4 bytes = unsigned_prefix w32 bytes >>= λ size. bytes_prefix size.0 size.1
text_prefix _ bytes = None

unfoldable pub simple_prefix : List ℕ → Option (List ℕ × List ℕ)
simple_prefix bytes = head_prefix bytes >>= λ head. size_prefix head.1 >>= λ size. bytes_prefix size.0 size.1

-- what is open after the head of a list, a map or a struct, and its size
abbrev pub counted_level : WireType → ℕ → Level
counted_level wire.Map n = level.Map (2 * n)
counted_level _ n = level.List n

unfoldable pub entered_prefix : WireType → List ℕ → Option (Level × ℕ × List ℕ)
entered_prefix wire.StructBegin bytes = Some (level.Struct, 0, bytes)
entered_prefix type bytes = size_prefix bytes >>= λ size. Some (counted_level type size.0, size.0, size.1)

-- one field less
unfoldable pub less : Level → Level
less level.Body = level.Body
less level.Struct = level.Struct
less (level.List n) = level.List (n - 1)
less (level.Map n) = level.Map (n - 1)

abbrev pub HasMore : Level → Type 0
HasMore level.Body = Unit {0}
HasMore level.Struct = Unit {0}
HasMore (level.List n) = 0 < n
HasMore (level.Map n) = 0 < n

-- nothing is left at a level, but for the end of a struct
unfoldable pub is_over : Level → List ℕ → Bool
is_over level.Body bytes = length bytes == 0
is_over level.Struct bytes = false
is_over (level.List n) bytes = n == 0
is_over (level.Map n) bytes = n == 0
