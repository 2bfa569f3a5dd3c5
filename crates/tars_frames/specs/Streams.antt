-- Packets on a stream of bytes (docs/PROTOCOL.md, "Packets").
use Rattle.std.specs.Prelude.{◌≡◌, ◌≤◌, ◌+◌, ℕ, List, ◌++◌, length, take}
use Rattle.std.specs.List.{AllByRecursion, flat_map}
use Rattle.std.specs.Int.{w32, to_be_bytes, from_be_bytes}

-- how many bytes the length of a packet takes
abbrev pub LENGTH_BYTES : ℕ
LENGTH_BYTES = 4

-- the shortest packet: a length and one byte
abbrev pub SHORTEST : ℕ
SHORTEST = 5

-- the longest packet of a call or a reply
abbrev pub LONGEST : ℕ
LONGEST = 10485760

-- what the first four bytes say
unfoldable pub first_length : List ℕ → ℕ
first_length bytes = from_be_bytes w32 (take LENGTH_BYTES bytes)

-- a packet is as long as its first four bytes say, which count themselves
pub record IsPacket (most : ℕ) (packet : List ℕ) : Type 0 where
  pub said : first_length packet ≡ length packet
  pub least : SHORTEST ≤ length packet
  pub within : length packet ≤ most

-- a body with its length before it
unfoldable pub framed : List ℕ → List ℕ
framed body = to_be_bytes w32 (length body + LENGTH_BYTES) ++ body

-- packets, one after another
abbrev pub joined : List (List ℕ) → List ℕ
joined packets = flat_map (λ packet. packet) packets

-- no packet is at the start
abbrev pub HasNoPacket : ℕ → List ℕ → Type 0
HasNoPacket most bytes = (packet more : List ℕ) → bytes ≡ packet ++ more → IsPacket most packet → ⊥

-- a stream is these packets, joined, and then a rest with no packet at its start
pub record IsReading (most : ℕ) (stream : List ℕ) (packets : List (List ℕ)) (rest : List ℕ) : Type 0 where
  pub bytes : stream ≡ joined packets ++ rest
  pub whole : AllByRecursion (IsPacket most) packets
  pub last : HasNoPacket most rest

-- a length that a packet may have
pub record IsLength (most number : ℕ) : Type 0 where
  pub least : SHORTEST ≤ number
  pub within : number ≤ most

-- after the packets of a stream, at this place, four bytes say a length that no packet has
pub record IsBadAt (most : ℕ) (stream : List ℕ) (place number : ℕ) : Type 0 where
  pub packets : List (List ℕ)
  pub rest : List ℕ
  pub reading : IsReading most stream packets rest
  pub place_is : place ≡ length (joined packets)
  pub four : LENGTH_BYTES ≤ length rest
  pub number_is : number ≡ first_length rest
  pub bad : IsLength most number → ⊥
