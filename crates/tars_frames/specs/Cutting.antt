-- The packets of a stream and what is left, as functions: `one_reading` says that they are its reading.
use Rattle.std.specs.Prelude.{ℕ, zero, suc, Bool, ◌&&◌, not, nat_le, if◌then◌else◌, List, [], ◌∷◌, length, take, drop}
use Rattle.tars_frames.specs.Streams.{LENGTH_BYTES, SHORTEST, first_length, joined}

-- a packet may have this length
unfoldable pub is_length : ℕ → ℕ → Bool
is_length most number = nat_le SHORTEST number && nat_le number most

-- a packet is at the start
unfoldable pub has_packet : ℕ → List ℕ → Bool
has_packet most bytes = is_length most (first_length bytes) && nat_le (first_length bytes) (length bytes)

-- the packets at the start, at most so many
abbrev pub packets_within : ℕ → ℕ → List ℕ → List (List ℕ)
packets_within most zero bytes = []
packets_within most (suc count) bytes =
    if has_packet most bytes
    then take (first_length bytes) bytes ∷ packets_within most count (drop (first_length bytes) bytes)
    else []

-- the packets of a stream: there are no more of them than bytes
unfoldable pub packets_of : ℕ → List ℕ → List (List ℕ)
packets_of most stream = packets_within most (length stream) stream

-- what is left of it
unfoldable pub rest_of : ℕ → List ℕ → List ℕ
rest_of most stream = drop (length (joined (packets_of most stream))) stream

-- four bytes at the start say a length that no packet has
unfoldable pub says_bad : ℕ → List ℕ → Bool
says_bad most bytes = nat_le LENGTH_BYTES (length bytes) && not (is_length most (first_length bytes))

-- a bad length follows the packets of a stream
unfoldable pub is_refused : ℕ → List ℕ → Bool
is_refused most stream = says_bad most (rest_of most stream)
