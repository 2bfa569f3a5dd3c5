-- What `Frames` has of the pieces of a stream.
use Rattle.std.specs.Prelude.{◌≡◌, ◌-◌, ◌^◌, ℕ, min, if◌then◌else◌, List, ◌++◌, length, Result, Ok, Err}
use Rattle.std.specs.List.{AllByRecursion}
use Rattle.tars_frames.specs.declared.frame_fault.FrameFault.{FrameFault}
use Rattle.tars_frames.specs.declared.frame_fault.FrameFault.TheVariants.{BadLength, Memory}
use Rattle.tars_frames.specs.Streams.{IsPacket, IsBadAt, joined}
use Rattle.tars_frames.specs.Cutting.{is_refused}

-- what was fed after the packets that were given, and the place where it begins
pub record Kept : Type 0 where
  pub rest : List ℕ
  pub place : ℕ

-- a place as it is told: one past 2^64 - 1 is told as that number
abbrev pub told : ℕ → ℕ
told place = min place (2 ^ 64 - 1)

-- of this stream these packets were given
pub record IsAt (most : ℕ) (stream : List ℕ) (given : List (List ℕ)) (kept : Kept) : Type 0 where
  pub bytes : stream ≡ joined given ++ kept.rest
  pub whole : AllByRecursion (IsPacket most) given
  pub place_is : kept.place ≡ told (length (joined given))

-- a stream with a piece more: of one that is refused nothing more is kept
unfoldable pub fed : ℕ → List ℕ → List ℕ → List ℕ
fed most stream piece = if is_refused most stream then stream else stream ++ piece

-- all is well with a stream exactly where no bad length follows its packets
abbrev pub Tells : {T : Type 0} → ℕ → List ℕ → Result T FrameFault → Type 0
Tells most stream (Ok _) = (place number : ℕ) → IsBadAt most stream place number → ⊥
Tells most stream (Err (BadLength at number)) = (place : ℕ) × (at ≡ told place) × IsBadAt most stream place number
Tells most stream (Err Memory) = Unit {0}

-- where memory ran out
abbrev pub OnMemory : {T : Type 0} → Result T FrameFault → Type 0 → Type 0
OnMemory (Ok _) P = Unit {0}
OnMemory (Err (BadLength at number)) P = Unit {0}
OnMemory (Err Memory) P = P

-- where memory did not run out
abbrev pub UnlessMemory : {T : Type 0} → Result T FrameFault → Type 0 → Type 0
UnlessMemory (Ok _) P = P
UnlessMemory (Err (BadLength at number)) P = P
UnlessMemory (Err Memory) P = Unit {0}
