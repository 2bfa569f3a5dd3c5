-- The steps of `Frames` by what waits alone, whatever the stream was: for the proofs.
use Rattle.std.specs.Prelude.{◌≡◌, ◌≤◌, ◌-◌, ◌+◌, ℕ, true, false, List, ◌++◌, length, drop, Option, None, Some, Result, Ok, Err}
use Rattle.tars_frames.specs.declared.frame_fault.FrameFault.{FrameFault}
use Rattle.tars_frames.specs.declared.frame_fault.FrameFault.TheVariants.{BadLength, Memory}
use Rattle.tars_frames.specs.Streams.{LONGEST, HasNoPacket, IsPacket, IsReading, joined, first_length}
use Rattle.tars_frames.specs.Cutting.{is_refused, packets_of, rest_of}
use Rattle.tars_frames.specs.Feeding.{Kept, fed, told}

-- the fields: where the waiting bytes begin, where the whole packets end, and these packets
pub record IsCut (bytes : List ℕ) (start end : ℕ) (packets : List (List ℕ)) : Type 0 where
  pub before : start ≤ end
  pub within : end ≤ length bytes
  pub reading : IsReading LONGEST (drop start bytes) packets (drop end bytes)

-- the packets of these bytes, of which so many are left after them
pub record IsCutOff (bytes : List ℕ) (packets : List (List ℕ)) (left : ℕ) : Type 0 where
  pub within : left ≤ length bytes
  pub reading : IsReading LONGEST bytes packets (drop (length bytes - left) bytes)

-- they are added to those that wait
pub record IsAdded (bytes : List ℕ) (old new : List (List ℕ)) (left : ℕ) : Type 0 where
  pub packets : List (List ℕ)
  pub cut : IsCutOff bytes packets left
  pub new_is : new ≡ old ++ packets

-- how a bad length is told
abbrev pub Judges : {T : Type 0} → ℕ → Kept → Result T FrameFault → Type 0
Judges most kept (Ok done) = is_refused most kept.rest ≡ false
Judges most kept (Err (BadLength at number)) = (is_refused most kept.rest ≡ true)
    × (at ≡ told (kept.place + length (joined (packets_of most kept.rest)))) × (number ≡ first_length (rest_of most kept.rest))
Judges most kept (Err Memory) = ⊥

-- what waits with a piece more
abbrev pub fed_kept : ℕ → Kept → List ℕ → Kept
fed_kept most kept piece = record { rest = fed most kept.rest piece; place = kept.place }

-- what becomes of a piece
abbrev pub Steps : {T : Type 0} → ℕ → List ℕ → Kept → Kept → Result T FrameFault → Type 0
Steps most piece old new (Ok done) = (new ≡ fed_kept most old piece) × (is_refused most new.rest ≡ false)
Steps most piece old new (Err (BadLength at number)) =
    (new ≡ fed_kept most old piece) × Judges {T = ℕ} most new (Err (BadLength at number))
Steps most piece old new (Err Memory) = (new ≡ old) × (is_refused most old.rest ≡ false)

-- what becomes of the next packet
abbrev pub TakesOne : ℕ → Kept → Kept → Option (List ℕ) → Type 0
TakesOne most old new None = (new ≡ old) × HasNoPacket most old.rest
TakesOne most old new (Some packet) =
    IsPacket most packet × (old.rest ≡ packet ++ new.rest) × (new.place ≡ told (old.place + length packet))
