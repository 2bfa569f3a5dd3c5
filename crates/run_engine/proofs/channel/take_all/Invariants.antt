use Rattle.std.proofs.Common.{ℕ, List, ◌++◌, length}
use Rattle.tars_frames.specs.Streams.{LONGEST}
use Rattle.tars_frames.specs.Feeding.{IsAt}
use Rattle.run_engine.proofs.channel.take_all.Given as goal

-- the packets so far were given
abbrev pub invariant-loop-packet : goal.invariant-loop-packet
invariant-loop-packet l =
    (stream : List ℕ) (given : List (List ℕ)) → IsAt LONGEST stream given l.initial.frames → IsAt LONGEST stream (given ++ l.packets.items) l.frames

abbrev pub decreases-loop-packet : goal.decreases-loop-packet
decreases-loop-packet l = length l.frames.rest
