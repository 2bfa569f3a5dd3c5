-- A sink in memory: what it holds, the room that is left, how much a write takes, and the calls made on it.
use Rattle.std.specs.Prelude.{ℕ, List, ◌==◌, Bool, ◌||◌, ◌&&◌, min, nat_lt}
use Rattle.tars_base.specs.Calls.{Calls, fails_next}

pub record SinkState : Type 0 where
  pub bytes : List ℕ
  pub room : ℕ
  pub step : ℕ
  pub calls : Calls

-- whether the next write of so many bytes fails: it is to fail, or it finds no room
abbrev pub refuses : SinkState → ℕ → Bool
refuses sink len = fails_next sink.calls || (sink.room == 0 && nat_lt 0 len)

-- how many of so many bytes the next write takes
abbrev pub taken_of : SinkState → ℕ → ℕ
taken_of sink len = min (min len sink.step) sink.room
