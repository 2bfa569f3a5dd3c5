-- Bytes at the end of a buffer that has room for them.
use Rattle.std.specs.Prelude.{◌≡◌, ℕ, ◌+◌, List, ◌++◌, length}
use Rattle.bytes.specs.Filled.{Filled}

-- they were added, and took spare room
pub record Adds (old new : Filled) (bytes : List ℕ) : Type 0 where
  pub items : new.items ≡ old.items ++ bytes
  pub spare : new.spare + length bytes ≡ old.spare
