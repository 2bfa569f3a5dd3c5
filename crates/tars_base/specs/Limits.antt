-- Limits of what is read (docs/SCRIPTS.md, "Loading").
use Rattle.std.specs.Prelude.{ℕ}

-- how many bytes a file may have
abbrev pub MAX_FILE : ℕ
MAX_FILE = 1048576
