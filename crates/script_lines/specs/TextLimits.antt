-- How long the lines and numbers of a script may be (docs/SCRIPTS.md, "General scripts").
use Rattle.std.specs.Prelude.{ℕ}

-- the bytes of a line, without its line feed
abbrev pub MAX_LINE : ℕ
MAX_LINE = 4096

-- the calls of a script
abbrev pub MAX_CALLS : ℕ
MAX_CALLS = 4096

-- the number of a port
abbrev pub MAX_PORT : ℕ
MAX_PORT = 65535

-- how long a call may take, and how long a request may wait in a queue, in milliseconds: an hour
abbrev pub MAX_TIME : ℕ
MAX_TIME = 3600000

-- the requests that a queue may hold
abbrev pub MAX_CAPACITY : ℕ
MAX_CAPACITY = 10000

-- the bytes that `serve` and `deliver` may name
abbrev pub MAX_COUNT : ℕ
MAX_COUNT = 4294967295

-- there is one caller's line, and one node
abbrev pub CALLER : ℕ
CALLER = 1

abbrev pub NODE : ℕ
NODE = 1
