-- Requests whose id and timeout are still open (docs/PROTOCOL.md, "Packets").
use Rattle.std.specs.Prelude.{ℕ, ◌-◌, ◌^◌, ℤ, pos, Option, Some, None, List, []}
use Rattle.rpc_packet.specs.Packets.{request_frame, read_request}
use Rattle.rpc_packet.specs.declared.request.Request.{Request}

-- a request under an id and with a timeout
abbrev pub with_both : ℤ → ℤ → Request → Request
with_both id timeout r = record r { id = id; timeout = timeout }

-- the greatest int, which takes as many bytes as an int may
abbrev pub GREATEST : ℤ
GREATEST = pos (2 ^ 31 - 1)

-- with the longest id and the longest timeout
abbrev pub at_longest : Request → Request
at_longest r = with_both GREATEST GREATEST r

abbrev pub longest_frame : Request → List ℕ
longest_frame r = request_frame (at_longest r)

-- the request that a frame says; of what says none, an empty one
abbrev pub or_empty : Option Request → Request
or_empty (Some r) = r
or_empty None =
    record {
      version = pos 0;
      kind = pos 0;
      message = pos 0;
      id = pos 0;
      servant = [];
      func = [];
      body = [];
      timeout = pos 0;
      context = [];
      status = [];
    }

unfoldable pub said_by : List ℕ → Request
said_by frame = or_empty (read_request frame)
