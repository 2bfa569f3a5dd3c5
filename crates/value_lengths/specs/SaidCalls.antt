-- How long values that a text says are, once they are written (docs/SCRIPTS.md, "Value text"; docs/PROTOCOL.md, "Writing").
-- A text names every member of a struct, so none is written that it leaves out: for each byte of it there are at most six. A request
-- whose words stand in lines of a script is therefore no longer than a packet may be, under every id and with every timeout.
use Rattle.std.specs.Prelude.{◌≡◌, ◌≤◌, ◌+◌, ◌*◌, ℕ, List, [], length}
use Rattle.tars_model.specs.Declarations.{Declared}
use Rattle.tars_model.specs.declared.member.Member.{Member}
use Rattle.tars_model.specs.declared.value.Value.{Value}
use Rattle.tars_codec.specs.Written.{written}
use Rattle.rpc_packet.specs.declared.request.Request.{Request}
use Rattle.script_lines.specs.TextLimits.{MAX_LINE}
use Rattle.script_values.specs.Args.{SaysArgs}

-- The most bytes that are written for a byte of text: an enumerator of one letter may be an int, four bytes after a head of two.
abbrev pub GROWTH : ℕ
GROWTH = 6

-- so many bytes at most, for each byte of a text before its rest
abbrev pub IsBounded : List ℕ → List ℕ → List ℕ → Type 0
IsBounded bytes text rest = length bytes + GROWTH * length rest ≤ GROWTH * length text

-- The request of a call in a script: the text says its arguments, no line is longer than it may be, neither that of the text nor those
-- of both names, and there is neither context nor status. The id and the timeout are any.
pub record IsSaidCall (d : Declared) (members : List Member) (text : List ℕ) (r : Request) : Type 0 where
  pub values : List Value
  pub says : SaysArgs d members values text
  pub body : r.body ≡ written d members values
  pub line : length text ≤ MAX_LINE
  pub servant : length r.servant ≤ MAX_LINE
  pub func : length r.func ≤ MAX_LINE
  pub context : r.context ≡ []
  pub status : r.status ≡ []
