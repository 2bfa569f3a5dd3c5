-- What one packet that a node reads makes of it.
use Rattle.std.specs.Prelude.{ℕ, Option, Some, None}
use Rattle.rpc_packet.specs.declared.request.Request.{Request}
use Rattle.script_session.specs.declared.session.Session.{Session}
use Rattle.run_course.specs.Nodes.{Node, offers}

-- the request that it says is offered, if it says one
abbrev pub after_offer : Session → ℕ → Node → Option Request → Node
after_offer s moment node None = node
after_offer s moment node (Some r) = offers s moment node r
