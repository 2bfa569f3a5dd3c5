use Rattle.std.proofs.Common.{◌∙◌, [], ap}
use Rattle.adapter_queue.specs.Queues.{Queue}
use Rattle.rpc_packet.specs.declared.request.Request.{Request}
use Rattle.script_session.specs.declared.session.Session.{Session}
use Rattle.session_service.specs.Made.{servant_of}
use Rattle.run_engine.proofs.Nodes.{fresh_node}
use Rattle.run_engine.proofs.Servants.{made_servant}
use Rattle.run_engine.proofs.node.NodeEnd.new.Goals as goal

pub returns : goal.returns
returns c =
    fresh_node c.args.service.now _
    (c.in_ok-queue.ensures.made ∙ ap (λ (s : Session). let queue : Queue Request = record { capacity = s.queue; timeout = s.queue_timeout; items = [] } in queue) c.session-session.ensures.value)
    c.in_ok-queue.ensures.first
    (made_servant c.args.service.now c.in_ok-servant.servant (c.in_ok-servant.ensures ∙ ap servant_of c.session-session.ensures.value) c.suits.ensures)
