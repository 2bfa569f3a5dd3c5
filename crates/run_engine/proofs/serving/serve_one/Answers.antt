use Rattle.std.proofs.Common.{sym, ◌∙◌}
use Rattle.std.proofs.lemmas.Result.{on_ok_weaker}
use Rattle.tars_frames.specs.Streams.{joined}
use Rattle.rpc_packet.specs.Packets.{read_request}
use Rattle.run_engine.proofs.Nodes.{no_step, one_step, step_side}
use Rattle.run_engine.proofs.serving.serve_one.Goals as goal

pub returns-in_default : goal.returns-in_default
returns-in_default c = λ n at t.
    no_step c.args.service.now c.args.now c.args.node.now c.args.to_caller.now n at (read_request c.args.packet.now) (sym c.in_ok-request.ensures.read ∙ c.in_default.is) t

pub returns : goal.returns
returns c = λ n at t.
    on_ok_weaker c.put.result
    (λ written. one_step c.args.service.now c.args.now c.offer.new.self c.put.new.out n at (read_request c.args.packet.now) c.in-Some.request (sym c.in_ok-request.ensures.read ∙ c.in-Some.is)
    (step_side c.args.service.now c.offer.new.self c.put.new.out n _ at c.in_ok-frame.frame (c.in_ok-frame.ensures n t.node) written))
    (c.put.ensures (joined n.answers) at t.answers)
