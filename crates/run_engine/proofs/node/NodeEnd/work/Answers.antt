use Rattle.std.proofs.Common.{refl, sym, ap, ◌∙◌, subst, option_map, length}
use Rattle.std.specs.Prelude.{IfSome}
use Rattle.std.proofs.lemmas.Result.{IfOk-weaker}
use Rattle.rpc_packet.specs.Packets.{response_frame}
use Rattle.run_course.specs.Nodes.{accepted}
use Rattle.run_engine.specs.Tracks.{IsWritable}
use Rattle.run_engine.proofs.Nodes.{answer_writable, idle_step, taken_sendable, worked_step}
use Rattle.run_engine.proofs.node.NodeEnd.work.Goals as goal

pub returns-in_default : goal.returns-in_default
returns-in_default c = λ node t.
    idle_step c.args.service.now c.args.self.now _ node c.args.now c.args.self.now.queue.timeout t (c.in_default.ensures.after (accepted node) (length node.taken) t.queue) c.in_default.ensures.took.1 refl

pub answer_taken-requires-clause-servant : goal.answer_taken-requires-clause-servant
answer_taken-requires-clause-servant c = c.requires.tracks.1.servant

pub answer_taken-requires-clause-sendable : goal.answer_taken-requires-clause-sendable
answer_taken-requires-clause-sendable c =
    let r = c.requires.tracks in
    taken_sendable c.args.service.now c.args.self.now (record { queue = c.take.new.self; servant = c.args.self.now.servant }) r.0 c.args.now c.in-Some.taken r.1 c.in-Some.ensures.took

pub frame_of-requires : goal.frame_of-requires
frame_of-requires c = subst (λ response. IfSome response IsWritable) (sym c.in_ok-response.ensures.answered) (answer_writable c.args.service.now c.args.now c.in-Some.taken)

pub returns : goal.returns
returns c = λ node t.
    IfOk-weaker c.frame_of.result _ _
    (λ frame is. worked_step c.args.service.now c.args.self.now c.answer_taken.new.self node c.args.now c.in-Some.taken frame t
    (rw c.answer_taken.ensures.queue c.in-Some.ensures.took)
    (rw c.answer_taken.ensures.queue (c.in-Some.ensures.after (accepted node) (length node.taken) t.queue))
    c.in_ok-response.ensures.servant
    (is ∙ ap (λ response. option_map response_frame response) c.in_ok-response.ensures.answered))
    c.frame_of.ensures
