use Rattle.std.proofs.Common.{refl, sym, ap, ◌∙◌, subst, option_map}
use Rattle.std.specs.Prelude.{IfSome, length}
use Rattle.std.proofs.lemmas.Result.{IfOk-weaker}
use Rattle.rpc_packet.specs.Packets.{response_frame}
use Rattle.servant_core.specs.Answers.{OVERLOAD, unseen}
use Rattle.run_course.specs.Nodes.{accepted}
use Rattle.run_engine.specs.Tracks.{IsWritable}
use Rattle.run_engine.proofs.Nodes.{accepted_step, refused_step}
use Rattle.run_engine.proofs.Servants.{unseen_writable}
use Rattle.run_engine.proofs.node.NodeEnd.offer.Goals as goal

pub frame_of-requires : goal.frame_of-requires
frame_of-requires c = subst (λ response. IfSome response IsWritable) (sym c.overloaded.ensures) (unseen_writable _ OVERLOAD)

pub returns-in-Ok : goal.returns-in-Ok
returns-in-Ok c = λ node t.
    accepted_step c.args.service.now c.args.self.now _ node c.args.request c.args.now t c.requires.sendable
    c.in-Ok.ensures.offered.0 c.in-Ok.ensures.offered.1 (c.in-Ok.ensures.after (accepted node) (length node.taken) t.queue) refl

pub returns-in-Err : goal.returns-in-Err
returns-in-Err c = λ node t.
    IfOk-weaker c.frame_of.result _ _
    (λ frame is. refused_step c.args.service.now c.args.self.now _ node c.args.request c.args.now frame t
    c.in-Err.ensures.offered.0 c.in-Err.ensures.offered.1 refl
    (is ∙ ap (λ response. option_map response_frame response) (c.overloaded.ensures ∙ ap (λ r. unseen r OVERLOAD) c.in-Err.ensures.offered.2)))
    c.frame_of.ensures
