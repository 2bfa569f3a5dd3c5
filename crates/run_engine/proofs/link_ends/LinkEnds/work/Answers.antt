use Rattle.std.proofs.Common.{refl}
use Rattle.std.proofs.lemmas.Result.{on_ok_weaker}
use Rattle.run_course.specs.Courses.{answers_stream}
use Rattle.run_engine.proofs.Links.{worked_tracks}
use Rattle.run_engine.proofs.Nodes.{step_side}
use Rattle.run_engine.proofs.link_ends.LinkEnds.work.Goals as goal

pub work-requires : goal.work-requires
work-requires c = record { tracks = (c.requires.tracks.0.node, c.requires.tracks.1.side.node) }

pub returns : goal.returns
returns c = λ link t.
    on_ok_weaker c.put.result
    (λ written. worked_tracks c.args.service.now c.args.self.now _ link c.args.now t
    (step_side c.args.service.now c.work.new.self c.put.new.out link.node _ link.delivered c.in_ok-frame.frame (c.in_ok-frame.ensures link.node t.side.node) written)
    refl refl refl)
    (c.put.ensures (answers_stream link) link.delivered t.side.answers)
