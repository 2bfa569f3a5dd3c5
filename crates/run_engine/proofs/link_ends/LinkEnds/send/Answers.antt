use Rattle.std.proofs.Common.{refl}
use Rattle.run_course.specs.Courses.{requests_stream}
use Rattle.run_engine.proofs.Links.{sent_tracks}
use Rattle.run_engine.proofs.link_ends.LinkEnds.send.Goals as goal

pub returns : goal.returns
returns c = λ s link t.
    sent_tracks s c.args.self.now _ link c.args.row c.as_slice.result.now t c.as_slice.ensures
    (c.in_ok-write.ensures (requests_stream link) link.served t.requests) refl refl c.in_ok-push.ensures.items refl
