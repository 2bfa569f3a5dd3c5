use Rattle.std.proofs.Common.{refl, ◌∙◌}
use Rattle.std.proofs.lemmas.Result.{on_ok_weaker}
use Rattle.run_course.specs.Courses.{requests_stream}
use Rattle.run_engine.proofs.Links.{served_tracks}
use Rattle.run_engine.proofs.link_ends.LinkEnds.serve.Goals as goal

pub returns : goal.returns
returns c = λ link t.
    on_ok_weaker c.serve_all.result
    (λ side. served_tracks c.args.service.now c.args.self.now _ link c.args.now c.args.bytes c.deref.result.now t
    (c.in_ok-news.ensures.kept (requests_stream link) link.served t.requests)
    (c.deref.ensures.value ∙ c.in_ok-news.ensures.packets (requests_stream link) link.served t.requests)
    side refl refl)
    (c.serve_all.ensures link.node link.delivered t.side)
