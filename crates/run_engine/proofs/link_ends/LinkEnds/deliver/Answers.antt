use Rattle.std.proofs.Common.{refl}
use Rattle.std.proofs.lemmas.Result.{on_ok_weaker}
use Rattle.run_course.specs.Courses.{answers_stream, read_to}
use Rattle.run_engine.proofs.Desks.{delivered_tracks}
use Rattle.run_engine.proofs.link_ends.LinkEnds.deliver.Goals as goal

pub returns : goal.returns
returns g c = λ calls link claims t.
    on_ok_weaker c.take_all_in.result
    (λ desk. delivered_tracks g.T.Claims.IsOf c.args.service.now c.args.node c.args.bytes calls link c.in_ok-news.news.items c.take_all_in.new.table c.args.self.now _ t
    (c.in_ok-news.ensures.kept (answers_stream link) link.delivered t.side.answers)
    (c.in_ok-news.ensures.packets (answers_stream link) link.delivered t.side.answers) desk refl refl refl)
    (c.take_all_in.ensures c.args.service.now
    (record { calls = calls; link = record link { delivered = read_to link.delivered c.args.bytes (answers_stream link) } })
    (record { claims = claims; got_is = t.got_is }))
