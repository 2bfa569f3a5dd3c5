use Rattle.std.proofs.Common.{◌++◌, ◌∙◌, ap, sym}
use Rattle.std.specs.Prelude.{filter_map}
use Rattle.run_course.specs.LegalReports.{picked_of, reported_of}
use Rattle.run_engine.specs.Claims.{claims_of}
use Rattle.run_engine.proofs.Reports.{report_is}
use Rattle.run_engine.proofs.plan.Plan.into_report.Goals as goal

pub returns : goal.returns
returns g c = λ course t.
    report_is c.args.self.service course c.from_vec.result c.in_ok-links.links c.in_ok-routes.routes
    (c.from_vec.ensures ∙ c.in_ok-rows.ensures course.calls t.notes_are (c.in_ok-fates.ensures.fates (claims_of course.calls) t.claims))
    (c.in_ok-links.ensures c.args.self.service course.links t.links)
    (c.in_ok-routes.ensures ∙ ap (λ rows. filter_map picked_of rows ++ filter_map reported_of rows) (c.deref.ensures.value ∙ sym c.from_vec.ensures))
