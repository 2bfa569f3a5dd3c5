use Rattle.std.proofs.Common.{◌≡◌, sym, ap, ◌∙◌, subst}
use Rattle.std.specs.Prelude.{List, fold, IfOk, Result, Ok, Err}
use Rattle.std.proofs.lemmas.Result.{IfOk-weaker}
use Rattle.script_session.specs.declared.report.Report.{Report}
use Rattle.script_session.specs.declared.session.Event.{Event}
use Rattle.script_session.specs.declared.session.Event.TheVariants.{Close}
use Rattle.script_session.specs.declared.session.Session.{Session}
use Rattle.run_course.specs.Courses.{start, step}
use Rattle.run_course.specs.LegalReports.{IsLegal}
use Rattle.run_course.specs.OneNode.{IsOneNode}
use Rattle.run_course.specs.Planned.{collected_all, ended, planned, report_of}
use Rattle.run_answers.specs.Answered.{HasNoRest, IsAnswered}
use Rattle.tars_model.specs.Schemas.{IsSchema}
use Rattle.run_engine.proofs.run.run_plan.Goals as goal

-- the report of a run in which all events and then a close happened
planned_is : (s run mid last : Session) (events : List Event) (report : Report) → run ≡ s → mid ≡ s → last ≡ s → events ≡ s.events
    → report ≡ report_of last (collected_all (step mid (fold (step run) start events) Close)) → report ≡ planned s
unfolding planned ended
planned_is s run mid last events report first second third all is =
    is ∙ ap (λ (l : Session). report_of l (collected_all (step mid (fold (step run) start events) Close))) third
    ∙ ap (λ (m : Session). report_of s (collected_all (step m (fold (step run) start events) Close))) second
    ∙ ap (λ (r : Session). report_of s (collected_all (step s (fold (step r) start events) Close))) first
    ∙ ap (λ es. report_of s (collected_all (step s (fold (step s) start es) Close))) all

pub into_report-requires : goal.into_report-requires
into_report-requires c = record { tracks = (_, c.close.ensures.tracks _ (c.in_ok-run.ensures.tracks start c.in_ok-plan.ensures.tracks)) }

pub returns-clause-planned : goal.returns-clause-planned
returns-clause-planned c =
    let own = c.in_ok-plan.ensures.service ∙ c.in_ok-service.ensures in
    let ran = c.run.ensures.service ∙ own in
    IfOk-weaker c.into_report.result _ _
    (λ report. planned_is c.args.loaded.now c.in_ok-plan.plan.service c.run.new.self.service c.close.new.self.service c.as_slice.result.now report own ran (c.close.ensures.service ∙ ran)
    (c.as_slice.ensures ∙ ap (λ (x : Session). x.events) c.session-session.ensures.value))
    (c.into_report.ensures _ (c.close.ensures.tracks _ (c.in_ok-run.ensures.tracks start c.in_ok-plan.ensures.tracks)))

-- what holds of the planned report holds of the one that is returned
of_planned : {E : Type 0} (P : Report → Type 0) (s : Session) (r : Result Report E) → P (planned s) → IfOk r (λ report. report ≡ planned s) → IfOk r P
of_planned P s (Ok report) law e = subst P (sym e) law
of_planned P s (Err error) law e = tt

pub returns-clause-legal : goal.returns-clause-legal
returns-clause-legal c = of_planned (IsLegal c.args.loaded.now) c.args.loaded.now c.into_report.result (c.legal_report.ensures c.args.loaded.now) (returns-clause-planned c)

pub returns-clause-one_node : goal.returns-clause-one_node
returns-clause-one_node c = of_planned (IsOneNode c.args.loaded.now) c.args.loaded.now c.into_report.result (c.one_node_report.ensures c.args.loaded.now) (returns-clause-planned c)

pub returns-clause-answered : goal.returns-clause-answered
returns-clause-answered c =
    of_planned (IsAnswered c.args.loaded.now) c.args.loaded.now c.into_report.result
    (c.answered_by_servant.ensures c.args.loaded.now (subst (λ (s : Session). IsSchema s.client) c.session-session.ensures.value c.order-of_client.ensures.rules)
    (subst (λ (s : Session). IsSchema s.server) c.session-session.ensures.value c.order-of_server.ensures.rules) c.session-session.ensures.judged)
    (returns-clause-planned c)

pub returns-clause-left : goal.returns-clause-left
returns-clause-left c = λ all.
    of_planned HasNoRest c.args.loaded.now c.into_report.result
    (c.nothing_left.ensures c.args.loaded.now (subst (λ (s : Session). IsSchema s.client) c.session-session.ensures.value c.order-of_client.ensures.rules)
    (subst (λ (s : Session). IsSchema s.server) c.session-session.ensures.value c.order-of_server.ensures.rules) c.session-session.ensures.judged all)
    (returns-clause-planned c)
