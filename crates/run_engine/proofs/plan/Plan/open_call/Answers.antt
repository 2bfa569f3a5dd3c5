use Rattle.std.proofs.Common.{refl, sym, ◌∙◌, subst, ap, ◌<◌, ◌+◌, arith, ◌++◌, ◌∷◌, []}
use Rattle.std.proofs.lemmas.Result.{on_ok_weaker}
use Rattle.script_session.specs.Judged.{IDS}
use Rattle.script_session.specs.Sessions.{NODE, node_of}
use Rattle.run_engine.specs.declared.call_note.CallNote.{CallNote}
use Rattle.script_session.specs.declared.link_log.SentRow.{SentRow}
use Rattle.script_session.specs.declared.session.Endpoint.{Endpoint}
use Rattle.run_course.specs.Courses.{opened_call, at_node, sends}
use Rattle.run_engine.specs.Claims.{claims_of}
use Rattle.run_engine.specs.Tracks.{Tracks}
use Rattle.run_engine.proofs.Events.{id_small, opened_tracks, sent_row_is}
use Rattle.run_engine.proofs.plan.Plan.open_call.Goals as goal

pub open_call-requires-clause-ids : goal.open_call-requires-clause-ids
open_call-requires-clause-ids g c =
    let r = c.requires.tracks in
    (claims_of r.0.calls, r.1.claims, id_small g.T.Claims.IsOf c.args.self.now r.0 r.1 c.requires.room)

pub overflow_add-deadline : goal.overflow_add-deadline
overflow_add-deadline g c =
    let r = c.requires.tracks in
    let first = r.1.moment_is ∙ r.1.start in
    let short = ap (λ (node : Endpoint). node.timeout) (c.node_of.ensures ∙ ap node_of c.session.ensures.value) in
    record { fits = omega (arith, first, short, c.session.ensures.judged.timeout) }

pub request_frame-requires-clause-id : goal.request_frame-requires-clause-id
request_frame-requires-clause-id g c =
    let r = c.requires.tracks in
    subst (λ id. id < IDS) (sym (c.in_ok-id.ensures.id (claims_of r.0.calls) r.1.claims)) (id_small g.T.Claims.IsOf c.args.self.now r.0 r.1 c.requires.room)

pub returns-clause-tracks : goal.returns-clause-tracks
returns-clause-tracks g c = λ course t.
    let s = c.args.self.now.service in
    let spec = c.args.spec.now in
    let id = c.in_ok-id.ensures.id (claims_of course.calls) t.claims in
    let mid = opened_tracks g.T.Claims.IsOf c.args.self.now (record c.args.self.now { notes = c.push.new.self; table = c.open_call.new.self }) s course spec c.in_ok-id.id _ t
    refl c.requires.call.func id
    (ap (λ (node : Endpoint). c.args.self.now.moment + node.timeout) (c.node_of.ensures ∙ ap node_of c.session.ensures.value))
    (c.in_ok-id.ensures.opened (claims_of course.calls) t.claims)
    (c.in_ok-push.ensures.items ∙ ap (λ (note : CallNote). c.args.self.now.notes.items ++ note ∷ []) c.opened.ensures) refl refl refl refl in
    on_ok_weaker c.send.result
    (λ tracks. subst (λ (row : SentRow). Tracks g.T.Claims.IsOf c.send.new.self (record course { calls = course.calls ++ opened_call s course spec ∷ []; links = at_node NODE (sends row) course.links }))
    (sent_row_is s course spec c.in_ok-id.id c.in_ok-frame.frame id c.in_ok-frame.ensures) tracks)
    (c.send.ensures.tracks (record course { calls = course.calls ++ opened_call s course spec ∷ [] }) mid)
