use Rattle.std.proofs.Common.{◌∙◌, sym, ap, map, subst, List}
use Rattle.std.specs.List.{All}
use Rattle.script_lines.specs.Scripts.{EventLine}
use Rattle.script_lines.specs.Views.{script_of, event_line}
use Rattle.script_lines.specs.declared.queue.QueueWords.{QueueWords}
use Rattle.script_lines.specs.declared.event.EventLine.{EventLine as Written}
use Rattle.script_rules.specs.Rules.{IsJudgedEvent}
use Rattle.servant_core.specs.Functions.{functions_of}
use Rattle.tars_model.specs.declared.func_desc.FuncDesc.{FuncDesc}
use Rattle.script_load.specs.LineFaults.{IsFirstFault}
use Rattle.script_load.specs.LineSteps.{HaveEventFault, FitsEvent}
use Rattle.script_load.specs.Sessions.{AreEvents}
use Rattle.script_load.proofs.JudgedSession.{session_judged}
use Rattle.script_load.proofs.Mapped.{all_mapped}
use Rattle.script_load.proofs.Named.{on_error, on_fault}
use Rattle.script_load.proofs.Read.{bad_events, capacity_is}
use Rattle.script_load.proofs.SchemaSides.{schema_has}
use Rattle.script_load.proofs.session.read_session.Goals as goal

pub events_of-requires-clause-judged : goal.events_of-requires-clause-judged
events_of-requires-clause-judged c =
    let s = script_of c.args.script.now in
    subst (All (λ (line : Written). IsJudgedEvent (event_line line).event)) (sym c.deref.ensures.value)
    (all_mapped event_line (λ line. IsJudgedEvent line.event) c.args.script.now.events.items (c.lines_are_judged.ensures.events c.requires.file.text s c.requires.file.says))

pub returns-in_err-events-clause-fault : goal.returns-in_err-events-clause-fault
returns-in_err-events-clause-fault c =
    let s = script_of c.args.script.now in
    let client = c.args.sides.client in
    let server = c.args.sides.server in
    on_error (IsFirstFault client server s) c.from_residual-in_err-events.result c.in_err-events.field-0.0 c.from_residual-in_err-events.ensures
    (on_fault (HaveEventFault client c.funcs_at-funcs.result.now (map event_line c.deref.result.now)) (IsFirstFault client server s)
    (λ fault have. bad_events c.one_value.ensures client server (schema_has client c.are_schemas.ensures.client) (schema_has server c.are_schemas.ensures.server) s c.requires.file
    c.in_ok-headers.headers c.in_ok-headers.ensures.headers c.funcs_at-funcs.result.now (map event_line c.deref.result.now)
    c.funcs_at-funcs.ensures.funcs (ap (map event_line) c.deref.ensures.value) fault have)
    c.in_err-events.field-0.0 c.in_err-events.ensures.fault)

pub returns-clause-judged : goal.returns-clause-judged
returns-clause-judged c =
    let s = script_of c.args.script.now in
    let client = c.args.sides.client in
    let h = c.in_ok-headers.ensures.headers in
    session_judged c.requires.file.text s c.requires.file.says c.requires.file.within _ c.in_ok-object.ensures h.client_within h.server_within h.fits
    (ap (λ (q : QueueWords). q.capacity) c.unwrap_or-queue.ensures ∙ capacity_is c.args.script.now.queue)
    (subst (λ (lines : List EventLine). AreEvents client (functions_of client c.in_ok-headers.headers.client_interface) 1 lines c.in_ok-events.events) (ap (map event_line) c.deref.ensures.value)
    (subst (λ (fs : List FuncDesc). AreEvents client fs 1 (map event_line c.deref.result.now) c.in_ok-events.events) c.funcs_at-funcs.ensures.funcs c.in_ok-events.ensures.means))
    (subst (λ (fs : List FuncDesc). All (FitsEvent client fs) c.in_ok-events.events) c.funcs_at-funcs.ensures.funcs c.in_ok-events.ensures.fits)
