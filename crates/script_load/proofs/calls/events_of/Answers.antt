use Rattle.std.proofs.Common.{map, arith}
use Rattle.std.proofs.lemmas.List.Elements.{All-push}
use Rattle.std.proofs.lemmas.Option.{slice_get-get_or}
use Rattle.script_lines.specs.Views.{event_line}
use Rattle.script_load.specs.LineSteps.{FitsEvent, HaveEventFault}
use Rattle.script_load.proofs.Named.{on_error}
use Rattle.script_load.proofs.Taken.{at_mapped, next_event, event_fault, number_bound, number_step}
use Rattle.script_load.proofs.calls.events_of.Goals as goal

pub returns-in_err-event-clause-fault : goal.returns-in_err-event-clause-fault
returns-in_err-event-clause-fault c =
    on_error (HaveEventFault c.args.schema.now c.args.funcs.now (map event_line c.args.lines.now)) c.from_residual.result c.in_err-event.field-0.0 c.from_residual.ensures
    (event_fault c.args.schema.now c.args.funcs.now (map event_line c.args.lines.now) c.loop-line.line-index c.loop-line.events _ c.in_err-event.field-0.0
    (at_mapped event_line c.args.lines.now c.loop-line.line-index _ (slice_get-get_or c.args.lines.now c.loop-line.line-index _ c.loop-line-test.true))
    c.loop-line.invariant.read c.in_err-event.ensures.fault)

pub next_number-number-requires : goal.next_number-number-requires
next_number-number-requires c = omega (arith, c.loop-line.invariant.number, number_bound 1 c.args.lines.now c.loop-line.line-index, c.requires.calls)

pub loop-line-preserved : goal.loop-line-preserved
loop-line-preserved c =
    rw c.in_ok-push.ensures.ok (record {
      read = next_event c.args.schema.now c.args.funcs.now (map event_line c.args.lines.now) c.loop-line.line-index c.loop-line.events _ c.in_ok-event.event c.loop-line.number
          (at_mapped event_line c.args.lines.now c.loop-line.line-index _ (slice_get-get_or c.args.lines.now c.loop-line.line-index _ c.loop-line-test.true))
          c.loop-line.invariant.read c.loop-line.invariant.number c.in_ok-event.ensures.means;
      fits = All-push (FitsEvent c.args.schema.now c.args.funcs.now) c.loop-line.events c.in_ok-event.event c.loop-line.invariant.fits c.in_ok-event.ensures.fits;
      number = number_step (map event_line c.args.lines.now) c.loop-line.line-index _ c.loop-line.number c.next_number-number.result
          (at_mapped event_line c.args.lines.now c.loop-line.line-index _ (slice_get-get_or c.args.lines.now c.loop-line.line-index _ c.loop-line-test.true))
          c.loop-line.invariant.number c.next_number-number.ensures;
    })
