use Rattle.std.proofs.Common.{◌<◌, List, length, map, subst}
use Rattle.std.specs.List.{AllByRecursion}
use Rattle.script_session.specs.Sessions.{client_funcs}
use Rattle.run_engine.specs.declared.call_note.CallNote.{CallNote}
use Rattle.run_engine.specs.Claims.{claims_of, fate_of}
use Rattle.run_engine.proofs.Reports.{first_left, one_row}
use Rattle.run_engine.proofs.reporting.rows_of.Goals as goal

pub row_of-requires-clause-fates : goal.row_of-requires-clause-fates
row_of-requires-clause-fates c =
    let w = c.requires.fates in
    let f = first_left c.args.service.now c.in-Some.note c.next.new.self.rest.items c.loop-note.note-iterator.rest.items c.loop-note.fates.rest.items c.loop-note.rows.items _
    (c.loop-note.invariant.4 w.0 w.1 w.2) c.in-Some.ensures.steps.0 in
    (f.call, map fate_of (claims_of f.others), f.note_is, f.fates_are)

pub loop-note-preserved : goal.loop-note-preserved
loop-note-preserved c = (
  tt,
  tt,
  (subst (λ (notes : List CallNote). AllByRecursion (λ (note : CallNote). note.func < length (client_funcs c.args.service.now)) notes) c.in-Some.ensures.steps.0 c.loop-note.invariant.2).1,
  c.in_ok-row_of.ensures.fits,
  λ calls notes fates.
      let f = first_left c.args.service.now c.in-Some.note c.next.new.self.rest.items c.loop-note.note-iterator.rest.items c.loop-note.fates.rest.items c.loop-note.rows.items _
      (c.loop-note.invariant.4 calls notes fates) c.in-Some.ensures.steps.0 in
      one_row c.args.service.now c.in-Some.note c.next.new.self.rest.items c.loop-note.fates.rest.items c.row_of.new.fates.rest.items c.loop-note.rows.items c.push.new.self.items _
      c.in_ok-row_of.field-0 f (c.in_ok-row_of.ensures.row f.call (map fate_of (claims_of f.others)) f.note_is f.fates_are) c.in_ok-push.ensures.items
      (c.in_ok-row_of.ensures.rest f.call (map fate_of (claims_of f.others)) f.note_is f.fates_are),
)
