use Rattle.std.proofs.Common.{◌≡◌, ◌<◌, List, length, map}
use Rattle.std.specs.Prelude.{option_map}
use Rattle.std.specs.List.{AllByRecursion}
use Rattle.script_session.specs.Sessions.{client_funcs}
use Rattle.run_course.specs.Courses.{Noted}
use Rattle.run_course.specs.Planned.{row_of}
use Rattle.run_engine.specs.declared.call_note.CallNote.{CallNote}
use Rattle.run_engine.specs.Claims.{MayFit, claims_of, fate_of, told}
use Rattle.run_engine.specs.Notes.{notes_of}
use Rattle.run_engine.proofs.Reports.{AreLeft}
use Rattle.run_engine.proofs.reporting.rows_of.Given as goal

-- the rows so far, and the calls that are left
abbrev pub invariant-loop-note : goal.invariant-loop-note
invariant-loop-note l =
    (goal.iterator-loop-note).can_next l.note-iterator
    × (goal.iterator-loop-note).is_finite l.note-iterator
    × AllByRecursion (λ (note : CallNote). note.func < length (client_funcs l.service)) l.note-iterator.rest.items
    × AllByRecursion MayFit l.fates.rest.items
    × ((calls : List Noted) → l.fn.notes.items ≡ notes_of calls → map (option_map told) l.fn.fates.items ≡ map fate_of (claims_of calls)
    → AreLeft l.service l.note-iterator.rest.items l.fates.rest.items l.rows.items (map (row_of l.service) calls))
