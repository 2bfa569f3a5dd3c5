-- What the engine keeps of a scripted call.
use Rattle.std.specs.Prelude.{ℕ, Option, List, ◌∷◌, map}
use Rattle.script_session.specs.Sessions.{live_node}
use Rattle.script_session.specs.declared.session.CallSpec.{CallSpec}
use Rattle.run_course.specs.Courses.{Fate, Noted, Stage, refused, opened}
use Rattle.run_engine.specs.declared.call_note.CallNote.{CallNote}
use Rattle.run_engine.specs.declared.call_note.Opening.{Opening}
use Rattle.run_engine.specs.declared.call_note.Opening.TheVariants.{Refused, Opened}

abbrev pub opening_of : Stage → Opening
opening_of (refused why) = Refused why
opening_of (opened life) = Opened (record { 0 = life.id })

abbrev pub note_of : Noted → CallNote
note_of call =
    record {
      call = call.spec.call;
      line = call.spec.line;
      func = call.spec.func;
      two_way = call.spec.two_way;
      pick = call.pick;
      opening = opening_of call.stage;
    }

-- a call that is sent under an id to the one node
abbrev pub note_under : CallSpec → ℕ → CallNote
note_under spec id =
    record {
      call = spec.call;
      line = spec.line;
      func = spec.func;
      two_way = spec.two_way;
      pick = live_node;
      opening = Opened (record { 0 = id });
    }

abbrev pub notes_of : List Noted → List CallNote
notes_of calls = map note_of calls

-- the fate of a call that was opened, before others
abbrev pub fates_left : Stage → List (Option Fate) → List (Option Fate)
fates_left (refused why) others = others
fates_left (opened life) others = life.fate ∷ others
