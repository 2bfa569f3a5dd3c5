use Rattle.std.specs.Prelude.{fold}
use Rattle.script_session.specs.declared.session.Session.{Session}
use Rattle.run_course.specs.Courses.{Desk, came}
use Rattle.run_engine.specs.Tracks.{TracksDesk}
use Rattle.run_engine.proofs.Desks.{Leads}
use Rattle.run_engine.proofs.caller.take_all_in.Given as goal

-- what is left leads where all leads
abbrev pub invariant-loop-packet : goal.invariant-loop-packet
invariant-loop-packet g l =
    (s : Session) (d : Desk) → TracksDesk g.T.Claims.IsOf l.initial.table l.initial.got.items d
    → Leads g.T.Claims.IsOf s l.node l.table l.got.items l.packet-iterator.rest.items (fold (came s l.node) d l.fn.news.items)
