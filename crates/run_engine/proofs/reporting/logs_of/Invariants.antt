use Rattle.std.proofs.Common.{◌≡◌, ◌≤◌, ◌+◌, ◌++◌, List, length}
use Rattle.script_session.specs.declared.session.Session.{Session}
use Rattle.run_course.specs.Courses.{Link}
use Rattle.run_course.specs.Planned.{logs_from}
use Rattle.run_engine.specs.Tracks.{MAX_NODES, TrackLinks}
use Rattle.run_engine.proofs.reporting.logs_of.Given as goal

-- the logs so far, and the links that are left
abbrev pub invariant-loop-ends : goal.invariant-loop-ends
invariant-loop-ends l =
    (goal.iterator-loop-ends).can_next l.ends-iterator
    × (goal.iterator-loop-ends).is_finite l.ends-iterator
    × (l.node + length l.ends-iterator.rest.items ≤ MAX_NODES + 1)
    × ((s : Session) (cs : List Link) → TrackLinks s l.fn.links.items cs
    → (left : List Link) × TrackLinks s l.ends-iterator.rest.items left × (l.logs ++ logs_from l.node left ≡ logs_from 1 cs))
