use Rattle.std.proofs.Common.{sym, subst, []}
use Rattle.run_course.specs.Planned.{ended}
use Rattle.run_course.specs.Legal.{IsNamed, scripted}
use Rattle.run_course.proofs.Openings.{same_specs, runs_open, ids_differ}
use Rattle.run_course.proofs.Runs.{runs_read, runs_caused, runs_named}
use Rattle.run_course.proofs.Sent.{runs_sent}
use Rattle.run_course.proofs.Moments.{runs_still}
use Rattle.run_course.proofs.laws.legal_course.Goals as goal

pub returns-clause-rows : goal.returns-clause-rows
returns-clause-rows c = λ s events. same_specs [] (scripted events) (ended s events).calls (runs_open s events)

pub returns-clause-ids : goal.returns-clause-ids
returns-clause-ids c = ids_differ

pub returns-clause-sends : goal.returns-clause-sends
returns-clause-sends c = λ s events node link e. runs_sent s events node link e

pub returns-clause-reads : goal.returns-clause-reads
returns-clause-reads c = λ s events node link e. runs_read s events node link e

pub returns-clause-moments : goal.returns-clause-moments
returns-clause-moments c = λ s events. runs_still s events

pub returns-clause-ends : goal.returns-clause-ends
returns-clause-ends c = λ s events k call e. runs_caused s events k call e

pub returns-clause-replies : goal.returns-clause-replies
returns-clause-replies c = λ s events node packet id bytes used.
    subst (λ n. IsNamed (ended s events) node n id) (sym used.1) (runs_named s events node used.0 bytes (record { 0 = id }) used.2)
