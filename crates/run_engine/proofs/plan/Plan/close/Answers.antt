use Rattle.std.proofs.Common.{refl}
use Rattle.run_engine.proofs.Events.{closed_tracks}
use Rattle.run_engine.proofs.plan.Plan.close.Goals as goal

pub returns-clause-tracks : goal.returns-clause-tracks
returns-clause-tracks g c = λ course t. closed_tracks g.T.Claims.IsOf c.args.self.now _ course t c.close.ensures refl refl refl refl refl
