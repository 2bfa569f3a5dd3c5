use Rattle.std.proofs.Common.{refl, ◌∙◌, ap, ◌++◌, ◌∷◌, []}
use Rattle.run_engine.proofs.Plans.{nothing_happened}
use Rattle.run_engine.proofs.plan.Plan.new.Goals as goal

pub returns-clause-tracks : goal.returns-clause-tracks
returns-clause-tracks g c =
    nothing_happened g.T.Claims.IsOf _ c.in_ok-new.field-0 refl c.new-2.ensures.items c.requires.table
    (c.in_ok-push.ensures.items ∙ ap (λ links. links ++ c.in_ok-new.field-0 ∷ []) c.new-links.ensures.items) c.in_ok-new.ensures refl
