use Rattle.std.proofs.Common.{refl, ◌∙◌, ap, ◌++◌, ◌∷◌, []}
use Rattle.run_engine.specs.declared.call_note.CallNote.{CallNote}
use Rattle.run_engine.proofs.Plans.{refused_tracks}
use Rattle.run_engine.proofs.plan.Plan.refuse.Goals as goal

pub returns-clause-tracks : goal.returns-clause-tracks
returns-clause-tracks g c = λ course t.
    refused_tracks g.T.Claims.IsOf c.args.self.now _ course c.args.spec.now c.args.pick c.args.why t c.requires.func
    (c.in_ok-push.ensures.items ∙ ap (λ (note : CallNote). c.args.self.now.notes.items ++ note ∷ []) c.refused.ensures) refl refl refl refl refl
