use Rattle.std.proofs.Common.{not, refl, ap, ◌∙◌}
use Rattle.std.specs.List.{list_any}
use Rattle.std.specs.Str.{bytes_eq}
use Rattle.idl_scene.proofs.WordLaws.{any_now, now_with}
use Rattle.idl_scene.proofs.word_set.WordSet.insert.Goals as goal

pub returns-clause-new : goal.returns-clause-new
returns-clause-new c =
    let word = c.args.word.now in
    c.in_ok-new.ensures.added ∙ ap not (any_now word _ (λ k. refl) c.self.inside.set.keys ∙ ap (list_any (bytes_eq word)) c.self.view_is)

pub returns-clause-seen : goal.returns-clause-seen
returns-clause-seen c = now_with c.self.inside.set.keys c.insert.new.self.keys c.args.self.now c.args.word _ (λ k. refl) c.self.view_is c.in_ok-new.ensures.keys
