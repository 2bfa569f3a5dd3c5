use Rattle.std.proofs.Common.{refl, ap, ◌∙◌}
use Rattle.std.specs.List.{list_any}
use Rattle.std.specs.Str.{bytes_eq}
use Rattle.idl_scene.proofs.WordLaws.{any_now}
use Rattle.idl_scene.proofs.word_set.WordSet.contains.Goals as goal

pub returns : goal.returns
returns c =
    let word = c.args.word.now in
    c.contains.ensures ∙ any_now word _ (λ k. refl) c.self.inside.set.keys ∙ ap (list_any (bytes_eq word)) c.self.view_is
