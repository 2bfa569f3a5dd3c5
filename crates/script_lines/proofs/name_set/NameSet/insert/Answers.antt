use Rattle.std.proofs.Common.{not, refl, ap, ◌∙◌}
use Rattle.std.specs.List.{list_any}
use Rattle.std.specs.Str.{bytes_eq}
use Rattle.script_lines.proofs.NameSetLaws.{any_now, now_with}
use Rattle.script_lines.proofs.name_set.NameSet.insert.Goals as goal

pub returns-clause-new : goal.returns-clause-new
returns-clause-new c =
    let word = c.args.name.now in
    c.in_ok-new.ensures.added ∙ ap not (any_now word _ (λ k. refl) c.self.inside.names.keys ∙ ap (list_any (bytes_eq word)) c.self.view_is)

pub returns-clause-seen : goal.returns-clause-seen
returns-clause-seen c = now_with c.self.inside.names.keys c.insert.new.self.keys c.args.self.now c.args.name _ (λ k. refl) c.self.view_is c.in_ok-new.ensures.keys
