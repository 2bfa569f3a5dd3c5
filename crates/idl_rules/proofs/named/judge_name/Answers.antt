use Rattle.std.proofs.Common.{not, ◌&&◌, ap, ◌∙◌}
use Rattle.std.specs.List.{list_any}
use Rattle.std.specs.Str.{bytes_eq}
use Rattle.idl_scene.specs.Known.{Scene}
use Rattle.idl_rules.specs.Rules.{is_reserved}
use Rattle.idl_rules.proofs.SeenLaws.{name_noted}
use Rattle.idl_rules.proofs.named.judge_name.Goals as goal

pub returns-clause-found : goal.returns-clause-found
returns-clause-found c =
    name_noted c.args.scene.now c.args.name c.args.declares c.args.full c.in_ok-new.new c.is_badly_declared-reserved.result c.scene.inside.file c.args.seen.now
    (ap (λ (s : Scene). s.file) c.scene.view_is)
    (c.in_ok-new.ensures.new ∙ ap (λ w. not (list_any (bytes_eq w) c.args.seen.now)) c.word-word.ensures)
    (c.is_badly_declared-reserved.ensures ∙ ap (λ w. c.args.declares && is_reserved w) c.word-word.ensures)
    c.note_if.ensures c.note_if-2.ensures c.note_if-3.ensures
