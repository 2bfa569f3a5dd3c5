use Rattle.std.proofs.Common.{◌≡◌, ap, ◌∙◌}
use Rattle.idl_scene.specs.Known.{Scene}
use Rattle.idl_scene.proofs.FaultLaws.{noted_both, noted_nothing}
use Rattle.idl_rules.specs.Rules.{is_none_left, room_for}
use Rattle.idl_rules.proofs.declared_names.judge_declaration.Goals as goal

pub returns : goal.returns
returns c =
    let decl = c.args.decl.now in
    let full : c.is_none_left-full.result ≡ is_none_left (room_for c.args.scene.now.room decl) =
    c.is_none_left-full.ensures ∙ ap is_none_left (c.room_for.ensures ∙ ap (λ (s : Scene). room_for s.room decl) c.scene.view_is) in
    noted_both (rw c.name_of-name.ensures at c.note_twice.ensures)
    (noted_both (rw c.name_of-name.ensures at c.note_reserved_name.ensures)
    (noted_both c.note_deep.ensures (noted_both (rw (c.name_of-name.ensures, full) at c.note_full.ensures) (noted_both c.note_large.ensures (noted_nothing _)))))
