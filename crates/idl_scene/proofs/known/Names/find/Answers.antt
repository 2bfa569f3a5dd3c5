use Rattle.std.proofs.Common.{refl, ap, ◌∙◌}
use Rattle.idl_scene.specs.Known.{find}
use Rattle.idl_scene.proofs.NameLaws.{meant_now, meant_copied, found_in_table}
use Rattle.idl_scene.proofs.known.Names.find.Goals as goal

pub returns : goal.returns
returns c =
    let home = c.args.home.now in
    let name = c.args.name.now in
    meant_copied c.get.result ∙ ap meant_now c.get.ensures.value ∙ found_in_table home name _ (λ k. refl) c.self.inside.table.entries ∙ ap (find home name) c.self.view_is
