use Rattle.std.proofs.Common.{refl, ap, ◌∙◌}
use Rattle.indexmap.proofs.CallerLemmas.{insert_entry-new}
use Rattle.idl_scene.specs.Known.{find}
use Rattle.idl_scene.proofs.NameLaws.{absent_in_table, known_next}
use Rattle.idl_scene.proofs.known.Names.add.Goals as goal

pub returns : goal.returns
returns c =
    let home = c.args.home.now in
    let name = c.args.name.now in
    let table = c.self.inside.table in
    let absent = absent_in_table home name _ (λ k. refl) table.entries (ap (find home name) c.self.view_is ∙ c.requires) in
    known_next table.entries c.insert.new.self.entries (record { home = c.args.home; name = c.args.name }, c.args.meaning) c.args.self.now c.self.view_is
    (c.in_ok-insert.ensures.entries ∙ insert_entry-new _ table _ c.args.meaning absent)
