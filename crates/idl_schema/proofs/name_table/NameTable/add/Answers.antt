use Rattle.std.proofs.Common.{refl}
use Rattle.idl_schema.specs.Naming.{is_name}
use Rattle.idl_schema.specs.declared.name_table.Key.{Key}
use Rattle.idl_schema.proofs.NameLaws.{mapped_next}
use Rattle.idl_schema.proofs.name_table.NameTable.add.Goals as goal

pub returns : goal.returns
returns c =
    mapped_next (λ (k : Key). (k.home.now, k.name.now)) _ (is_name c.args.home.now c.args.name.now) (λ k. refl) c.self.inside.keys.keys c.insert.new.self.keys
    (record { home = c.args.home; name = c.args.name }) c.args.self.now c.self.view_is c.requires c.in_ok-insert.ensures.keys
