use Rattle.std.proofs.Common.{refl, ap, ◌∙◌}
use Rattle.std.proofs.lemmas.Iterator.Adapters.{position_from-zero}
use Rattle.std.specs.List.{position_from}
use Rattle.idl_schema.specs.Naming.{is_name}
use Rattle.idl_schema.specs.declared.name_table.Key.{Key}
use Rattle.idl_schema.proofs.NameLaws.{position_mapped, some_within}
use Rattle.idl_schema.proofs.name_table.NameTable.number.Goals as goal

pub returns-clause-within : goal.returns-clause-within
returns-clause-within c =
    some_within c.get_index_of.result (λ (k : Key). (k.home.now, k.name.now)) c.self.inside.keys.keys c.args.self.now c.self.view_is c.get_index_of.ensures.within

pub returns-clause-number : goal.returns-clause-number
returns-clause-number c =
    let test = is_name c.args.home.now c.args.name.now in
    c.get_index_of.ensures.index ∙ position_from-zero _ c.self.inside.keys.keys ∙ position_mapped (λ (k : Key). (k.home.now, k.name.now)) _ test (λ k. refl) 0 c.self.inside.keys.keys
    ∙ ap (position_from test 0) c.self.view_is
