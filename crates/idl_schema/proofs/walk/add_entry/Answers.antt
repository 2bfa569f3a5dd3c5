use Rattle.std.proofs.Common.{◌∷◌, subst}
use Rattle.idl_schema.specs.Faultless.{CanAddEntries}
use Rattle.idl_schema.proofs.Walking.{module_decls}
use Rattle.idl_schema.proofs.walk.add_entry.Goals as goal

pub add_decls-requires-clause-can : goal.add_decls-requires-clause-can
add_decls-requires-clause-can c =
    rw (c.slice.ensures, c.as_slice.ensures)
    (module_decls c.args.building.now.schema c.args.text.now c.in-Module.block c.requires.can.0 (subst (λ e. CanAddEntries c.args.building.now.schema c.args.text.now (e ∷ c.requires.can.0)) c.in-Module.is c.requires.can.1))
