use Rattle.std.proofs.Common.{◌≡◌, drop}
use Rattle.idl_schema.specs.SchemaOf as spec
use Rattle.idl_schema.proofs.literals.number_named.Given as goal

abbrev pub invariant-loop-item : goal.invariant-loop-item
invariant-loop-item l = spec.number_named l.name l.items ≡ spec.number_named l.name (drop l.item-index l.items)
