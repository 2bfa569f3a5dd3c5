use Rattle.std.proofs.Common.{◌≡◌, ◌<◌, ◌+◌, ◌^◌, length, take, drop}
use Rattle.idl_schema.specs.Faultless.{CanAddAll, with_decls}
use Rattle.idl_schema.specs.Naming.{IsNamed}
use Rattle.idl_schema.proofs.walk.add_decls.Given as goal

abbrev pub invariant-loop-decl : goal.invariant-loop-decl
invariant-loop-decl l = record {
  made : l.building.schema ≡ with_decls l.text l.home l.initial.building.schema (take l.decl-index l.decls);
  can : CanAddAll l.building.schema l.text l.home (drop l.decl-index l.decls);
  few : length l.building.schema.keys + length (drop l.decl-index l.decls) < 2 ^ 32;
  named : IsNamed l.building;
}
