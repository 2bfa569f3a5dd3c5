use Rattle.std.proofs.Common.{◌≡◌, ◌<◌, ◌+◌, ◌^◌, length, take, drop}
use Rattle.idl_schema.specs.Faultless.{CanAddEntries, decl_count, with_entries}
use Rattle.idl_schema.specs.Naming.{IsNamed}
use Rattle.idl_schema.proofs.walk.add_entries.Given as goal

abbrev pub invariant-loop-entry : goal.invariant-loop-entry
invariant-loop-entry l = record {
  made : l.building.schema ≡ with_entries l.text l.initial.building.schema (take l.entry-index l.entries);
  can : CanAddEntries l.building.schema l.text (drop l.entry-index l.entries);
  few : length l.building.schema.keys + decl_count (drop l.entry-index l.entries) < 2 ^ 32;
  named : IsNamed l.building;
}
