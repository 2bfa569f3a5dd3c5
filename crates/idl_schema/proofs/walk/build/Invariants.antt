use Rattle.std.proofs.Common.{◌≡◌, ◌<◌, ◌+◌, ◌^◌, length, take, drop, fold}
use Rattle.tars_model.specs.Declarations.{nothing_declared}
use Rattle.idl_schema.specs.Faultless.{CanAddFiles, with_file}
use Rattle.idl_schema.specs.Lengths.{total_length}
use Rattle.idl_schema.specs.Naming.{IsNamed}
use Rattle.idl_schema.proofs.walk.build.Given as goal

abbrev pub invariant-loop-file : goal.invariant-loop-file
invariant-loop-file l = record {
  made : l.building.schema ≡ fold with_file nothing_declared (take l.file-index l.files);
  can : CanAddFiles l.building.schema (drop l.file-index l.files);
  few : length l.building.schema.keys + total_length (drop l.file-index l.files) < 2 ^ 32;
  named : IsNamed l.building;
}
