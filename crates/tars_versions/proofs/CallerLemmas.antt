-- For the crates above: members that may be compared with those of another version.
pub use Rattle.tars_versions.proofs.StructVersions.{struct_is_version}
