-- For the crates above: what the files held is known, reading or loading of that gives one answer, and what that is was
-- returned for some contents.
pub use Rattle.schema_files.proofs.FileReading.{ForFile}
pub use Rattle.schema_files.proofs.Held.{always, any_held, held_in, held_told}
pub use Rattle.schema_files.proofs.OneFile.{one_file}
pub use Rattle.schema_files.proofs.OneSchema.{one_schema}
pub use Rattle.schema_files.proofs.SchemaLoading.{ForSchema}
