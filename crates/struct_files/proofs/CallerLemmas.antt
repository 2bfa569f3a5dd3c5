-- For the crates above: a command on a struct gives some answer, and no other.
use Rattle.std.proofs.Common.{◌≡◌, ℕ, List}
use Rattle.struct_files.specs.Answers.{TextAnswer}
use Rattle.struct_files.specs.Decoding.{Decodes, DecodesFile}
use Rattle.struct_files.specs.Encoding.{Encodes, EncodesFile}
use Rattle.schema_kept.specs.Written.{HoldBytes}
use Rattle.schema_kept.proofs.Loaded.{loaded_is_schema}
pub use Rattle.struct_files.proofs.OneComparing.{some_compared, same_compared}
use Rattle.struct_files.proofs.OneDecoding.{decodes_single, decodes_total}
use Rattle.struct_files.proofs.OneEncoding.{encodes_single, encodes_total}
use Rattle.struct_files.proofs.OneGiving.{some_answer, same_answer}
use Rattle.tars_base.specs.Contents.{Held}

module _ (held : Held) (file home name values : List ℕ) where
  pub some_encoded : HoldBytes (held 0) → (answer : TextAnswer) × EncodesFile held file home name values answer
  some_encoded bytes = some_answer (Encodes values) held file home name values (λ d loads. encodes_total values d (loaded_is_schema (held 0) bytes file d loads))

  pub same_encoded : (a b : TextAnswer) → EncodesFile held file home name values a → EncodesFile held file home name values b → a ≡ b
  same_encoded = same_answer (Encodes values) held file home name values (encodes_single values)

  pub some_decoded : (answer : TextAnswer) × DecodesFile held file home name values answer
  some_decoded = some_answer (Decodes values) held file home name values (λ d loads. decodes_total values d)

  pub same_decoded : (a b : TextAnswer) → DecodesFile held file home name values a → DecodesFile held file home name values b → a ≡ b
  same_decoded = same_answer (Decodes values) held file home name values (decodes_single values)
