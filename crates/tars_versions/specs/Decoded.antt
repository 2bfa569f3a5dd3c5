-- What `encode` writes, as a fact about bytes, and what `decode` says of bytes, as one about its result (docs/PROTOCOL.md,
-- "Writing" and "Reading members").
use Rattle.std.specs.Prelude.{◌≡◌, ◌<◌, ℕ, true, List, Result}
use Rattle.std.specs.List.{All}
use Rattle.tars_model.specs.Declarations.{Declared}
use Rattle.tars_model.specs.Schemas.{IsSchema}
use Rattle.tars_model.specs.Values.{fit_members}
use Rattle.tars_model.specs.declared.member.Member.{Member}
use Rattle.tars_model.specs.declared.value.Value.{Value}
use Rattle.wire_words.specs.Tree.{WireFields}
use Rattle.tars_wire.specs.Heads.{MAX_DEPTH}
use Rattle.tars_wire.specs.Spelled.{Spelled}
use Rattle.tars_decode.specs.Reads.{reads}
use Rattle.tars_decode.specs.Decoding.{Answers}
use Rattle.tars_decode.specs.declared.refuse.Refuse.{Refuse}
use Rattle.tars_codec.specs.Written.{written}
use Rattle.tars_versions.specs.Agreement.{IsVersion}

-- bytes that are written for values of a version
pub record IsWritten (d : Declared) (members : List Member) (values : List Value) (bytes : List ℕ) : Type 0 where
  pub schema : IsSchema d
  pub version : IsVersion d members
  pub fits : fit_members d members values ≡ true
  pub small : All (λ byte. byte < 256) bytes
  pub same : bytes ≡ written d members values

-- a result of reading members from bytes: what the bytes spell is what it answers
abbrev pub IsDecoded : List ℕ → Declared → List Member → Result (List Value) Refuse → Type 0
IsDecoded bytes d members result = (fields : WireFields) → Spelled MAX_DEPTH bytes fields → Answers result (reads d members fields)
