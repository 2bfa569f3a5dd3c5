-- For the crates above: members that may be read, and the defaults of types.
use Rattle.std.proofs.Common.{◌≡◌, ℕ, true, false, List, sym, ◌∙◌}
use Rattle.std.specs.List.{All}
use Rattle.tars_model.specs.Declarations.{Declared, members_at}
use Rattle.tars_model.specs.Members.{HaveRisingTags}
use Rattle.tars_model.specs.Schemas.{IsSchema}
use Rattle.tars_model.specs.declared.member.Member.{Member}
use Rattle.tars_decode.specs.Decoding.{MembersFit}
use Rattle.tars_decode.proofs.SchemaLaws.{structs_rise}
use Rattle.tars_decode.proofs.SchemaDefaults.{struct_defaults}
pub use Rattle.tars_decode.proofs.SchemaDefaults.{type_default}

-- those of each struct of a schema
pub struct_members_fit : {d : Declared} → IsSchema d → (n : ℕ) → MembersFit d (members_at d n)
struct_members_fit schema n = record { rising = structs_rise schema n; defaults = struct_defaults schema n }

-- required ones, as those of a call's arguments and of its reply
pub required_members_fit : (d : Declared) (members : List Member) → HaveRisingTags members → All (λ (m : Member). m.require ≡ true) members → MembersFit d members
required_members_fit d members rising required =
    record { rising = rising; defaults = λ k m within optional. absurd (never (required k m within) optional) }
  where
    never : {b : Rattle.std.proofs.Common.Bool} → b ≡ true → b ≡ false → ⊥
    never e f = cc
