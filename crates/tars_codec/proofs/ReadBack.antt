-- What is written for fitting values is a body, and is read as these values.
use Rattle.std.proofs.Common.{◌≡◌, ◌<◌, ℕ, true, List, [], ◌∷◌, Ok}
use Rattle.std.specs.List.{All, AllByRecursion}
use Rattle.std.proofs.lemmas.List.Elements.{recursion_from_All}
use Rattle.tars_model.specs.Declarations.{Declared}
use Rattle.tars_model.specs.Schemas.{IsSchema}
use Rattle.tars_model.specs.Types.{type_depth, depths_of}
use Rattle.tars_model.specs.Values.{fit_members}
use Rattle.tars_model.specs.declared.member.Member.{Member}
use Rattle.tars_model.specs.declared.value.Value.{Value}
use Rattle.tars_wire.specs.Heads.{MAX_DEPTH}
use Rattle.tars_wire.specs.Spelled.{Spelled}
use Rattle.tars_wire.proofs.Writing.Fields.{spelled_law}
use Rattle.tars_decode.specs.Decoding.{MembersFit}
use Rattle.tars_decode.specs.Reads.{reads}
use Rattle.tars_codec.specs.Written.{fields_of, written, AreShallow}
use Rattle.tars_codec.proofs.ReadBack.StandsFor.{ComesBack}
use Rattle.tars_codec.proofs.ReadBack.Members.{start_at_0, all_members_again, members_fit}
use Rattle.tars_codec.proofs.ReadBack.Values.{comes_back}
pub mod Depths
pub mod Numbers
pub mod StandsFor
pub mod Members
pub mod Entries
pub mod Values

all_come_back : {d : Declared} → IsSchema d → (values : List Value) → AllByRecursion (ComesBack d) values
all_come_back schema [] = tt
all_come_back schema (v ∷ values) = (comes_back schema v, all_come_back schema values)

pub written_reads : (d : Declared) (members : List Member) (values : List Value) → IsSchema d → MembersFit d members → AreShallow d members → fit_members d members values ≡ true → All (λ b. b < 256) (written d members values)
    → (Spelled MAX_DEPTH (written d members values) (fields_of d members values)) × (reads d members (fields_of d members values) ≡ Ok values)
unfolding written reads
written_reads d members values schema fit shallow fits bytes =
    let each = all_come_back schema values in
    let deep = recursion_from_All (λ (m : Member). type_depth (depths_of d.structs) m.ty < MAX_DEPTH) members shallow in (
      spelled_law (fields_of d members values) (members_fit d members values 0 MAX_DEPTH (start_at_0 members) fit.rising deep each fits) bytes,
      all_members_again d members values fit.rising each fits,
    )
