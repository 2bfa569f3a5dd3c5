-- What is written for values of one version is a body with their fields, so that it is read under another as their projection.
use Rattle.std.proofs.Common.{◌≡◌, ◌<◌, ℕ, true, List, [], ◌∷◌, Result, Ok, Err, refl, sym, subst, arith}
use Rattle.std.specs.List.{All, AllByRecursion}
use Rattle.std.specs.Result.{IsOk, IsOkUnless}
use Rattle.std.proofs.lemmas.List.Elements.{recursion_from_All}
use Rattle.tars_model.specs.Declarations.{Declared}
use Rattle.tars_model.specs.Schemas.{IsSchema}
use Rattle.tars_model.specs.Values.{fit_members}
use Rattle.tars_model.specs.declared.member.Member.{Member}
use Rattle.tars_model.specs.declared.value.Value.{Value}
use Rattle.tars_wire.specs.Heads.{MAX_DEPTH}
use Rattle.tars_wire.specs.Spelled.{Spelled}
use Rattle.tars_wire.proofs.Writing.Fields.{spelled_law}
use Rattle.tars_decode.specs.Decoding.{Answers}
use Rattle.tars_decode.specs.Reads.{Read}
use Rattle.tars_decode.specs.declared.halt.Refusal.{Refusal}
use Rattle.tars_decode.specs.declared.refuse.Refuse.{Refuse}
use Rattle.tars_decode.specs.declared.refuse.Refuse.TheVariants as refuse
use Rattle.tars_codec.specs.Written.{fields_of, written}
use Rattle.tars_codec.proofs.ReadBack.StandsFor.{depth, ComesBack}
use Rattle.tars_codec.proofs.ReadBack.Members.{start_at_0, members_fit}
use Rattle.tars_codec.proofs.ReadBack.Values.{comes_back}
use Rattle.tars_versions.specs.Agreement.{agree, versions_agree, IsVersion}
use Rattle.tars_versions.specs.Decoded.{IsWritten, IsDecoded}
use Rattle.tars_versions.specs.Projected.{project_members}
use Rattle.tars_versions.proofs.Projection.{decoded_projects}
use Rattle.tars_versions.proofs.Accepting.Values.{no_value_is_refused}

all_come_back : {d : Declared} → IsSchema d → (vs : List Value) → AllByRecursion (ComesBack d) vs
all_come_back schema [] = tt
all_come_back schema (v ∷ vs) = (comes_back schema v, all_come_back schema vs)

-- the types of a version are less deep than a body may be
are_shallow : (d : Declared) (ms : List Member) → IsVersion d ms → AllByRecursion (λ (m : Member). depth d m.ty < MAX_DEPTH) ms
are_shallow d ms version =
    recursion_from_All (λ (m : Member). depth d m.ty < MAX_DEPTH) ms (λ k m within. let most = (version.types k m within).bounded in omega arith)

written_spells : (d : Declared) (ms : List Member) (vs : List Value) → IsSchema d → IsVersion d ms → fit_members d ms vs ≡ true → All (λ byte. byte < 256) (written d ms vs) → Spelled MAX_DEPTH (written d ms vs) (fields_of d ms vs)
unfolding written
written_spells d ms vs schema version fit all =
    spelled_law (fields_of d ms vs) (members_fit d ms vs 0 MAX_DEPTH (start_at_0 ms) version.rising (are_shallow d ms version) (all_come_back schema vs) fit) all

pub written_projects : (d : Declared) (ms : List Member) (vs : List Value) (d' : Declared) (ms' : List Member) (bytes : List ℕ) (result : Result (List Value) Refuse) → IsWritten d ms vs bytes → IsDecoded bytes d' ms' result → Answers result (project_members d ms vs d' ms')
written_projects d ms vs d' ms' bytes result is decoded =
    let spelled = written_spells d ms vs is.schema is.version is.fits (subst (All (λ byte. byte < 256)) is.same is.small) in
    decoded_projects d ms vs d' ms' bytes result is.fits (subst (λ bs. Spelled MAX_DEPTH bs (fields_of d ms vs)) (sym is.same) spelled) decoded

-- ---- where versions agree

not_refused : (read : Read (List Value)) (why : Refusal) → IsOk read → read ≡ Err why → ⊥
not_refused (Ok values) why ok is = cc
not_refused (Err other) why ok is = cc

is_read : (result : Result (List Value) Refuse) (read : Read (List Value)) → IsOk read → Answers result read → IsOkUnless result refuse.Memory
is_read (Ok values) read ok answers = tt
is_read (Err (refuse.Missing path)) read ok answers = absurd (not_refused read _ ok answers)
is_read (Err (refuse.Mismatch path why)) read ok answers = absurd (not_refused read _ ok answers)
is_read (Err (refuse.Malformed fault)) read ok answers = absurd answers
is_read (Err refuse.Memory) read ok answers = refl

pub agreeing_are_read : (d : Declared) (ms : List Member) (vs : List Value) (d' : Declared) (ms' : List Member) (bytes : List ℕ) (result : Result (List Value) Refuse) → IsSchema d' → IsVersion d' ms' → versions_agree d ms d' ms' ≡ agree → IsWritten d ms vs bytes → IsDecoded bytes d' ms' result → IsOkUnless result refuse.Memory
agreeing_are_read d ms vs d' ms' bytes result schema' version' agreed is decoded =
    is_read result (project_members d ms vs d' ms') (no_value_is_refused d d' ms ms' vs is.schema schema' is.version version' agreed is.fits) (written_projects d ms vs d' ms' bytes result is decoded)
