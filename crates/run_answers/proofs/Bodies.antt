-- Bodies that one version wrote, as another reads them: what they say is the projection of what was written.
use Rattle.std.proofs.Common.{◌≡◌, ℕ, true, List, Ok, ap, ◌∙◌}
use Rattle.tars_model.specs.Declarations.{Declared, members_at}
use Rattle.tars_model.specs.Schemas.{IsSchema}
use Rattle.tars_model.specs.Values.{fit_members}
use Rattle.tars_model.specs.declared.member.Member.{Member}
use Rattle.tars_model.specs.declared.value.Value.{Value}
use Rattle.wire_words.specs.Tree.{WireFields}
use Rattle.tars_wire.specs.Heads.{MAX_DEPTH}
use Rattle.tars_wire.specs.Spelled.{Spelled}
use Rattle.tars_wire.proofs.Grammar.Extends.{one_reading_law}
use Rattle.tars_decode.specs.Reads.{reads}
use Rattle.tars_decode.proofs.CallerLemmas.{struct_members_fit}
use Rattle.tars_decode.proofs.Fitting.Contents.{body_fits}
use Rattle.tars_codec.specs.Written.{fields_of, written}
use Rattle.tars_codec.proofs.ReadBack.{written_reads}
use Rattle.tars_versions.specs.Projected.{project_members}
use Rattle.tars_versions.proofs.Induction.{AllOf}
use Rattle.tars_versions.proofs.Projection.{reads_projects}
use Rattle.wire_reading.specs.Readings.{AreBytes, Reading, body, no_body}
use Rattle.rpc_packet.specs.Bodies.{reading, unless_refused, values_in, values_of, refusal_told, decoded_in, decoded}
use Rattle.run_answers.proofs.ValueBytes.{HasBytes, written_has}
use Rattle.run_answers.proofs.ProjectedBytes.{projection_has}
use Rattle.run_answers.proofs.SchemaBytes.{schema_bytes, tagged, defaulted}
use Rattle.run_answers.proofs.FuncMembers.{AreMembers}

-- ---- bytes that spell fields

module _ (d : Declared) (ms : List Member) (bytes : List ℕ) (fields : WireFields) (small : AreBytes bytes) (spelled : Spelled MAX_DEPTH bytes fields) where
  pub spelled_values : values_of d ms bytes ≡ unless_refused (reads d ms fields)
  unfolding values_of
  spelled_values = by_reading (reading bytes)
    where
      by_reading : (r : Reading bytes) → values_in d ms r ≡ unless_refused (reads d ms fields)
      by_reading (body others other_spelled) =
          ap (λ (fs : WireFields). unless_refused (reads d ms fs)) (one_reading_law MAX_DEPTH MAX_DEPTH bytes others fields other_spelled spelled)
      by_reading (no_body fault is) = absurd ((is small).no_body (record { fields = fields; spelled = spelled }))

  pub spelled_decoded : decoded d ms bytes ≡ refusal_told (reads d ms fields)
  unfolding decoded
  spelled_decoded = by_reading (reading bytes)
    where
      by_reading : (r : Reading bytes) → decoded_in d ms r ≡ refusal_told (reads d ms fields)
      by_reading (body others other_spelled) =
          ap (λ (fs : WireFields). refusal_told (reads d ms fs)) (one_reading_law MAX_DEPTH MAX_DEPTH bytes others fields other_spelled spelled)
      by_reading (no_body fault is) = absurd ((is small).no_body (record { fields = fields; spelled = spelled }))

-- ---- values that are written

-- values of members of a schema, with bytes
pub record AreSendable (d : Declared) (ms : List Member) (vs : List Value) : Type 0 where
  pub schema : IsSchema d
  pub members : AreMembers d ms
  pub fit : fit_members d ms vs ≡ true
  pub bytes : AllOf HasBytes vs

module _ (d : Declared) (ms : List Member) (vs : List Value) (sendable : AreSendable d ms vs) where
  pub body_bytes : AreBytes (written d ms vs)
  body_bytes = written_has d (λ k. tagged (members_at d k) (schema_bytes sendable.schema k)) ms vs (tagged ms sendable.members.bytes) sendable.bytes

  spells : Spelled MAX_DEPTH (written d ms vs) (fields_of d ms vs)
  spells = (written_reads d ms vs sendable.schema sendable.members.fit sendable.members.shallow sendable.fit body_bytes).0

  pub body_values : (d' : Declared) (ms' : List Member) → values_of d' ms' (written d ms vs) ≡ unless_refused (project_members d ms vs d' ms')
  body_values d' ms' =
      spelled_values d' ms' (written d ms vs) (fields_of d ms vs) body_bytes spells ∙ ap unless_refused (reads_projects d ms vs d' ms' sendable.fit)

  pub body_decoded : (d' : Declared) (ms' : List Member) → decoded d' ms' (written d ms vs) ≡ refusal_told (project_members d ms vs d' ms')
  body_decoded d' ms' =
      spelled_decoded d' ms' (written d ms vs) (fields_of d ms vs) body_bytes spells ∙ ap refusal_told (reads_projects d ms vs d' ms' sendable.fit)

-- ---- what is read of them is sent on

pub projection_sendable : (d : Declared) (ms : List Member) (vs : List Value) → AreSendable d ms vs → (d' : Declared) (ms' : List Member) → IsSchema d' → AreMembers d' ms' → (got : List Value)
    → project_members d ms vs d' ms' ≡ Ok got → AreSendable d' ms' got
projection_sendable d ms vs sendable d' ms' schema members got is =
    record {
      schema = schema;
      members = members;
      fit = body_fits (spells d ms vs sendable) d' ms' got (λ k. (struct_members_fit schema k).defaults) members.fit.defaults (reads_projects d ms vs d' ms' sendable.fit ∙ is);
      bytes = projection_has d ms vs d' ms' (λ k. defaulted (members_at d' k) (schema_bytes schema k)) (defaulted ms' members.bytes) sendable.bytes got is;
    }
