-- The members of a schema have tags that are bytes and defaults that have bytes, and so has the default of each type.
use Rattle.std.proofs.Common.{◌≡◌, ◌<◌, ℕ, Bool, true, false, cond, List, [], ◌∷◌, ◌++◌, refl, sym, ◌∙◌, subst, lt-ltb, pos}
use Rattle.std.specs.Prelude.{slice_get}
use Rattle.std.specs.List.{All}
use Rattle.std.proofs.lemmas.Bool.{and_from}
use Rattle.std.proofs.lemmas.List.Elements.{All-head, All-tail}
use Rattle.tars_model.specs.Declarations.{Declared, members_at, struct_members}
use Rattle.tars_model.specs.Schemas.{IsSchema, MemberFits, StructFits, IsDefault, absent, literal, is_single, text_bytes}
use Rattle.tars_model.specs.Types.{TyLayer}
use Rattle.tars_model.specs.Values.{is_byte, default_layer, default_of, defaults_of}
use Rattle.tars_model.specs.declared.member.Member.{Member}
use Rattle.tars_model.specs.declared.struct_desc.StructDesc.{StructDesc}
use Rattle.tars_model.specs.declared.ty.Ty.{Ty, out-Ty}
use Rattle.tars_model.specs.declared.ty.Ty.TheOpen as ty
use Rattle.tars_model.specs.declared.value.Value.{Value, out-Value}
use Rattle.tars_model.specs.declared.value.Value.TheOpen as value
use Rattle.tars_model.specs.declared.value.Value.TheVariants as values
use Rattle.tars_model.specs.declared.value.Value.TheVariants.{rolls-Bool, rolls-Num, rolls-Text}
use Rattle.tars_codec.proofs.Layers.{ValueLayer, layer_fits, fits_out, value_of_layer}
use Rattle.tars_versions.proofs.Induction.{AllOf}
use Rattle.tars_versions.proofs.SchemaTypes.{by_number}
use Rattle.value_text.specs.Printed.{are_bytes}
use Rattle.run_answers.proofs.ListLaws.{of_all, all_goes}
use Rattle.run_answers.proofs.ValueBytes.{HasBytes, IsTagged, num_has, bool_has, text_has, blob_has, list_has, map_has, struct_has}

pub record IsByteMember (m : Member) : Type 0 where
  pub tag : m.tag < 256
  pub default : HasBytes m.default

abbrev pub AreByteMembers : Declared → Type 0
AreByteMembers d = (k : ℕ) → AllOf IsByteMember (members_at d k)

pub tagged : (ms : List Member) → AllOf IsByteMember ms → AllOf IsTagged ms
tagged ms all = all_goes IsByteMember IsTagged (λ m own. own.tag) ms all

pub defaulted : (ms : List Member) → AllOf IsByteMember ms → AllOf (λ (m : Member). HasBytes m.default) ms
defaulted ms all = all_goes IsByteMember (λ (m : Member). HasBytes m.default) (λ m own. own.default) ms all

-- ---- defaults of types

defaults_have : (ms : List Member) → AllOf IsByteMember ms → AllOf HasBytes (defaults_of ms)
defaults_have [] all = tt
defaults_have (m ∷ ms) all = (all.0.default, defaults_have ms all.1)

layer_has : (d : Declared) → AreByteMembers d → (l : TyLayer) → HasBytes (default_layer d l)
layer_has d all ty.Bool = bool_has false
layer_has d all ty.Text = text_has [] refl
layer_has d all (ty.Enum number) = num_has _
layer_has d all (ty.Struct number) = struct_has _ (defaults_have (members_at d number) (all number))
layer_has d all (ty.Vector of) = by_test (is_byte (out-Ty of))
  where
    by_test : (b : Bool) → HasBytes (cond b (values.Blob []) (values.List []))
    by_test true = blob_has [] refl
    by_test false = list_has [] tt
layer_has d all (ty.Map key to) = map_has [] tt
layer_has d all ty.Byte = num_has (pos 0)
layer_has d all ty.Short = num_has (pos 0)
layer_has d all ty.Int = num_has (pos 0)
layer_has d all ty.Long = num_has (pos 0)
layer_has d all ty.UByte = num_has (pos 0)
layer_has d all ty.UShort = num_has (pos 0)
layer_has d all ty.UInt = num_has (pos 0)

pub default_has : (d : Declared) → AreByteMembers d → (t : Ty) → HasBytes (default_of d t)
default_has d all t = layer_has d all (out-Ty t)

-- ---- literals

octets : (bytes : List ℕ) → All (λ b. b < 256) bytes → are_bytes bytes ≡ true
octets [] all = refl
octets (b ∷ bytes) all = and_from _ _ (lt-ltb b 256 (All-head (λ b. b < 256) b bytes all)) (octets bytes (All-tail (λ b. b < 256) b bytes all))

single_has : (d : Declared) (v : Value) (k : TyLayer) (l : ValueLayer) → out-Value v ≡ l → is_single k ≡ true → layer_fits d k l ≡ true → All (λ b. b < 256) (text_bytes l) → HasBytes v
single_has d v k (value.Bool b) is single fit bytes = subst HasBytes (sym (value_of_layer v (value.Bool b) is ∙ rolls-Bool b)) (bool_has b)
single_has d v k (value.Num n) is single fit bytes = subst HasBytes (sym (value_of_layer v (value.Num n) is ∙ rolls-Num n)) (num_has n)
single_has d v k (value.Text text) is single fit bytes = subst HasBytes (sym (value_of_layer v (value.Text text) is ∙ rolls-Text text)) (text_has text (octets text bytes))
single_has d v (ty.Vector of) (value.Blob blob) is single fit bytes = absurd cc
single_has d v _ (value.Blob blob) is single fit bytes = absurd cc
single_has d v (ty.Vector of) (value.List vs) is single fit bytes = absurd cc
single_has d v _ (value.List vs) is single fit bytes = absurd cc
single_has d v (ty.Map key to) (value.Map ps) is single fit bytes = absurd cc
single_has d v _ (value.Map ps) is single fit bytes = absurd cc
single_has d v (ty.Struct number) (value.Struct vs) is single fit bytes = absurd cc
single_has d v _ (value.Struct vs) is single fit bytes = absurd cc

default_of_member : (d : Declared) → AreByteMembers d → (t : Ty) (v : Value) → IsDefault d t v → HasBytes v
default_of_member d all t v (absent is) = subst HasBytes (sym is) (default_has d all t)
default_of_member d all t v (literal own short) = single_has d v (out-Ty t) (out-Value v) refl own.single (sym (fits_out v d t) ∙ own.is_value) own.bytes

-- ---- schemas

members_fit_bytes : (d : Declared) → AreByteMembers d → (ms : List Member) → AllOf (MemberFits d) ms → AllOf IsByteMember ms
members_fit_bytes d all ms fit =
    all_goes (MemberFits d) IsByteMember (λ m own. record { tag = own.tag; default = default_of_member d all m.ty m.default own.default }) ms fit

struct_more : (d : Declared) (s : StructDesc) → StructFits d s → AreByteMembers d → (k : ℕ) → AllOf IsByteMember (struct_members (slice_get (d.structs ++ s ∷ []) k))
struct_more d s fit all =
    by_number (λ k o. AllOf IsByteMember (struct_members o)) d.structs s (members_fit_bytes d all s.members (of_all (MemberFits d) s.members fit.members)) (λ k. tt) all

pub schema_bytes : {d : Declared} → IsSchema d → AreByteMembers d
schema_bytes {d} (IsSchema.nothing is) = subst AreByteMembers (sym is) (λ k. tt)
schema_bytes (IsSchema.struct {d = d} {s = s} schema fit is) = subst AreByteMembers (sym is) (struct_more d s fit (schema_bytes schema))
schema_bytes (IsSchema.enum schema fit is) = subst AreByteMembers (sym is) (schema_bytes schema)
schema_bytes (IsSchema.const schema fit is) = subst AreByteMembers (sym is) (schema_bytes schema)
schema_bytes (IsSchema.key schema fit is) = subst AreByteMembers (sym is) (schema_bytes schema)
schema_bytes (IsSchema.interface schema fit is) = subst AreByteMembers (sym is) (schema_bytes schema)
