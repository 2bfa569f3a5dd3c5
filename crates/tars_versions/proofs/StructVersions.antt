-- The members of each struct of a schema are a version: their tags rise, and their types are over what is declared.
use Rattle.std.proofs.Common.{◌≡◌, ◌≤◌, ℕ, List, [], ◌∷◌, length, get_or, refl, sym, ap, subst, ◌∙◌, arith, length-append}
use Rattle.std.specs.List.{All}
use Rattle.tars_model.specs.Declarations.{Declared, members_at, struct_members, with_struct, with_enum, with_const, with_key, with_interface}
use Rattle.tars_model.specs.Schemas.{IsSchema, IsTypeIn, StructFits}
use Rattle.tars_model.specs.Types.{IsType, type_depth, depths_of}
use Rattle.tars_model.specs.declared.enum_desc.EnumDesc.{EnumDesc}
use Rattle.tars_model.specs.declared.member.Member.{Member}
use Rattle.tars_model.specs.declared.struct_desc.StructDesc.{StructDesc}
use Rattle.tars_model.specs.declared.ty.Ty.{Ty}
use Rattle.tars_decode.proofs.CallerLemmas.{struct_members_fit}
use Rattle.tars_versions.specs.Agreement.{IsVersion}
use Rattle.tars_versions.proofs.SchemaTypes.{depth_stays, depths_more, depths_length, by_number}

-- a type over some declarations is one over more
type_stays : (enums structs more_enums more_structs : ℕ) {t : Ty} → enums ≤ more_enums → structs ≤ more_structs → IsType enums structs t → IsType more_enums more_structs t
type_stays a b c e few_enums few_structs (IsType.plain p) = IsType.plain p
type_stays a b c e few_enums few_structs (IsType.enum is lt) = IsType.enum is (omega arith)
type_stays a b c e few_enums few_structs (IsType.struct is lt) = IsType.struct is (omega arith)
type_stays a b c e few_enums few_structs (IsType.vector is other of_type) = IsType.vector is other (type_stays a b c e few_enums few_structs of_type)
type_stays a b c e few_enums few_structs (IsType.map is key_is key_type to_type) =
    IsType.map is key_is (type_stays a b c e few_enums few_structs key_type) (type_stays a b c e few_enums few_structs to_type)

-- there are more declarations, and the types over those before are as deep as they were
record IsMore (d e : Declared) : Type 0 where
  enums : length d.enums ≤ length e.enums
  structs : length d.structs ≤ length e.structs
  depths : (t : Ty) → IsType (length d.enums) (length d.structs) t → type_depth (depths_of e.structs) t ≡ type_depth (depths_of d.structs) t

type_in_stays : (d e : Declared) (t : Ty) → IsMore d e → IsTypeIn d t → IsTypeIn e t
type_in_stays d e t more type =
    let same = more.depths t type.is_type in
    let bounded = type.bounded in
    record { is_type = type_stays (length d.enums) (length d.structs) (length e.enums) (length e.structs) more.enums more.structs type.is_type; shallow = type.shallow; bounded = omega (arith, same, bounded) }

one_struct_more : (d : Declared) (s : StructDesc) → IsMore d (with_struct d s)
one_struct_more d s =
    let counted = depths_length [] d.structs in
    record {
      enums = omega arith;
      structs = omega (arith, length-append d.structs (s ∷ []));
      depths = λ t type.
          ap (λ (depths : List ℕ). type_depth depths t) (depths_more [] d.structs s)
          ∙ depth_stays (depths_of d.structs) (_ ∷ []) (length d.enums) (length d.structs) (omega (arith, counted)) type;
    }

one_enum_more : (d : Declared) (x : EnumDesc) → IsMore d (with_enum d x)
one_enum_more d x = record { enums = omega (arith, length-append d.enums (x ∷ [])); structs = omega arith; depths = λ t type. refl }

abbrev AreTyped : Declared → Type 0
AreTyped d = (number : ℕ) → All (λ (m : Member). IsTypeIn d m.ty) (members_at d number)

all_stay : (d e : Declared) (ms : List Member) → IsMore d e → All (λ (m : Member). IsTypeIn d m.ty) ms → All (λ (m : Member). IsTypeIn e m.ty) ms
all_stay d e ms more all k m within = type_in_stays d e (get_or ms k m).ty more (all k m within)

struct_typed : (d : Declared) (s : StructDesc) → StructFits d s → AreTyped d → AreTyped (with_struct d s)
struct_typed d s fits typed =
    let more = one_struct_more d s in
    let e = with_struct d s in
    by_number (λ k o. All (λ (m : Member). IsTypeIn e m.ty) (struct_members o)) d.structs s
    (all_stay d e s.members more (λ k m within. let f = fits.members k m within in f.ty))
    (λ k i m within. absurd (omega arith))
    (λ number. all_stay d e (members_at d number) more (typed number))

all_typed : {d : Declared} → IsSchema d → AreTyped d
all_typed {d} (IsSchema.nothing is) = subst AreTyped (sym is) (λ number k m within. absurd (omega arith))
all_typed (IsSchema.struct {d = d} {s = s} schema fits is) = subst AreTyped (sym is) (struct_typed d s fits (all_typed schema))
all_typed (IsSchema.enum {d = d} {desc = x} schema fits is) =
    subst AreTyped (sym is) (λ number. all_stay d (with_enum d x) (members_at d number) (one_enum_more d x) (all_typed schema number))
all_typed (IsSchema.const {d = d} {c = x} schema fits is) =
    subst AreTyped (sym is) (λ number. all_stay d (with_const d x) (members_at d number) (record { enums = omega arith; structs = omega arith; depths = λ t type. refl }) (all_typed schema number))
all_typed (IsSchema.key {d = d} {k = x} schema fits is) =
    subst AreTyped (sym is) (λ number. all_stay d (with_key d x) (members_at d number) (record { enums = omega arith; structs = omega arith; depths = λ t type. refl }) (all_typed schema number))
all_typed (IsSchema.interface {d = d} {i = x} schema fits is) =
    subst AreTyped (sym is) (λ number. all_stay d (with_interface d x) (members_at d number) (record { enums = omega arith; structs = omega arith; depths = λ t type. refl }) (all_typed schema number))

pub struct_is_version : {d : Declared} → IsSchema d → (number : ℕ) → IsVersion d (members_at d number)
struct_is_version schema number = record { rising = (struct_members_fit schema number).rising; types = all_typed schema number }
