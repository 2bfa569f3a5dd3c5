-- The members of a struct of a schema are of types that refer to structs before it alone.
use Rattle.std.proofs.Common.{◌≡◌, ◌<◌, ◌≤◌, ℕ, List, [], ◌∷◌, length, refl, sym, ap, ◌∙◌, subst, arith}
use Rattle.std.proofs.lemmas.List.Elements.{recursion_from_All}
use Rattle.std.specs.List.{AllByRecursion}
use Rattle.tars_model.specs.Declarations.{Declared, members_at}
use Rattle.tars_model.specs.Schemas.{IsSchema, MemberFits}
use Rattle.tars_model.specs.Types.{TyLayer, IsType, is_plain}
use Rattle.tars_model.specs.Types as types
use Rattle.tars_model.specs.declared.member.Member.{Member}
use Rattle.tars_model.specs.declared.ty.Ty.{Ty, out-Ty}
use Rattle.tars_model.specs.declared.ty.Ty.TheOpen as ty
use Rattle.value_text.proofs.Induction.{AllOf}
use Rattle.value_text.proofs.SchemaParts.{each_struct}
use Rattle.value_text.proofs.Signs.{true_is_not_false}

-- where the type is a struct, it is one of the first so many
abbrev pub IsBelow : ℕ → Ty → Type 0
IsBelow bound t = (k : ℕ) → out-Ty t ≡ ty.Struct k → k < bound

abbrev pub AreBelow : ℕ → List Member → Type 0
AreBelow bound ms = AllOf (λ (m : Member). IsBelow bound m.ty) ms

pub widen : (few many : ℕ) (ms : List Member) → few ≤ many → AreBelow few ms → AreBelow many ms
widen few many [] within all = tt
widen few many (m ∷ ms) within all = ((λ k is. let less = all.0 k is in omega arith), widen few many ms within all.1)

-- the struct that a layer is
abbrev AsStruct : ℕ → TyLayer → Type 0
AsStruct number (ty.Struct k) = k ≡ number
AsStruct number l = ⊥

as_struct : (l : TyLayer) (k : ℕ) → l ≡ ty.Struct k → AsStruct k l
as_struct l k is = subst (AsStruct k) (sym is) refl

type_below : (enums structs : ℕ) (t : Ty) → IsType enums structs t → IsBelow structs t
type_below enums structs t (types.plain is) k struct_is = absurd (true_is_not_false (sym is ∙ ap is_plain struct_is))
type_below enums structs t (types.enum is less) k struct_is = absurd (subst (AsStruct k) is (as_struct (out-Ty t) k struct_is))
type_below enums structs t (types.struct is less) k struct_is = subst (λ (n : ℕ). n < structs) (subst (AsStruct k) is (as_struct (out-Ty t) k struct_is)) less
type_below enums structs t (types.vector is other of) k struct_is = absurd (subst (AsStruct k) is (as_struct (out-Ty t) k struct_is))
type_below enums structs t (types.map is is_key key value) k struct_is = absurd (subst (AsStruct k) is (as_struct (out-Ty t) k struct_is))

members_below : (d : Declared) (ms : List Member) → AllByRecursion (MemberFits d) ms → AreBelow (length d.structs) ms
members_below d [] all = tt
members_below d (m ∷ ms) all = (type_below (length d.enums) (length d.structs) m.ty all.0.ty.is_type, members_below d ms all.1)

pub schema_below : (d : Declared) → IsSchema d → (k : ℕ) → AreBelow k (members_at d k)
schema_below = each_struct AreBelow (λ k. tt) (λ d s fits. members_below d s.members (recursion_from_All (MemberFits d) s.members fits.members))
