-- What a schema keeps: the tags of each struct's members rise, and each default is one of its type.
use Rattle.std.proofs.Common.{ℕ, zero, suc, List, [], ◌∷◌, ◌++◌, Option, Some, None, sym, subst}
use Rattle.std.specs.Prelude.{slice_get}
use Rattle.tars_model.specs.Declarations.{Declared, members_at, struct_members}
use Rattle.tars_model.specs.Members.{HaveRisingTags}
use Rattle.tars_model.specs.Schemas.{IsSchema}
use Rattle.tars_model.specs.Schemas.IsSchema.{nothing, struct, enum, const, key, interface}
use Rattle.tars_model.specs.declared.struct_desc.StructDesc.{StructDesc}

-- ---- the structs and enums of a schema, one by one

pub one_more : {A : Type 0} (P : Option A → Type 0) (xs : List A) (x : A) → P (Some x) → P None → ((n : ℕ) → P (slice_get xs n)) → (n : ℕ) → P (slice_get (xs ++ x ∷ []) n)
one_more P [] x here none each zero = here
one_more P [] x here none each (suc n) = none
one_more P (y ∷ ys) x here none each zero = each zero
one_more P (y ∷ ys) x here none each (suc n) = one_more P ys x here none (λ k. each (suc k)) n

RisingIn : Option StructDesc → Type 0
RisingIn s = HaveRisingTags (struct_members s)

pub structs_rise : {d : Declared} → IsSchema d → (n : ℕ) → HaveRisingTags (members_at d n)
unfolding RisingIn
structs_rise {d} (nothing e) n = subst (λ (d : Declared). HaveRisingTags (members_at d n)) (sym e) tt
structs_rise (struct {d = d} {s = s} schema fits e) n =
    subst (λ (d : Declared). HaveRisingTags (members_at d n)) (sym e) (one_more RisingIn d.structs s fits.rising tt (λ k. structs_rise schema k) n)
structs_rise (enum {d = d} {desc = x} schema fits e) n = subst (λ (d : Declared). HaveRisingTags (members_at d n)) (sym e) (structs_rise schema n)
structs_rise (const {d = d} {c = x} schema fits e) n = subst (λ (d : Declared). HaveRisingTags (members_at d n)) (sym e) (structs_rise schema n)
structs_rise (key {d = d} {k = x} schema fits e) n = subst (λ (d : Declared). HaveRisingTags (members_at d n)) (sym e) (structs_rise schema n)
structs_rise (interface {d = d} {i = x} schema fits e) n = subst (λ (d : Declared). HaveRisingTags (members_at d n)) (sym e) (structs_rise schema n)
