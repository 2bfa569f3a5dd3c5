-- What holds of each struct and each enum of a schema, where it holds when it is declared.
use Rattle.std.proofs.Common.{ℕ, zero, suc, List, [], ◌∷◌, ◌++◌, length, Option, Some, None, sym, subst}
use Rattle.std.specs.Prelude.{slice_get}
use Rattle.tars_model.specs.Declarations.{Declared, members_at, struct_members, items_at, enum_items}
use Rattle.tars_model.specs.Schemas.{IsSchema, StructFits, EnumFits}
use Rattle.tars_model.specs.Schemas as schemas
use Rattle.tars_model.specs.declared.enum_desc.EnumDesc.{EnumDesc}
use Rattle.tars_model.specs.declared.enum_desc.Item.{Item}
use Rattle.tars_model.specs.declared.member.Member.{Member}
use Rattle.tars_model.specs.declared.struct_desc.StructDesc.{StructDesc}

-- of all by their numbers, and of one more
one_more : {X : Type 0} (P : ℕ → Option X → Type 0) → ((k : ℕ) → P k None) → (xs : List X) (x : X) → ((k : ℕ) → P k (slice_get xs k)) → P (length xs) (Some x) → (k : ℕ) → P k (slice_get (xs ++ x ∷ []) k)
one_more P none [] x all last zero = last
one_more P none [] x all last (suc k) = none (suc k)
one_more P none (y ∷ xs) x all last zero = all zero
one_more P none (y ∷ xs) x all last (suc k) = one_more (λ k o. P (suc k) o) (λ k. none (suc k)) xs x (λ k. all (suc k)) last k

module _ (P : ℕ → List Member → Type 0) (none : (k : ℕ) → P k []) (new : (d : Declared) (s : StructDesc) → StructFits d s → P (length d.structs) s.members) where
  abbrev OfStructs : List StructDesc → Type 0
  OfStructs structs = (k : ℕ) → P k (struct_members (slice_get structs k))

  pub each_struct : (d : Declared) → IsSchema d → (k : ℕ) → P k (members_at d k)
  each_struct d (schemas.nothing is) = subst (λ (d : Declared). OfStructs d.structs) (sym is) none
  each_struct e (schemas.struct {d = d} {s = s} schema fits is) =
      subst (λ (d : Declared). OfStructs d.structs) (sym is) (one_more (λ (k : ℕ) (s : Option StructDesc). P k (struct_members s)) none d.structs s (each_struct d schema) (new d s fits))
  each_struct e (schemas.enum {d = d} schema fits is) = subst (λ (d : Declared). OfStructs d.structs) (sym is) (each_struct d schema)
  each_struct e (schemas.const {d = d} schema fits is) = subst (λ (d : Declared). OfStructs d.structs) (sym is) (each_struct d schema)
  each_struct e (schemas.key {d = d} schema fits is) = subst (λ (d : Declared). OfStructs d.structs) (sym is) (each_struct d schema)
  each_struct e (schemas.interface {d = d} schema fits is) = subst (λ (d : Declared). OfStructs d.structs) (sym is) (each_struct d schema)

module _ (P : List Item → Type 0) (none : P []) (new : (d : Declared) (e : EnumDesc) → EnumFits d e → P e.items) where
  abbrev OfEnums : List EnumDesc → Type 0
  OfEnums enums = (k : ℕ) → P (enum_items (slice_get enums k))

  pub each_enum : (d : Declared) → IsSchema d → (k : ℕ) → P (items_at d k)
  each_enum d (schemas.nothing is) = subst (λ (d : Declared). OfEnums d.enums) (sym is) (λ k. none)
  each_enum e (schemas.enum {d = d} {desc = desc} schema fits is) =
      subst (λ (d : Declared). OfEnums d.enums) (sym is) (one_more (λ (k : ℕ) (e : Option EnumDesc). P (enum_items e)) (λ k. none) d.enums desc (each_enum d schema) (new d desc fits))
  each_enum e (schemas.struct {d = d} schema fits is) = subst (λ (d : Declared). OfEnums d.enums) (sym is) (each_enum d schema)
  each_enum e (schemas.const {d = d} schema fits is) = subst (λ (d : Declared). OfEnums d.enums) (sym is) (each_enum d schema)
  each_enum e (schemas.key {d = d} schema fits is) = subst (λ (d : Declared). OfEnums d.enums) (sym is) (each_enum d schema)
  each_enum e (schemas.interface {d = d} schema fits is) = subst (λ (d : Declared). OfEnums d.enums) (sym is) (each_enum d schema)
