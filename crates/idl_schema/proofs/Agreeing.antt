-- What is known and what is declared stay the same, one declaration more.
use Rattle.std.proofs.Common.{◌≡◌, ◌<◌, ◌≤◌, ◌+◌, ℕ, suc, Bool, true, false, Option, Some, None, List, [], ◌∷◌, length, map, slice_index, refl, sym, ap, ◌∙◌, subst, arith, length-append}
use Rattle.std.specs.List.{AllByRecursion}
use Rattle.std.specs.Prelude.{slice_get}
use Rattle.tars_model.specs.Declarations.{Declared, with_struct, with_enum, members_at, items_at, struct_members, enum_items}
use Rattle.tars_model.specs.Schemas.{add_up, value_size, NamesMember}
use Rattle.tars_model.specs.Types.{deepest, depths_of}
use Rattle.tars_model.specs.Values.{is_signed}
use Rattle.tars_model.specs.declared.enum_desc.EnumDesc.{EnumDesc}
use Rattle.tars_model.specs.declared.enum_desc.Item.{Item as Enumerator}
use Rattle.tars_model.specs.declared.member.Member.{Member}
use Rattle.tars_model.specs.declared.struct_desc.StructDesc.{StructDesc}
use Rattle.idl_scene.specs.Known.{Meaning, a_struct, an_enum, no_type, each_once}
use Rattle.idl_scene.specs.Types.{is_type}
use Rattle.idl_schema.specs.Agreement.{StructIs, EnumIs, MeansIn, struct_meant, enum_meant, no_type_meant}
use Rattle.idl_schema.proofs.Growing.{or_new, get_kept, get_new, depth_kept, depth_new}

-- ---- what is said of structs and enums

one_more : (n k : ℕ) → n < k → n < k + 1
one_more n k less = omega arith

pub struct_kept : (d : Declared) (x : StructDesc) (number depth size : ℕ) (names : List (List ℕ)) → StructIs d number depth size names → StructIs (with_struct d x) number depth size names
struct_kept d x number depth size names st =
    let longer = length-append d.structs (x ∷ []) in
    let same : members_at (with_struct d x) number ≡ members_at d number = ap struct_members (get_kept d.structs x number st.within) in
    record {
      within = let less = st.within in omega arith;
      deep = depth_kept d.structs x number st.within ∙ st.deep;
      shallow = st.shallow;
      sized = ap (λ ms. suc (add_up (map (λ (m : Member). value_size m.default) ms))) same ∙ st.sized;
      named = subst (λ ms. AllByRecursion (NamesMember ms) names) (sym same) st.named;
    }

pub struct_new : (d : Declared) (x : StructDesc) (depth size : ℕ) (names : List (List ℕ)) → depth ≡ suc (deepest (depths_of d.structs) x.members) → depth ≤ 32
    → size ≡ suc (add_up (map (λ (m : Member). value_size m.default) x.members)) → AllByRecursion (NamesMember x.members) names → StructIs (with_struct d x) (length d.structs) depth size names
struct_new d x depth size names deep shallow sized named =
    let longer = length-append d.structs (x ∷ []) in
    let same : members_at (with_struct d x) (length d.structs) ≡ x.members = ap struct_members (get_new d.structs x) in
    record {
      within = omega arith;
      deep = depth_new d.structs x ∙ sym deep;
      shallow = shallow;
      sized = ap (λ ms. suc (add_up (map (λ (m : Member). value_size m.default) ms))) same ∙ sym sized;
      named = subst (λ ms. AllByRecursion (NamesMember ms) names) (sym same) named;
    }

pub enum_kept : (d : Declared) (x : EnumDesc) (number : ℕ) (names : List (List ℕ)) → EnumIs d number names → EnumIs (with_enum d x) number names
enum_kept d x number names en =
    let longer = length-append d.enums (x ∷ []) in
    let same : items_at (with_enum d x) number ≡ items_at d number = ap enum_items (get_kept d.enums x number en.within) in
    record {
      within = let less = en.within in omega arith;
      named = ap (λ is. each_once (map (λ (i : Enumerator). i.name) is)) same ∙ en.named;
      ints = subst (λ is. AllByRecursion (λ (i : Enumerator). is_signed 31 i.number ≡ true) is) (sym same) en.ints;
    }

pub enum_new : (d : Declared) (x : EnumDesc) (names : List (List ℕ)) → each_once (map (λ (i : Enumerator). i.name) x.items) ≡ names → AllByRecursion (λ (i : Enumerator). is_signed 31 i.number ≡ true) x.items
    → EnumIs (with_enum d x) (length d.enums) names
enum_new d x names named ints =
    let longer = length-append d.enums (x ∷ []) in
    let same : items_at (with_enum d x) (length d.enums) ≡ x.items = ap enum_items (get_new d.enums x) in
    record {
      within = omega arith;
      named = ap (λ is. each_once (map (λ (i : Enumerator). i.name) is)) same ∙ named;
      ints = subst (λ is. AllByRecursion (λ (i : Enumerator). is_signed 31 i.number ≡ true) is) (sym same) ints;
    }

-- other declarations change neither
pub record SameTypes (d e : Declared) : Type 0 where
  pub structs : e.structs ≡ d.structs
  pub enums : e.enums ≡ d.enums

module _ (d e : Declared) (same : SameTypes d e) where
  struct_moved : (number depth size : ℕ) (names : List (List ℕ)) → StructIs d number depth size names → StructIs e number depth size names
  struct_moved number depth size names st = record {
    within = subst (λ (l : List StructDesc). number < length l) (sym same.structs) st.within;
    deep = ap (λ l. slice_index (depths_of l) number) same.structs ∙ st.deep;
    shallow = st.shallow;
    sized = ap (λ l. suc (add_up (map (λ (m : Member). value_size m.default) (struct_members (slice_get l number))))) same.structs ∙ st.sized;
    named = subst (λ (l : List StructDesc). AllByRecursion (NamesMember (struct_members (slice_get l number))) names) (sym same.structs) st.named;
  }

  enum_moved : (number : ℕ) (names : List (List ℕ)) → EnumIs d number names → EnumIs e number names
  enum_moved number names en = record {
    within = subst (λ (l : List EnumDesc). number < length l) (sym same.enums) en.within;
    named = ap (λ l. each_once (map (λ (i : Enumerator). i.name) (enum_items (slice_get l number)))) same.enums ∙ en.named;
    ints = subst (λ (l : List EnumDesc). AllByRecursion (λ (i : Enumerator). is_signed 31 i.number ≡ true) (enum_items (slice_get l number))) (sym same.enums) en.ints;
  }

-- ---- what a name means then

clash : {A : Type 0} (m : Option Meaning) (x : Meaning) → m ≡ Some x → m ≡ None → A
clash None x a b = absurd cc
clash (Some y) x a b = absurd cc

no_new : {A : Type 0} (m : Option A) (x : A) → or_new m false x ≡ m
no_new None x = refl
no_new (Some y) x = refl

no_type_new : (m : Option Meaning) (b : Bool) → is_type m ≡ false → is_type (or_new m b no_type) ≡ false
no_type_new None true e = refl
no_type_new None false e = refl
no_type_new (Some y) b e = e

pub means_struct : (d : Declared) (x : StructDesc) (depth size : ℕ) (names : List (List ℕ)) → StructIs (with_struct d x) (length d.structs) depth size names → (m : Option Meaning) (s e : Option ℕ) (b : Bool) → (b ≡ true → m ≡ None)
    → MeansIn d m s e → MeansIn (with_struct d x) (or_new m b (a_struct depth size names)) (or_new s b (length d.structs)) e
means_struct d x depth size names new m s e b only (struct_meant {number = number} {depth = dp} {size = sz} {members = ns} is_m is_s st) =
    struct_meant (ap (λ o. or_new o b (a_struct depth size names)) is_m) (ap (λ o. or_new o b (length d.structs)) is_s) (struct_kept d x number dp sz ns st)
means_struct d x depth size names new m s e true only (enum_meant is_m no_struct is_e en) = clash m _ is_m (only refl)
means_struct d x depth size names new m s e false only (enum_meant {number = number} {names = ns} is_m no_struct is_e en) =
    enum_meant (no_new m (a_struct depth size names) ∙ is_m) (no_new s (length d.structs) ∙ no_struct) is_e (record { within = en.within; named = en.named; ints = en.ints })
means_struct d x depth size names new m s e true only (no_type_meant none no_struct no_enum) =
    struct_meant (ap (λ o. or_new o true (a_struct depth size names)) (only refl)) (ap (λ o. or_new o true (length d.structs)) no_struct) new
means_struct d x depth size names new m s e false only (no_type_meant none no_struct no_enum) =
    no_type_meant (ap is_type (no_new m (a_struct depth size names)) ∙ none) (no_new s (length d.structs) ∙ no_struct) no_enum

pub means_enum : (d : Declared) (x : EnumDesc) (names : List (List ℕ)) → EnumIs (with_enum d x) (length d.enums) names → (m : Option Meaning) (s e : Option ℕ) (b : Bool) → (b ≡ true → m ≡ None)
    → MeansIn d m s e → MeansIn (with_enum d x) (or_new m b (an_enum names)) s (or_new e b (length d.enums))
means_enum d x names new m s e b only (enum_meant {number = number} {names = ns} is_m no_struct is_e en) =
    enum_meant (ap (λ o. or_new o b (an_enum names)) is_m) no_struct (ap (λ o. or_new o b (length d.enums)) is_e) (enum_kept d x number ns en)
means_enum d x names new m s e b only (struct_meant {number = number} is_m is_s st) =
    struct_meant (ap (λ o. or_new o b (an_enum names)) is_m) is_s (record { within = st.within; deep = st.deep; shallow = st.shallow; sized = st.sized; named = st.named })
means_enum d x names new m s e true only (no_type_meant none no_struct no_enum) =
    enum_meant (ap (λ o. or_new o true (an_enum names)) (only refl)) no_struct (ap (λ o. or_new o true (length d.enums)) no_enum) new
means_enum d x names new m s e false only (no_type_meant none no_struct no_enum) =
    no_type_meant (ap is_type (no_new m (an_enum names)) ∙ none) no_struct (no_new e (length d.enums) ∙ no_enum)

pub means_other : (d e : Declared) → SameTypes d e → (m : Option Meaning) (sn en : Option ℕ) (b : Bool) → MeansIn d m sn en → MeansIn e (or_new m b no_type) sn en
means_other d e same m sn en b (struct_meant {number = number} {depth = dp} {size = sz} {members = ns} is_m is_s st) = struct_meant (ap (λ o. or_new o b no_type) is_m) is_s (struct_moved d e same number dp sz ns st)
means_other d e same m sn en b (enum_meant {number = number} {names = ns} is_m no_struct is_e enum) = enum_meant (ap (λ o. or_new o b no_type) is_m) no_struct is_e (enum_moved d e same number ns enum)
means_other d e same m sn en b (no_type_meant none no_struct no_enum) = no_type_meant (no_type_new m b none) no_struct no_enum

pub means_same : (d e : Declared) → SameTypes d e → (m : Option Meaning) (sn en : Option ℕ) → MeansIn d m sn en → MeansIn e m sn en
means_same d e same m sn en (struct_meant {number = number} {depth = dp} {size = sz} {members = ns} is_m is_s st) = struct_meant is_m is_s (struct_moved d e same number dp sz ns st)
means_same d e same m sn en (enum_meant {number = number} {names = ns} is_m no_struct is_e enum) = enum_meant is_m no_struct is_e (enum_moved d e same number ns enum)
means_same d e same m sn en (no_type_meant none no_struct no_enum) = no_type_meant none no_struct no_enum
