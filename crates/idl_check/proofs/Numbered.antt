-- A declared struct or enum is found by its name, under its own number.
use Rattle.std.proofs.Common.{◌≡◌, ◌≢◌, ◌+◌, ℕ, zero, suc, Bool, true, false, ◌&&◌, cond, ◌⊎◌, inl, inr, Some, None, List, [], ◌∷◌, ◌++◌, length, map, refl, sym, ap, ◌∙◌, subst, arith}
use Rattle.std.proofs.lemmas.List.Elements.{recursion_from_All}
use Rattle.std.proofs.lemmas.Slice.Eq.{bytes_eq-Decides}
use Rattle.std.specs.List.{AllByRecursion, position_from}
use Rattle.std.specs.Prelude.{slice_get}
use Rattle.std.specs.Str.{bytes_eq}
use Rattle.tars_model.specs.Declarations.{Declared, nothing_declared, with_struct, with_enum}
use Rattle.tars_model.specs.Schemas.{declared_names, IsNew, IsSchema, nothing, struct, enum, const, key, interface}
use Rattle.tars_model.specs.declared.const_desc.ConstDesc.{ConstDesc}
use Rattle.tars_model.specs.declared.enum_desc.EnumDesc.{EnumDesc}
use Rattle.tars_model.specs.declared.interface_desc.InterfaceDesc.{InterfaceDesc}
use Rattle.tars_model.specs.declared.struct_desc.StructDesc.{StructDesc}
use Rattle.idl_schema.specs.SchemaOf.{struct_number, enum_number}
use Rattle.idl_schema.proofs.Growing.{or_new, position_more}
use Rattle.idl_schema.proofs.Parts.{each_parts}

-- ---- names of modules

-- a module and a name in it
abbrev pub Name : Type 0
Name = List ℕ × List ℕ

abbrev pub struct_names : Declared → List Name
struct_names d = map (λ (s : StructDesc). (s.«module», s.name)) d.structs

abbrev pub enum_names : Declared → List Name
enum_names d = map (λ (e : EnumDesc). (e.«module», e.name)) d.enums

abbrev pub const_names : Declared → List Name
const_names d = map (λ (c : ConstDesc). (c.«module», c.name)) d.consts

abbrev pub interface_names : Declared → List Name
interface_names d = map (λ (i : InterfaceDesc). (i.«module», i.name)) d.interfaces

-- what holds of the names of each sort
pub record EachName (P : Name → Type 0) (d : Declared) : Type 0 where
  pub structs : AllByRecursion P (struct_names d)
  pub enums : AllByRecursion P (enum_names d)
  pub consts : AllByRecursion P (const_names d)
  pub interfaces : AllByRecursion P (interface_names d)

pub each_name : (P : Name → Type 0) (d : Declared) → AllByRecursion P (declared_names d) → EachName P d
each_name P d all =
    let last = each_parts P (struct_names d ++ enum_names d ++ const_names d) (interface_names d) all in
    let third = each_parts P (struct_names d ++ enum_names d) (const_names d) last.0 in
    let second = each_parts P (struct_names d) (enum_names d) third.0 in
    record { structs = second.0; enums = second.1; consts = third.1; interfaces = last.1 }

pub names_before : (d : Declared) (home name : List ℕ) → IsNew d home name → EachName (λ n. n ≢ (home, name)) d
names_before d home name new = each_name (λ n. n ≢ (home, name)) d (recursion_from_All (λ n. n ≢ (home, name)) (declared_names d) new.is_new)

-- ---- tests of names

both_true : (a b : Bool) → (a && b) ≡ true → (a ≡ true) × (b ≡ true)
both_true true b e = (refl, e)
both_true false b e = cc

pub same_name : (h n home name : List ℕ) → (bytes_eq h home && bytes_eq n name) ≡ true → (h ≡ home) × (n ≡ name)
same_name h n home name e =
    let two = both_true (bytes_eq h home) (bytes_eq n name) e in
    ((bytes_eq-Decides h home).0 two.0, (bytes_eq-Decides n name).0 two.1)

pub its_name : (home name : List ℕ) → (bytes_eq home home && bytes_eq name name) ≡ true
its_name home name = ap (λ b. b && bytes_eq name name) ((bytes_eq-Decides home home).1 refl) ∙ (bytes_eq-Decides name name).1 refl

pub other_name : (h n : List ℕ) (m : Name) → m ≢ (h, n) → (bytes_eq h m.0 && bytes_eq n m.1) ≡ false
other_name h n m other = by_test (bytes_eq h m.0 && bytes_eq n m.1) refl
  where
    by_test : (b : Bool) → (bytes_eq h m.0 && bytes_eq n m.1) ≡ b → b ≡ false
    by_test false e = refl
    by_test true e =
        let same = same_name h n m.0 m.1 e in
        absurd (other (ap (λ a. (a, m.1)) (sym same.0) ∙ ap (λ a. (h, a)) (sym same.1)))

-- where no name is that, none is found
pub no_position : {X : Type 0} (of : X → Name) (h n : List ℕ) (at : ℕ) (xs : List X) → AllByRecursion (λ m. m ≢ (h, n)) (map of xs) → position_from (λ x. bytes_eq h (of x).0 && bytes_eq n (of x).1) at xs ≡ None
no_position of h n at [] each = refl
no_position of h n at (x ∷ xs) each =
    ap (λ b. cond b (Some at) (position_from (λ x. bytes_eq h (of x).0 && bytes_eq n (of x).1) (at + 1) xs)) (other_name h n (of x) each.0)
    ∙ no_position of h n (at + 1) xs each.1

pub the_same : {X : Type 0} (x y : X) → Some x ≡ Some y → x ≡ y
the_same x y e = cc

-- one more, or one of those before
pub got : {X : Type 0} (xs : List X) (x : X) (k : ℕ) (y : X) → slice_get (xs ++ x ∷ []) k ≡ Some y → (slice_get xs k ≡ Some y) ⊎ ((k ≡ length xs) × (y ≡ x))
got [] x zero y e = inr (refl, sym (the_same x y e))
got [] x (suc k) y e = cc
got (z ∷ xs) x zero y e = inl e
got (z ∷ xs) x (suc k) y e = next (got xs x k y e)
  where
    next : (slice_get xs k ≡ Some y) ⊎ ((k ≡ length xs) × (y ≡ x)) → (slice_get xs k ≡ Some y) ⊎ ((suc k ≡ suc (length xs)) × (y ≡ x))
    next (inl there) = inl there
    next (inr last) = inr (ap (λ (n : ℕ). suc n) last.0, last.1)

pub each_got : {X : Type 0} (of : X → Name) (P : Name → Type 0) (xs : List X) (k : ℕ) (x : X) → slice_get xs k ≡ Some x → AllByRecursion P (map of xs) → P (of x)
each_got of P [] k x e each = cc
each_got of P (y ∷ xs) zero x e each = subst (λ z. P (of z)) (the_same y x e) each.0
each_got of P (y ∷ xs) (suc k) x e each = each_got of P xs k x e each.1

-- ---- numbers

-- names are those of one struct or enum each
pub record Numbered (d : Declared) : Type 0 where
  pub structs : (k : ℕ) (s : StructDesc) → slice_get d.structs k ≡ Some s → struct_number d s.«module» s.name ≡ Some k
  pub enums : (k : ℕ) (e : EnumDesc) → slice_get d.enums k ≡ Some e → (struct_number d e.«module» e.name ≡ None) × (enum_number d e.«module» e.name ≡ Some k)

nothing_numbered : Numbered nothing_declared
nothing_numbered = record { structs = λ k s e. no_such s e; enums = λ k x e. no_such x e }
  where
    no_such : {A X : Type 0} (x : X) → None ≡ Some x → A
    no_such x e = absurd cc

zero_more : (n : ℕ) → 0 + n ≡ n
zero_more n = omega arith

pub struct_number_more : (d : Declared) (x : StructDesc) (h n : List ℕ) → struct_number (with_struct d x) h n ≡ or_new (struct_number d h n) (bytes_eq h x.«module» && bytes_eq n x.name) (length d.structs)
struct_number_more d x h n = position_more (λ (s : StructDesc). bytes_eq h s.«module» && bytes_eq n s.name) 0 d.structs x ∙ ap (or_new (struct_number d h n) (bytes_eq h x.«module» && bytes_eq n x.name)) (zero_more (length d.structs))

module _ (d : Declared) (numbered : Numbered d) where
  module _ (x : StructDesc) (new : IsNew d x.«module» x.name) where
    abbrev is_struct : List ℕ → List ℕ → Bool
    is_struct h n = bytes_eq h x.«module» && bytes_eq n x.name

    no_struct_yet : struct_number d x.«module» x.name ≡ None
    no_struct_yet = no_position (λ (s : StructDesc). (s.«module», s.name)) x.«module» x.name 0 d.structs (names_before d x.«module» x.name new).structs

    more_structs : (k : ℕ) (s : StructDesc) → slice_get (d.structs ++ x ∷ []) k ≡ Some s → struct_number (with_struct d x) s.«module» s.name ≡ Some k
    more_structs k s e = by_place (got d.structs x k s e)
      where
        by_place : (slice_get d.structs k ≡ Some s) ⊎ ((k ≡ length d.structs) × (s ≡ x)) → struct_number (with_struct d x) s.«module» s.name ≡ Some k
        by_place (inl there) = struct_number_more d x s.«module» s.name ∙ ap (λ o. or_new o (is_struct s.«module» s.name) (length d.structs)) (numbered.structs k s there)
        by_place (inr last) =
            ap (λ (s : StructDesc). struct_number (with_struct d x) s.«module» s.name) last.1 ∙ struct_number_more d x x.«module» x.name
            ∙ ap (λ o. or_new o (is_struct x.«module» x.name) (length d.structs)) no_struct_yet
            ∙ ap (λ b. or_new None b (length d.structs)) (its_name x.«module» x.name) ∙ ap (λ n. Some n) (sym last.0)

    struct_numbered : Numbered (with_struct d x)
    struct_numbered = record {
      structs = more_structs;
      enums = λ k y e. (
        struct_number_more d x y.«module» y.name ∙ ap (λ o. or_new o (is_struct y.«module» y.name) (length d.structs)) (numbered.enums k y e).0
            ∙ ap (λ b. or_new None b (length d.structs)) (other_name y.«module» y.name (x.«module», x.name)
            (λ is. each_got (λ (e : EnumDesc). (e.«module», e.name)) (λ n. n ≢ (x.«module», x.name)) d.enums k y e (names_before d x.«module» x.name new).enums (sym is))),
        (numbered.enums k y e).1,
      );
    }

  module _ (x : EnumDesc) (new : IsNew d x.«module» x.name) where
    abbrev is_enum : List ℕ → List ℕ → Bool
    is_enum h n = bytes_eq h x.«module» && bytes_eq n x.name

    enum_number_more : (h n : List ℕ) → enum_number (with_enum d x) h n ≡ or_new (enum_number d h n) (is_enum h n) (length d.enums)
    enum_number_more h n = position_more (λ (s : EnumDesc). bytes_eq h s.«module» && bytes_eq n s.name) 0 d.enums x ∙ ap (or_new (enum_number d h n) (is_enum h n)) (zero_more (length d.enums))

    no_enum_yet : enum_number d x.«module» x.name ≡ None
    no_enum_yet = no_position (λ (s : EnumDesc). (s.«module», s.name)) x.«module» x.name 0 d.enums (names_before d x.«module» x.name new).enums

    more_enums : (k : ℕ) (y : EnumDesc) → slice_get (d.enums ++ x ∷ []) k ≡ Some y → (struct_number d y.«module» y.name ≡ None) × (enum_number (with_enum d x) y.«module» y.name ≡ Some k)
    more_enums k y e = by_place (got d.enums x k y e)
      where
        by_place : (slice_get d.enums k ≡ Some y) ⊎ ((k ≡ length d.enums) × (y ≡ x)) → (struct_number d y.«module» y.name ≡ None) × (enum_number (with_enum d x) y.«module» y.name ≡ Some k)
        by_place (inl there) = ((numbered.enums k y there).0, enum_number_more y.«module» y.name ∙ ap (λ o. or_new o (is_enum y.«module» y.name) (length d.enums)) (numbered.enums k y there).1)
        by_place (inr last) = (
          ap (λ (y : EnumDesc). struct_number d y.«module» y.name) last.1
              ∙ no_position (λ (s : StructDesc). (s.«module», s.name)) x.«module» x.name 0 d.structs (names_before d x.«module» x.name new).structs,
          ap (λ (y : EnumDesc). enum_number (with_enum d x) y.«module» y.name) last.1 ∙ enum_number_more x.«module» x.name
              ∙ ap (λ o. or_new o (is_enum x.«module» x.name) (length d.enums)) no_enum_yet
              ∙ ap (λ b. or_new None b (length d.enums)) (its_name x.«module» x.name) ∙ ap (λ n. Some n) (sym last.0),
        )

    enum_numbered : Numbered (with_enum d x)
    enum_numbered = record { structs = numbered.structs; enums = more_enums }

pub schema_numbered : {d : Declared} → IsSchema d → Numbered d
schema_numbered (nothing is) = subst Numbered (sym is) nothing_numbered
schema_numbered (struct {d = d} {s = s} made fits is) = subst Numbered (sym is) (struct_numbered d (schema_numbered made) s fits.name)
schema_numbered (enum {d = d} {desc = x} made fits is) = subst Numbered (sym is) (enum_numbered d (schema_numbered made) x fits.name)
schema_numbered (const {d = d} {c = c} made fits is) =
    let before = schema_numbered made in
    subst Numbered (sym is) (record { structs = before.structs; enums = before.enums })
schema_numbered (key {d = d} {k = k} made fits is) =
    let before = schema_numbered made in
    subst Numbered (sym is) (record { structs = before.structs; enums = before.enums })
schema_numbered (interface {d = d} {i = i} made fits is) =
    let before = schema_numbered made in
    subst Numbered (sym is) (record { structs = before.structs; enums = before.enums })
