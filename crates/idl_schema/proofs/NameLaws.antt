-- What is found in the table of names is what is found in the list of its names.
use Rattle.std.proofs.Common.{◌≡◌, ℕ, ◌+◌, Bool, true, false, cond, ◌||◌, ◌<◌, Option, Some, None, List, [], ◌∷◌, ◌++◌, length, map, refl, sym, ap, ◌∙◌, arith, if◌then◌else◌, IfSome}
use Rattle.std.proofs.lemmas.List.{map-append, length-map}
use Rattle.std.specs.List.{list_any, position_from}
use Rattle.tars_model.specs.declared.enum_desc.EnumDesc.{EnumDesc}
use Rattle.tars_model.specs.declared.struct_desc.StructDesc.{StructDesc}
use Rattle.idl_schema.specs.Naming.{is_name, IsNamed}
use Rattle.idl_schema.specs.declared.building.Building.{Building}
use Rattle.idl_schema.specs.SchemaOf.{struct_number, enum_number}

module _ {A B : Type 0} (f : A → B) (test : A → Bool) (other : B → Bool) (same : (x : A) → test x ≡ other (f x)) where
  -- a place among values, and among what they stand for
  pub position_mapped : (i : ℕ) (xs : List A) → position_from test i xs ≡ position_from other i (map f xs)
  position_mapped i [] = refl
  position_mapped i (x ∷ xs) = ap (λ b. cond b (Some i) (position_from test (i + 1) xs)) (same x) ∙ ap (cond (other (f x)) (Some i)) (position_mapped (i + 1) xs)

  any_mapped : (xs : List A) → list_any test xs ≡ list_any other (map f xs)
  any_mapped [] = refl
  any_mapped (x ∷ xs) = ap (λ b. b || list_any test xs) (same x) ∙ ap (λ b. other (f x) || b) (any_mapped xs)

  -- a value that is not there goes last
  pub mapped_next : (xs all : List A) (x : A) (ys : List B) → map f xs ≡ ys → list_any other ys ≡ false → all ≡ (if list_any test xs then xs else xs ++ x ∷ []) → map f all ≡ ys ++ f x ∷ []
  mapped_next xs all x ys is new e =
      ap (map f) (e ∙ ap (λ b. if b then xs else xs ++ x ∷ []) (any_mapped xs ∙ ap (list_any other) is ∙ new)) ∙ map-append f xs (x ∷ []) ∙ ap (λ l. l ++ f x ∷ []) is

-- what has no place is not there
pub none_there : {A : Type 0} (test : A → Bool) (i : ℕ) (xs : List A) → position_from test i xs ≡ None → list_any test xs ≡ false
none_there test i [] e = refl
none_there test i (x ∷ xs) e = by_test (test x) e (none_there test (i + 1) xs)
  where
    by_test : (b : Bool) → cond b (Some i) (position_from test (i + 1) xs) ≡ None → (position_from test (i + 1) xs ≡ None → list_any test xs ≡ false) → (b || list_any test xs) ≡ false
    by_test true e rest = absurd cc
    by_test false e rest = rest e

-- a number of a value is one of what it stands for
pub some_within : {A B : Type 0} (o : Option ℕ) (f : A → B) (xs : List A) (ys : List B) → map f xs ≡ ys → IfSome o (λ number. number < length xs) → IfSome o (λ number. number < length ys)
some_within None f xs ys is within = tt
some_within (Some n) f xs ys is within = omega (arith, length-map xs f, ap length is, within)

module _ (g : Building) (named : IsNamed g) where
  -- a name's number is found in the table
  pub struct_found : (home name : List ℕ) → position_from (is_name home name) 0 g.structs ≡ struct_number g.schema home name
  struct_found home name =
      ap (position_from (is_name home name) 0) named.structs ∙ sym (position_mapped (λ (s : StructDesc). (s.module, s.name)) _ (is_name home name) (λ s. refl) 0 g.schema.structs)

  pub enum_found : (home name : List ℕ) → position_from (is_name home name) 0 g.enums ≡ enum_number g.schema home name
  enum_found home name =
      ap (position_from (is_name home name) 0) named.enums ∙ sym (position_mapped (λ (e : EnumDesc). (e.module, e.name)) _ (is_name home name) (λ e. refl) 0 g.schema.enums)

  pub struct_count : length g.structs ≡ length g.schema.structs
  struct_count = ap length named.structs ∙ length-map g.schema.structs (λ (s : StructDesc). (s.module, s.name))

  pub enum_count : length g.enums ≡ length g.schema.enums
  enum_count = ap length named.enums ∙ length-map g.schema.enums (λ (e : EnumDesc). (e.module, e.name))

  -- a name that has no number is not there
  pub struct_absent : (home name : List ℕ) → struct_number g.schema home name ≡ None → list_any (is_name home name) g.structs ≡ false
  struct_absent home name none = none_there (is_name home name) 0 g.structs (struct_found home name ∙ none)

  pub enum_absent : (home name : List ℕ) → enum_number g.schema home name ≡ None → list_any (is_name home name) g.enums ≡ false
  enum_absent home name none = none_there (is_name home name) 0 g.enums (enum_found home name ∙ none)
