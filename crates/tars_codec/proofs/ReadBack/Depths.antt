-- In a schema, values of the members of a struct are less deep than those of the struct.
use Rattle.std.proofs.Common.{◌≡◌, ◌<◌, ◌≤◌, ℕ, zero, suc, Bool, true, false, cond, leb, List, [], ◌∷◌, ◌++◌, length, slice_index, Option, Some, None, refl, sym, ap, ap₂, ◌∙◌, subst, arith, length-append}
use Rattle.std.specs.List.{AllByRecursion}
use Rattle.std.specs.Prelude.{slice_get}
use Rattle.std.proofs.Math.ListN.{get_or-append}
use Rattle.std.proofs.Math.Seq.{get_or-append_seam}
use Rattle.std.proofs.lemmas.Bool.Decides.{nat_tests}
use Rattle.std.proofs.lemmas.List.Elements.{recursion_from_All}
use Rattle.tars_model.specs.Declarations.{Declared, members_at, struct_members}
use Rattle.tars_model.specs.Schemas.{IsSchema, StructFits, MemberFits}
use Rattle.tars_model.specs.Schemas.IsSchema.{nothing, struct, enum, const, key, interface}
use Rattle.tars_model.specs.Types.{TyLayer, IsType, is_plain, greater, depth_layer, type_depth, deepest, depths_after, depths_of}
use Rattle.tars_model.specs.declared.member.Member.{Member}
use Rattle.tars_model.specs.declared.struct_desc.StructDesc.{StructDesc}
use Rattle.tars_model.specs.declared.ty.Ty.{Ty, out-Ty, map-Ty, fold_out-Ty}
use Rattle.tars_model.specs.declared.ty.Ty.TheOpen as ty

-- the depth of a type, by its outermost level
pub depth_at : (depths : List ℕ) (t : Ty) (l : TyLayer) → out-Ty t ≡ l → type_depth depths t ≡ depth_layer depths (map-Ty Ty ℕ (type_depth depths) l)
depth_at depths t l is = fold_out-Ty ℕ (depth_layer depths) t ∙ ap (λ l. depth_layer depths (map-Ty Ty ℕ (type_depth depths) l)) is

pub at_most_greater : (a b : ℕ) → (a ≤ greater a b) × (b ≤ greater a b)
at_most_greater a b = by_test (leb a b) refl
  where
    by_test : (t : Bool) → leb a b ≡ t → (a ≤ cond t b a) × (b ≤ cond t b a)
    by_test true e = grind (arith, nat_tests)
    by_test false e = grind (arith, nat_tests)

-- ---- one more struct

module _ (depths : List ℕ) (last : ℕ) where
  abbrev more : List ℕ
  more = depths ++ last ∷ []

  by_level : (t : Ty) (l : TyLayer) → out-Ty t ≡ l → depth_layer more (map-Ty Ty ℕ (type_depth more) l) ≡ depth_layer depths (map-Ty Ty ℕ (type_depth depths) l) → type_depth more t ≡ type_depth depths t
  by_level t l is same = depth_at more t l is ∙ (same ∙ sym (depth_at depths t l is))

  plain_same : (l : TyLayer) → is_plain l ≡ true → depth_layer more (map-Ty Ty ℕ (type_depth more) l) ≡ depth_layer depths (map-Ty Ty ℕ (type_depth depths) l)
  plain_same (ty.Struct number) plain = absurd cc
  plain_same (ty.Vector of) plain = absurd cc
  plain_same (ty.Map from to) plain = absurd cc
  plain_same _ plain = refl

  -- a type over the structs before it is as deep as it was
  same_depth : (enums n : ℕ) {t : Ty} → n ≤ length depths → IsType enums n t → type_depth more t ≡ type_depth depths t
  same_depth enums n {t} within (IsType.plain plain) = by_level t (out-Ty t) refl (plain_same (out-Ty t) plain)
  same_depth enums n {t} within (IsType.enum {number = number} is lt) = by_level t (ty.Enum number) is refl
  same_depth enums n {t} within (IsType.struct {number = number} is lt) = by_level t (ty.Struct number) is (get_or-append depths (last ∷ []) 0 number (omega arith))
  same_depth enums n {t} within (IsType.vector {of = of} is other type) = by_level t (ty.Vector of) is (ap suc (same_depth enums n within type))
  same_depth enums n {t} within (IsType.map {key = from} {value = to} is is_key from_type type) =
      by_level t (ty.Map from to) is (ap₂ (λ a b. suc (greater a b)) (same_depth enums n within from_type) (same_depth enums n within type))

depths_more : (depths : List ℕ) (xs : List StructDesc) (x : StructDesc) → depths_after depths (xs ++ x ∷ []) ≡ depths_after depths xs ++ suc (deepest (depths_after depths xs) x.members) ∷ []
depths_more depths [] x = refl
depths_more depths (y ∷ xs) x = depths_more (depths ++ suc (deepest depths y.members) ∷ []) xs x

-- ---- each struct of a schema

-- a member of the struct of a number: it refers to structs before that one, and is less deep
pub record Below (depths : List ℕ) (n : ℕ) (m : Member) : Type 0 where
  enums : ℕ
  type : IsType enums n m.ty
  pub below : type_depth depths m.ty < slice_index depths n

record Layered (structs : List StructDesc) (depths : List ℕ) : Type 0 where
  many : length depths ≡ length structs
  each : (n : ℕ) → AllByRecursion (Below depths n) (struct_members (slice_get structs n))

one_more : {A : Type 0} (P : ℕ → Option A → Type 0) (xs : List A) (x : A) → ((n : ℕ) → n < length xs → P n (slice_get xs n)) → P (length xs) (Some x) → ((n : ℕ) → P n None) → (n : ℕ) → P n (slice_get (xs ++ x ∷ []) n)
one_more P [] x old new none zero = new
one_more P [] x old new none (suc n) = none (suc n)
one_more P (y ∷ ys) x old new none zero = old 0 (omega arith)
one_more P (y ∷ ys) x old new none (suc n) = one_more (λ k. P (suc k)) ys x (λ k lt. old (suc k) (omega arith)) new (λ k. none (suc k)) n

stay_below : (depths : List ℕ) (last n : ℕ) (ms : List Member) → n < length depths → AllByRecursion (Below depths n) ms → AllByRecursion (Below (depths ++ last ∷ []) n) ms
stay_below depths last n [] within all = tt
stay_below depths last n (m ∷ ms) within all =
    let b = all.0 in
    let depth = same_depth depths last b.enums n (omega arith) b.type in
    let bound = get_or-append depths (last ∷ []) 0 n within in
    (record { enums = b.enums; type = b.type; below = omega arith }, stay_below depths last n ms within all.1)

new_below : (d : Declared) (depths : List ℕ) (most : ℕ) (ms : List Member) → length depths ≡ length d.structs → AllByRecursion (MemberFits d) ms → deepest depths ms ≤ most → AllByRecursion (Below (depths ++ suc most ∷ []) (length d.structs)) ms
new_below d depths most [] many all deep = tt
new_below d depths most (m ∷ ms) many all deep =
    let type = all.0.ty.is_type in
    let two = at_most_greater (type_depth depths m.ty) (deepest depths ms) in
    let depth = same_depth depths (suc most) (length d.enums) (length d.structs) (omega arith) type in
    let bound = ap (slice_index (depths ++ suc most ∷ [])) (sym many) ∙ get_or-append_seam depths (suc most) [] 0 in
    (record { enums = length d.enums; type = type; below = omega arith }, new_below d depths most ms many all.1 (omega arith))

with_one_more : (d : Declared) (s : StructDesc) (depths : List ℕ) → StructFits d s → Layered d.structs depths → Layered (d.structs ++ s ∷ []) (depths ++ suc (deepest depths s.members) ∷ [])
with_one_more d s depths fits layered =
    let last = suc (deepest depths s.members) in
    let many = layered.many in
    record {
      many = omega (arith, length-append depths (last ∷ []), length-append d.structs (s ∷ []));
      each = one_more (λ n o. AllByRecursion (Below (depths ++ last ∷ []) n) (struct_members o)) d.structs s
          (λ n lt. stay_below depths last n (struct_members (slice_get d.structs n)) (omega arith) (layered.each n))
          (new_below d depths (deepest depths s.members) s.members many (recursion_from_All (MemberFits d) s.members fits.members) (omega arith))
          (λ n. tt);
    }

abbrev AreLayered : Declared → Type 0
AreLayered d = Layered d.structs (depths_of d.structs)

are_layered : {d : Declared} → IsSchema d → AreLayered d
are_layered {d} (nothing e) = subst AreLayered (sym e) (record { many = refl; each = λ n. tt })
are_layered (struct {d = d} {s = s} schema fits e) =
    subst AreLayered (sym e) (subst (Layered (d.structs ++ s ∷ [])) (sym (depths_more [] d.structs s)) (with_one_more d s (depths_of d.structs) fits (are_layered schema)))
are_layered (enum {d = d} {desc = x} schema fits e) = subst AreLayered (sym e) (are_layered schema)
are_layered (const {d = d} {c = x} schema fits e) = subst AreLayered (sym e) (are_layered schema)
are_layered (key {d = d} {k = x} schema fits e) = subst AreLayered (sym e) (are_layered schema)
are_layered (interface {d = d} {i = x} schema fits e) = subst AreLayered (sym e) (are_layered schema)

pub members_below : {d : Declared} → IsSchema d → (n : ℕ) → AllByRecursion (Below (depths_of d.structs) n) (members_at d n)
members_below schema n = (are_layered schema).each n
