-- The types of the members of a schema's structs: each refers to earlier structs alone, and is less deep than its struct.
use Rattle.std.proofs.Common.{◌≡◌, ◌<◌, ◌≤◌, ◌+◌, ℕ, zero, suc, Bool, true, false, cond, leb, List, [], ◌∷◌, ◌++◌, length, get_or, slice_index, Option, Some, None, refl, sym, ap, ◌∙◌, subst, arith, length-append}
use Rattle.std.specs.Prelude.{slice_get}
use Rattle.std.specs.List.{All}
use Rattle.std.proofs.Math.ListN.{get_or-append}
use Rattle.std.proofs.Math.Seq.{get_or-append_seam}
use Rattle.std.proofs.lemmas.Bool.{leb-true, leb-false}
use Rattle.tars_model.specs.Declarations.{Declared, members_at, struct_members}
use Rattle.tars_model.specs.Schemas.{IsSchema, MemberFits, StructFits}
use Rattle.tars_model.specs.Types.{IsType, is_plain, greater, depth_layer, type_depth, deepest, depths_after, depths_of}
use Rattle.tars_model.specs.declared.member.Member.{Member}
use Rattle.tars_model.specs.declared.struct_desc.StructDesc.{StructDesc}
use Rattle.tars_model.specs.declared.ty.Ty.{Ty, out-Ty, map-Ty, fold_out-Ty}
use Rattle.tars_model.specs.declared.ty.Ty.TheOpen as ty

-- ---- depths

pub depth_at : (depths : List ℕ) (t : Ty) (l : ty.Ty-F Ty) → out-Ty t ≡ l → type_depth depths t ≡ depth_layer depths (map-Ty Ty ℕ (type_depth depths) l)
depth_at depths t l e = fold_out-Ty ℕ (depth_layer depths) t ∙ ap (λ l. depth_layer depths (map-Ty Ty ℕ (type_depth depths) l)) e

plain_depth : (depths : List ℕ) (l : ty.Ty-F Ty) → is_plain l ≡ true → depth_layer depths (map-Ty Ty ℕ (type_depth depths) l) ≡ 0
plain_depth depths (ty.Enum k) e = absurd cc
plain_depth depths (ty.Struct k) e = absurd cc
plain_depth depths (ty.Vector of) e = absurd cc
plain_depth depths (ty.Map key to) e = absurd cc
plain_depth depths ty.Bool e = refl
plain_depth depths ty.Byte e = refl
plain_depth depths ty.Short e = refl
plain_depth depths ty.Int e = refl
plain_depth depths ty.Long e = refl
plain_depth depths ty.UByte e = refl
plain_depth depths ty.UShort e = refl
plain_depth depths ty.UInt e = refl
plain_depth depths ty.Text e = refl

-- later structs leave it as it is
pub depth_stays : (depths more : List ℕ) (enums structs : ℕ) {t : Ty} → structs ≤ length depths → IsType enums structs t → type_depth (depths ++ more) t ≡ type_depth depths t
depth_stays depths more enums structs {t} few (IsType.plain p) =
    depth_at (depths ++ more) t (out-Ty t) refl ∙ (plain_depth (depths ++ more) (out-Ty t) p ∙ sym (depth_at depths t (out-Ty t) refl ∙ plain_depth depths (out-Ty t) p))
depth_stays depths more enums structs {t} few (IsType.enum {number = k} is lt) = depth_at (depths ++ more) t (ty.Enum k) is ∙ sym (depth_at depths t (ty.Enum k) is)
depth_stays depths more enums structs {t} few (IsType.struct {number = k} is lt) =
    depth_at (depths ++ more) t (ty.Struct k) is ∙ (get_or-append depths more 0 k (omega arith) ∙ sym (depth_at depths t (ty.Struct k) is))
depth_stays depths more enums structs {t} few (IsType.vector {of = of} is other of_type) =
    depth_at (depths ++ more) t (ty.Vector of) is ∙ (ap suc (depth_stays depths more enums structs few of_type) ∙ sym (depth_at depths t (ty.Vector of) is))
depth_stays depths more enums structs {t} few (IsType.map {key = key} {value = to} is key_is key_type to_type) =
    depth_at (depths ++ more) t (ty.Map key to) is
    ∙ (ap (λ n. suc (greater n (type_depth (depths ++ more) to))) (depth_stays depths more enums structs few key_type)
    ∙ (ap (λ n. suc (greater (type_depth depths key) n)) (depth_stays depths more enums structs few to_type) ∙ sym (depth_at depths t (ty.Map key to) is)))

pub greater_bounds : (a b : ℕ) → (a ≤ greater a b) × (b ≤ greater a b)
greater_bounds a b = by_test (leb a b) refl
  where
    by_test : (c : Bool) → leb a b ≡ c → (a ≤ cond c b a) × (b ≤ cond c b a)
    by_test true e = let le = leb-true a b e in (omega arith, omega arith)
    by_test false e = let lt = leb-false a b e in (omega arith, omega arith)

deepest_bounds : (depths : List ℕ) (ms : List Member) → All (λ (m : Member). type_depth depths m.ty ≤ deepest depths ms) ms
deepest_bounds depths [] k m within = absurd (omega arith)
deepest_bounds depths (m ∷ ms) zero x within = (greater_bounds (type_depth depths m.ty) (deepest depths ms)).0
deepest_bounds depths (m ∷ ms) (suc k) x within =
    let rest = deepest_bounds depths ms k x (omega arith) in
    let most = (greater_bounds (type_depth depths m.ty) (deepest depths ms)).1 in
    omega arith

pub depths_more : (depths : List ℕ) (xs : List StructDesc) (x : StructDesc) → depths_after depths (xs ++ x ∷ []) ≡ depths_after depths xs ++ suc (deepest (depths_after depths xs) x.members) ∷ []
depths_more depths [] x = refl
depths_more depths (y ∷ xs) x = depths_more (depths ++ suc (deepest depths y.members) ∷ []) xs x

pub depths_length : (depths : List ℕ) (xs : List StructDesc) → length (depths_after depths xs) ≡ length depths + length xs
depths_length depths [] = omega arith
depths_length depths (y ∷ xs) =
    let rest = depths_length (depths ++ suc (deepest depths y.members) ∷ []) xs in
    let one = length-append depths (suc (deepest depths y.members) ∷ []) in
    omega arith

-- ---- members of structs

-- a type over some enums and so many structs
abbrev pub IsOver : ℕ → Ty → Type 0
IsOver structs t = (enums : ℕ) × IsType enums structs t

-- of a member of the struct of a number, where the structs have these depths
pub record IsPlaced (depths : List ℕ) (number : ℕ) (m : Member) : Type 0 where
  pub inside : number < length depths
  pub over : IsOver number m.ty
  pub less : type_depth depths m.ty < slice_index depths number

abbrev AllPlaced : List ℕ → ℕ → Option StructDesc → Type 0
AllPlaced depths number o = All (IsPlaced depths number) (struct_members o)

placed_stays : (depths : List ℕ) (new number : ℕ) (m : Member) → IsPlaced depths number m → IsPlaced (depths ++ new ∷ []) number m
placed_stays depths new number m p =
    let same = depth_stays depths (new ∷ []) p.over.0 number (omega arith) p.over.1 in
    let kept : slice_index (depths ++ new ∷ []) number ≡ slice_index depths number = get_or-append depths (new ∷ []) 0 number p.inside in
    let less = p.less in
    record { inside = omega (arith, length-append depths (new ∷ [])); over = p.over; less = omega arith }

new_placed : (d : Declared) (depths : List ℕ) (ms : List Member) (m : Member) → length depths ≡ length d.structs → MemberFits d m → type_depth depths m.ty ≤ deepest depths ms → IsPlaced (depths ++ suc (deepest depths ms) ∷ []) (length depths) m
new_placed d depths ms m many fits most =
    let same = depth_stays depths (suc (deepest depths ms) ∷ []) (length d.enums) (length d.structs) (omega arith) fits.ty.is_type in
    let here : slice_index (depths ++ suc (deepest depths ms) ∷ []) (length depths) ≡ suc (deepest depths ms) = get_or-append_seam depths (suc (deepest depths ms)) [] 0 in
    record {
      inside = omega (arith, length-append depths (suc (deepest depths ms) ∷ []));
      over = (length d.enums, subst (λ n. IsType (length d.enums) n m.ty) (sym many) fits.ty.is_type);
      less = omega arith;
    }

pub by_number : {A : Type 0} (P : ℕ → Option A → Type 0) (xs : List A) (x : A) → P (length xs) (Some x) → ((k : ℕ) → P k None) → ((k : ℕ) → P k (slice_get xs k)) → (k : ℕ) → P k (slice_get (xs ++ x ∷ []) k)
by_number P [] x here none each zero = here
by_number P [] x here none each (suc k) = none (suc k)
by_number P (y ∷ ys) x here none each zero = each zero
by_number P (y ∷ ys) x here none each (suc k) = by_number (λ k. P (suc k)) ys x here (λ k. none (suc k)) (λ k. each (suc k)) k

abbrev pub AreAllPlaced : Declared → Type 0
AreAllPlaced d = (number : ℕ) → All (IsPlaced (depths_of d.structs) number) (members_at d number)

abbrev ArePlaced : List StructDesc → Type 0
ArePlaced structs = (number : ℕ) → AllPlaced (depths_of structs) number (slice_get structs number)

struct_placed : (d : Declared) (s : StructDesc) → StructFits d s → ArePlaced d.structs → ArePlaced (d.structs ++ s ∷ [])
struct_placed d s fits placed =
    let depths = depths_of d.structs in
    let counted = depths_length [] d.structs in
    let many : length depths ≡ length d.structs = omega arith in
    let most = deepest_bounds depths s.members in
    subst (λ ds. (number : ℕ) → AllPlaced ds number (slice_get (d.structs ++ s ∷ []) number)) (sym (depths_more [] d.structs s))
    (by_number (AllPlaced (depths ++ suc (deepest depths s.members) ∷ [])) d.structs s
    (subst (λ n. AllPlaced (depths ++ suc (deepest depths s.members) ∷ []) n (Some s)) many (λ k m within. new_placed d depths s.members (get_or s.members k m) many (fits.members k m within) (most k m within)))
    (λ k i m within. absurd (omega arith))
    (λ number k m within. placed_stays depths (suc (deepest depths s.members)) number (get_or (struct_members (slice_get d.structs number)) k m) (placed number k m within)))

pub all_placed : {d : Declared} → IsSchema d → AreAllPlaced d
all_placed {d} (IsSchema.nothing e) = subst AreAllPlaced (sym e) (λ number k m within. absurd (omega arith))
all_placed (IsSchema.struct {d = d} {s = s} schema fits e) = subst AreAllPlaced (sym e) (struct_placed d s fits (all_placed schema))
all_placed (IsSchema.enum {d = d} {desc = x} schema fits e) = subst AreAllPlaced (sym e) (all_placed schema)
all_placed (IsSchema.const {d = d} {c = x} schema fits e) = subst AreAllPlaced (sym e) (all_placed schema)
all_placed (IsSchema.key {d = d} {k = x} schema fits e) = subst AreAllPlaced (sym e) (all_placed schema)
all_placed (IsSchema.interface {d = d} {i = x} schema fits e) = subst AreAllPlaced (sym e) (all_placed schema)
