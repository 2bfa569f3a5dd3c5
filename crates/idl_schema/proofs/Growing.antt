-- What stays and what is new when one more thing is declared.
use Rattle.std.proofs.Common.{◌≡◌, ◌<◌, ◌+◌, ℕ, zero, suc, Bool, true, false, ◌&&◌, cond, Option, Some, None, List, [], ◌∷◌, ◌++◌, length, slice_index, refl, sym, ap, ◌∙◌, arith, length-append}
use Rattle.std.proofs.Math.ListN.{get_or-append}
use Rattle.std.proofs.Math.Seq.{get_or-append_seam}
use Rattle.std.specs.List.{position_from}
use Rattle.std.specs.Prelude.{slice_get}
use Rattle.std.specs.Str.{bytes_eq}
use Rattle.tars_model.specs.Types.{deepest, depths_after, depths_of}
use Rattle.tars_model.specs.declared.struct_desc.StructDesc.{StructDesc}
use Rattle.idl_scene.specs.Known.{Known, find}

-- what is there, or a new one
abbrev pub or_new : {A : Type 0} → Option A → Bool → A → Option A
or_new (Some x) b new = Some x
or_new None b new = cond b (Some new) None

pub position_more : {X : Type 0} (test : X → Bool) (at : ℕ) (xs : List X) (x : X) → position_from test at (xs ++ x ∷ []) ≡ or_new (position_from test at xs) (test x) (at + length xs)
position_more test at [] x = let here : at + 0 ≡ at = omega arith in ap (λ (n : ℕ). cond (test x) (Some n) None) (sym here)
position_more test at (y ∷ xs) x = by_test (test y) (position_more test (at + 1) xs x)
  where
    by_test : (b : Bool) → position_from test (at + 1) (xs ++ x ∷ []) ≡ or_new (position_from test (at + 1) xs) (test x) ((at + 1) + length xs)
        → cond b (Some at) (position_from test (at + 1) (xs ++ x ∷ [])) ≡ or_new (cond b (Some at) (position_from test (at + 1) xs)) (test x) (at + suc (length xs))
    by_test true rest = refl
    by_test false rest =
        let same : (at + 1) + length xs ≡ at + suc (length xs) = omega arith in
        rest ∙ ap (λ (n : ℕ). or_new (position_from test (at + 1) xs) (test x) n) same

pub find_more : (home name : List ℕ) (known : List Known) (k : Known) → find home name (known ++ k ∷ []) ≡ or_new (find home name known) (bytes_eq home k.home && bytes_eq name k.name) k.meaning
find_more home name [] k = refl
find_more home name (e ∷ known) k = by_test (bytes_eq home e.home && bytes_eq name e.name) (find_more home name known k)
  where
    by_test : (b : Bool) → find home name (known ++ k ∷ []) ≡ or_new (find home name known) (bytes_eq home k.home && bytes_eq name k.name) k.meaning
        → cond b (Some e.meaning) (find home name (known ++ k ∷ [])) ≡ or_new (cond b (Some e.meaning) (find home name known)) (bytes_eq home k.home && bytes_eq name k.name) k.meaning
    by_test true rest = refl
    by_test false rest = rest

-- ---- elements

pub get_kept : {A : Type 0} (xs : List A) (x : A) (at : ℕ) → at < length xs → slice_get (xs ++ x ∷ []) at ≡ slice_get xs at
get_kept [] x at within = absurd (omega arith)
get_kept (y ∷ xs) x zero within = refl
get_kept (y ∷ xs) x (suc at) within = get_kept xs x at (omega arith)

pub get_new : {A : Type 0} (xs : List A) (x : A) → slice_get (xs ++ x ∷ []) (length xs) ≡ Some x
get_new [] x = refl
get_new (y ∷ xs) x = get_new xs x

-- ---- depths

pub depths_more : (depths : List ℕ) (xs : List StructDesc) (x : StructDesc) → depths_after depths (xs ++ x ∷ []) ≡ depths_after depths xs ++ suc (deepest (depths_after depths xs) x.members) ∷ []
depths_more depths [] x = refl
depths_more depths (y ∷ xs) x = depths_more (depths ++ suc (deepest depths y.members) ∷ []) xs x

depths_length : (depths : List ℕ) (xs : List StructDesc) → length (depths_after depths xs) ≡ length depths + length xs
depths_length depths [] = omega arith
depths_length depths (y ∷ xs) =
    let rest = depths_length (depths ++ suc (deepest depths y.members) ∷ []) xs in
    let one = length-append depths (suc (deepest depths y.members) ∷ []) in
    omega arith

as_many : (xs : List StructDesc) → length (depths_of xs) ≡ length xs
as_many xs = let all = depths_length [] xs in omega arith

pub depth_kept : (xs : List StructDesc) (x : StructDesc) (at : ℕ) → at < length xs → slice_index (depths_of (xs ++ x ∷ [])) at ≡ slice_index (depths_of xs) at
depth_kept xs x at within =
    let many = as_many xs in
    let inside : at < length (depths_of xs) = omega arith in
    ap (λ ds. slice_index ds at) (depths_more [] xs x) ∙ get_or-append (depths_of xs) (suc (deepest (depths_of xs) x.members) ∷ []) 0 at inside

pub depth_new : (xs : List StructDesc) (x : StructDesc) → slice_index (depths_of (xs ++ x ∷ [])) (length xs) ≡ suc (deepest (depths_of xs) x.members)
depth_new xs x =
    ap (λ ds. slice_index ds (length xs)) (depths_more [] xs x) ∙ ap (λ n. slice_index (depths_of xs ++ suc (deepest (depths_of xs) x.members) ∷ []) n) (sym (as_many xs))
    ∙ get_or-append_seam (depths_of xs) (suc (deepest (depths_of xs) x.members)) [] 0
