-- The calls of a table of one line.
use Rattle.std.proofs.Common.{◌≡◌, ◌<◌, ◌≤◌, ◌+◌, ℕ, zero, suc, Bool, true, false, List, [], ◌∷◌, ◌++◌, length, map, Option, Some, None, refl, sym, ap, ◌∙◌, subst, arith}
use Rattle.std.specs.Prelude.{is_none, ◌&&◌, ◌||◌, ◌==◌, not, nat_le, slice_get, slice_set, slice_index_or, option_map, count_by}
use Rattle.std.specs.List.{AllByRecursion, list_any}
use Rattle.std.proofs.lemmas.Bool.{eq-eqb, ne_eqb}
use Rattle.script_session.specs.Sessions.{WIDTH}
use Rattle.run_course.specs.Courses as course
use Rattle.run_course.specs.Courses.{closed, first_fate}
use Rattle.run_course.proofs.Lists.{count_cons, none_some, some_same}
use Rattle.run_engine.proofs.Lists.{at_found}
use Rattle.run_engine.specs.declared.fate.Fate.{Fate}
use Rattle.run_engine.specs.declared.one_line.Opened.{Opened}
use Rattle.run_engine.specs.Claims.{Claim, FateFits, MayFit, told, is_full, opened_claim, is_open_claim, settled_claim, settled_claims, ended, fate_of}
use Rattle.run_engine.specs.OneLines.{CallFits, IsLine, claim_at, claims_from, IsOpenAt, closed_fate, closed_call, fate_in}

pub claims_length : (id : ℕ) (calls : List Opened) → length (claims_from id calls) ≡ length calls
claims_length id [] = refl
claims_length id (call ∷ calls) = ap suc (claims_length (suc id) calls)

-- each call is in flight by line 1
all_count : (id : ℕ) (calls : List Opened) → count_by (λ (claim : Claim). not claim.life.collected && (claim.line == 1)) (claims_from id calls) ≡ length calls
all_count id [] = refl
all_count id (call ∷ calls) = count_cons (λ (claim : Claim). not claim.life.collected && (claim.line == 1)) (claim_at id call) (claims_from (suc id) calls) ∙ (ap (λ n. 1 + n) (all_count (suc id) calls) ∙ omega arith)

pub full_is : (line : ℕ) (claims : List Claim) (calls : List Opened) → line ≡ 1 → claims ≡ claims_from 1 calls → nat_le WIDTH (length calls) ≡ is_full line claims
full_is line claims calls one is =
    sym (ap (λ cs. is_full line cs) is ∙ ap (λ l. is_full l (claims_from 1 calls)) one ∙ ap (λ n. nat_le WIDTH n) (all_count 1 calls))

suc_plus : (m n : ℕ) → suc m + n ≡ m + suc n
suc_plus m n = omega arith

claims-more : (id : ℕ) (calls : List Opened) (call : Opened) → claims_from id (calls ++ call ∷ []) ≡ claims_from id calls ++ claim_at (id + length calls) call ∷ []
claims-more id [] call = ap (λ n. claim_at n call ∷ []) (omega arith)
claims-more id (first ∷ calls) call =
    ap (λ cs. claim_at id first ∷ cs) (claims-more (suc id) calls call ∙ ap (λ n. claims_from (suc id) calls ++ claim_at n call ∷ []) (suc_plus id (length calls)))

-- one more is opened
pub one_opened : (claims : List Claim) (calls new : List Opened) (line node deadline : ℕ) → claims ≡ claims_from 1 calls
    → new ≡ calls ++ record { node = node; deadline = deadline; fate = None } ∷ [] → line ≡ 1
    → claims ++ opened_claim claims line node deadline ∷ [] ≡ claims_from 1 new
one_opened claims calls new line node deadline is more one =
    ap (λ cs. cs ++ opened_claim cs line node deadline ∷ []) is
    ∙ ap (λ n. claims_from 1 calls ++ record { line = line; life = record { id = n; node = node; deadline = deadline; fate = None; collected = false } } ∷ []) next
    ∙ ap (λ l. claims_from 1 calls ++ record { line = l; life = record { id = 1 + length calls; node = node; deadline = deadline; fate = None; collected = false } } ∷ []) one
    ∙ sym (ap (λ cs. claims_from 1 cs) more ∙ claims-more 1 calls (record { node = node; deadline = deadline; fate = None }))
  where
    next : suc (length (claims_from 1 calls)) ≡ 1 + length calls
    next = ap suc (claims_length 1 calls) ∙ omega arith

-- ---- the call that is open under an id

-- before the first id, and after the last, none is
none_before : (id first : ℕ) (calls : List Opened) → id < first → list_any (is_open_claim id) (claims_from first calls) ≡ false
none_before id first [] before = refl
none_before id first (call ∷ calls) before =
    rw (ne_eqb first id (λ e. absurd (omega (arith, e, before))), none_before id (suc first) calls (omega (arith, before))) refl

none_after : (id first : ℕ) (calls : List Opened) → first + length calls ≤ id → list_any (is_open_claim id) (claims_from first calls) ≡ false
none_after id first [] after = refl
none_after id first (call ∷ calls) after =
    rw (ne_eqb first id (λ e. absurd (omega (arith, e, after))), none_after id (suc first) calls (omega (arith, after))) refl

is_none_told : (fate : Option Fate) → is_none (option_map told fate) ≡ is_none fate
is_none_told None = refl
is_none_told (Some fate) = refl

or_false : (b : Bool) → (b || false) ≡ b
or_false true = refl
or_false false = refl

-- at its place it is open where it has no end
open_here : (id first k : ℕ) (calls : List Opened) (call : Opened) → id ≡ first + k → slice_get calls k ≡ Some call
    → list_any (is_open_claim id) (claims_from first calls) ≡ is_none call.fate
open_here id first k [] call is at = absurd (none_some call at)
open_here id first zero (x ∷ calls) call is at =
    rw (eq-eqb first id (omega (arith, is)), none_before id (suc first) calls (omega (arith, is)))
    (or_false (is_none (option_map told x.fate)) ∙ is_none_told x.fate ∙ ap (λ (c : Opened). is_none c.fate) (some_same x call at))
open_here id first (suc k) (x ∷ calls) call is at =
    rw (ne_eqb first id (λ e. absurd (omega (arith, e, is)))) (open_here id (suc first) k calls call (omega (arith, is)) at)

pub none_open : (id : ℕ) (calls : List Opened) → (id ≡ 0) → list_any (is_open_claim id) (claims_from 1 calls) ≡ false
none_open id calls e = none_before id 1 calls (omega (arith, e))

pub none_there : (id k : ℕ) (calls : List Opened) → id ≡ suc k → length calls ≤ k → list_any (is_open_claim id) (claims_from 1 calls) ≡ false
none_there id k calls e long = none_after id 1 calls (omega (arith, e, long))

pub ended_there : (id k : ℕ) (calls : List Opened) (call : Opened) → id ≡ suc k → slice_get calls k ≡ Some call → is_none call.fate ≡ false
    → list_any (is_open_claim id) (claims_from 1 calls) ≡ false
ended_there id k calls call e at has = open_here id 1 k calls call (omega (arith, e)) at ∙ has

pub found_open : (id k : ℕ) (calls : List Opened) → IsOpenAt id calls k → list_any (is_open_claim id) (claims_from 1 calls) ≡ true
found_open id k calls at = open_here id 1 k calls at.call (let e = at.id_is in omega (arith, e)) at.call_is ∙ ap is_none at.is_open

-- ---- what an end does

stay_before : (id first : ℕ) (fate : course.Fate) (calls : List Opened) → id < first → map (settled_claim id fate) (claims_from first calls) ≡ claims_from first calls
stay_before id first fate [] before = refl
stay_before id first fate (call ∷ calls) before =
    rw (ne_eqb first id (λ e. absurd (omega (arith, e, before)))) (ap (λ cs. claim_at first call ∷ cs) (stay_before id (suc first) fate calls (omega (arith, before))))

settled_here : (id first k : ℕ) (fate : Fate) (calls : List Opened) (call : Opened) → id ≡ first + k → slice_get calls k ≡ Some call → call.fate ≡ None
    → map (settled_claim id (told fate)) (claims_from first calls) ≡ claims_from first (slice_set calls k (record call { fate = Some fate }))
settled_here id first k fate [] call is at still = absurd (none_some call at)
settled_here id first zero fate (x ∷ calls) call is at still =
    rw (eq-eqb first id (omega (arith, is)))
    (ap (λ cs. ended (told fate) (claim_at first x) ∷ cs) (stay_before id (suc first) (told fate) calls (omega (arith, is)))
    ∙ ap (λ (c : Opened). ended (told fate) (claim_at first c) ∷ claims_from (suc first) calls) (some_same x call at)
    ∙ ap (λ (f : Option Fate). record { line = 1; life = record { id = first; node = call.node; deadline = call.deadline; fate = first_fate (told fate) (option_map told f); collected = false } } ∷ claims_from (suc first) calls) still)
settled_here id first (suc k) fate (x ∷ calls) call is at still =
    rw (ne_eqb first id (λ e. absurd (omega (arith, e, is))))
    (ap (λ cs. claim_at first x ∷ cs) (settled_here id (suc first) k fate calls call (omega (arith, is)) at still))

pub settles_open : (id k : ℕ) (fate : Fate) (claims : List Claim) (calls new : List Opened) (call : Opened) → claims ≡ claims_from 1 calls → IsOpenAt id calls k
    → call ≡ slice_index_or calls k call → new ≡ slice_set calls k (record call { fate = Some fate }) → settled_claims id (told fate) claims ≡ claims_from 1 new
settles_open id k fate claims calls new call is at here set =
    let same : at.call ≡ call = sym (here ∙ at_found calls k at.call call at.call_is) in
    rw (is, found_open id k calls at)
    (settled_here id 1 k fate calls call (let e = at.id_is in omega (arith, e)) (at.call_is ∙ ap (λ (c : Opened). Some c) same) (sym (ap (λ (c : Opened). c.fate) same) ∙ at.is_open)
    ∙ ap (λ cs. claims_from 1 cs) (sym set))

pub settles_none : (id : ℕ) (fate : course.Fate) (claims : List Claim) (calls : List Opened) → claims ≡ claims_from 1 calls
    → list_any (is_open_claim id) (claims_from 1 calls) ≡ false → settled_claims id fate claims ≡ claims_from 1 calls
settles_none id fate claims calls is none = rw (is, none) refl

ended_told : (fate : Option Fate) → option_map told (closed_fate fate) ≡ first_fate closed (option_map told fate)
ended_told None = refl
ended_told (Some fate) = refl

-- a close
closes_from : (id : ℕ) (calls : List Opened) → map (ended closed) (claims_from id calls) ≡ claims_from id (map closed_call calls)
closes_from id [] = refl
closes_from id (call ∷ calls) =
    ap (λ (f : Option course.Fate). record { line = 1; life = record { id = id; node = call.node; deadline = call.deadline; fate = f; collected = false } } ∷ map (ended closed) (claims_from (suc id) calls)) (sym (ended_told call.fate))
    ∙ ap (λ cs. claim_at id (closed_call call) ∷ cs) (closes_from (suc id) calls)

pub closes : (claims : List Claim) (calls new : List Opened) → claims ≡ claims_from 1 calls → new ≡ map closed_call calls → map (ended closed) claims ≡ claims_from 1 new
closes claims calls new is e = ap (λ cs. map (ended closed) cs) is ∙ closes_from 1 calls ∙ ap (λ cs. claims_from 1 cs) (sym e)

fates_from : (id : ℕ) (calls : List Opened) → map (option_map told) (map fate_in calls) ≡ map fate_of (claims_from id calls)
fates_from id [] = refl
fates_from id (call ∷ calls) = ap (λ fs. option_map told call.fate ∷ fs) (fates_from (suc id) calls)

pub fates_are : (claims : List Claim) (calls : List Opened) (fates : List (Option Fate)) → claims ≡ claims_from 1 calls → fates ≡ map fate_in calls
    → map (option_map told) fates ≡ map fate_of claims
fates_are claims calls fates is e = ap (λ fs. map (option_map told) fs) e ∙ fates_from 1 calls ∙ ap (λ cs. map fate_of cs) (sym is)

-- ---- what the calls keep

all_more : (calls : List Opened) (call : Opened) → AllByRecursion CallFits calls → CallFits call → AllByRecursion CallFits (calls ++ call ∷ [])
all_more [] call each fits = (fits, tt)
all_more (first ∷ calls) call each fits = (each.0, all_more calls call each.1 fits)

all_set : (calls : List Opened) (k : ℕ) (call : Opened) → AllByRecursion CallFits calls → CallFits call → AllByRecursion CallFits (slice_set calls k call)
all_set [] k call each fits = tt
all_set (first ∷ calls) zero call each fits = (fits, each.1)
all_set (first ∷ calls) (suc k) call each fits = (each.0, all_set calls k call each.1 fits)

closed_fits : (fate : Option Fate) → MayFit fate → MayFit (closed_fate fate)
closed_fits None fits = tt
closed_fits (Some fate) fits = fits

all_closed : (calls : List Opened) → AllByRecursion CallFits calls → AllByRecursion CallFits (map closed_call calls)
all_closed [] each = tt
all_closed (call ∷ calls) each = (closed_fits call.fate each.0, all_closed calls each.1)

all_fates : (calls : List Opened) → AllByRecursion CallFits calls → AllByRecursion MayFit (map fate_in calls)
all_fates [] each = tt
all_fates (call ∷ calls) each = (each.0, all_fates calls each.1)

pub line_opened : (claims : List Claim) (calls new : List Opened) (line node deadline : ℕ) → IsLine calls claims
    → new ≡ calls ++ record { node = node; deadline = deadline; fate = None } ∷ [] → line ≡ 1 → IsLine new (claims ++ opened_claim claims line node deadline ∷ [])
line_opened claims calls new line node deadline h more one = record {
  are = one_opened claims calls new line node deadline h.are more one;
  fit = subst (λ cs. AllByRecursion CallFits cs) (sym more) (all_more calls (record { node = node; deadline = deadline; fate = None }) h.fit tt);
}

pub line_settled : (id k : ℕ) (fate : Fate) (claims : List Claim) (calls new : List Opened) (call : Opened) → IsLine calls claims → IsOpenAt id calls k → FateFits fate
    → call ≡ slice_index_or calls k call → new ≡ slice_set calls k (record call { fate = Some fate }) → IsLine new (settled_claims id (told fate) claims)
line_settled id k fate claims calls new call h at fits here set = record {
  are = settles_open id k fate claims calls new call h.are at here set;
  fit = subst (λ cs. AllByRecursion CallFits cs) (sym set) (all_set calls k (record call { fate = Some fate }) h.fit fits);
}

pub line_kept : (id : ℕ) (fate : course.Fate) (claims : List Claim) (calls : List Opened) → IsLine calls claims
    → list_any (is_open_claim id) (claims_from 1 calls) ≡ false → IsLine calls (settled_claims id fate claims)
line_kept id fate claims calls h none = record { are = settles_none id fate claims calls h.are none; fit = h.fit }

pub line_closed : (claims : List Claim) (calls new : List Opened) → IsLine calls claims → new ≡ map closed_call calls → IsLine new (map (ended closed) claims)
line_closed claims calls new h e = record {
  are = closes claims calls new h.are e;
  fit = subst (λ cs. AllByRecursion CallFits cs) (sym e) (all_closed calls h.fit);
}

pub fates_fit : (calls : List Opened) (fates : List (Option Fate)) → AllByRecursion CallFits calls → fates ≡ map fate_in calls → AllByRecursion MayFit fates
fates_fit calls fates each e = subst (λ fs. AllByRecursion MayFit fs) (sym e) (all_fates calls each)
