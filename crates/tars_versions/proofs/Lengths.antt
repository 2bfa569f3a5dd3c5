-- A reason has no more steps than there are levels.
use Rattle.std.proofs.Common.{◌≡◌, ◌<◌, ◌≤◌, ℕ, zero, suc, Bool, true, false, cond, ◌&&◌, not, List, [], ◌∷◌, length, Option, Some, None, Result, Ok, Err, ◌-◌, ap, arith, subst}
use Rattle.std.specs.Prelude.{IfErr}
use Rattle.tars_model.specs.Declarations.{Declared, members_at}
use Rattle.tars_model.specs.Types.{TyLayer}
use Rattle.tars_model.specs.Values.{is_byte}
use Rattle.tars_model.specs.declared.member.Member.{Member}
use Rattle.tars_model.specs.declared.ty.Ty.{Ty, out-Ty}
use Rattle.tars_model.specs.declared.ty.Ty.TheOpen as ty
use Rattle.tars_versions.specs.declared.reason_kind.ReasonKind.TheVariants.{Missing}
use Rattle.tars_versions.specs.Agreement.{Agreement, agree, differ, Agreeing, mismatch, at_step, both, lie_in, numbers_of, numbers_taken, numbers_agree, elements_agree, entries_agree, member_with, member_agrees, members_agree, agree_by, agree_within}
use Rattle.tars_versions.specs.AgreementSteps.{Tells}
use Rattle.tars_versions.specs.Reasons.{Reason}

abbrev IsShort : ℕ → Agreement → Type 0
IsShort most agree = Unit {0}
IsShort most (differ reason) = length reason.steps ≤ most

module _ (most : ℕ) where
  step_short : (step : ℕ) (a : Agreement) → IsShort most a → IsShort (suc most) (at_step step a)
  step_short step agree short = tt
  step_short step (differ reason) short = omega arith

  both_short : (a b : Agreement) → IsShort most a → IsShort most b → IsShort most (both a b)
  both_short agree b first second = second
  both_short (differ reason) b first second = first

  numbers_short : (l l' : TyLayer) → IsShort most (numbers_agree l l')
  numbers_short l l' = by_test (lie_in (numbers_of l) (numbers_taken l'))
    where
      by_test : (b : Bool) → IsShort most (cond b agree mismatch)
      by_test true = tt
      by_test false = omega arith

-- what stands one level deeper
module _ (most : ℕ) (inner : Agreeing) (short : (t t' : Ty) → IsShort most (inner t t')) where
  elements_short : (of of' : Ty) → IsShort (suc most) (elements_agree inner of of')
  elements_short of of' = by_test (is_byte (out-Ty of) && not (is_byte (out-Ty of'))) (step_short most 0 (inner of of') (short of of'))
    where
      by_test : (b : Bool) → IsShort (suc most) (at_step 0 (inner of of')) → IsShort (suc most) (cond b mismatch (at_step 0 (inner of of')))
      by_test true h = omega arith
      by_test false h = h

  entries_short : (key to key' to' : Ty) → IsShort (suc most) (entries_agree inner key to key' to')
  entries_short key to key' to' =
      both_short (suc most) (at_step 0 (inner key key')) (at_step 1 (inner to to')) (step_short most 0 (inner key key') (short key key')) (step_short most 1 (inner to to') (short to to'))

  member_short : (o : Option Member) (m' : Member) → IsShort (suc most) (member_agrees inner o m')
  member_short (Some m) m' = step_short most m'.tag (inner m.ty m'.ty) (short m.ty m'.ty)
  member_short None m' = by_test m'.require
    where
      by_test : (b : Bool) → IsShort (suc most) (cond b (differ (record { kind = Missing; steps = m'.tag ∷ [] })) agree)
      by_test true = omega arith
      by_test false = tt

  members_short : (ms ms' : List Member) → IsShort (suc most) (members_agree inner ms ms')
  members_short ms [] = tt
  members_short ms (m' ∷ ms') =
      both_short (suc most) (member_agrees inner (member_with m'.tag ms) m') (members_agree inner ms ms') (member_short (member_with m'.tag ms) m') (members_short ms ms')

  by_short : (d d' : Declared) (l l' : TyLayer) → IsShort (suc most) (agree_by inner d d' l l')
  by_short d d' ty.Text ty.Text = tt
  by_short d d' (ty.Vector of) (ty.Vector of') = elements_short of of'
  by_short d d' (ty.Map key to) (ty.Map key' to') = entries_short key to key' to'
  by_short d d' (ty.Struct number) (ty.Struct number') = members_short (members_at d number) (members_at d' number')
  by_short d d' l l' = numbers_short (suc most) l l'

within_short : (levels : ℕ) (d d' : Declared) (t t' : Ty) → IsShort levels (agree_within levels d d' t t')
unfolding agree_within
within_short zero d d' t t' = none_short
  where
    none_short : IsShort 0 mismatch
    none_short = omega arith
within_short (suc levels) d d' t t' = by_short levels (agree_within levels d d') (within_short levels d d') d d' (out-Ty t) (out-Ty t')

-- so a path of such a reason has room for one step more
pub room_for_step : {U : Type 0} (result : Result U Reason) (levels : ℕ) (d d' : Declared) (t t' : Ty) → levels ≤ 33 → Tells result (agree_within levels d d' t t') → IfErr result (λ path. length path.steps < 40)
room_for_step (Ok u) levels d d' t t' few tells = tt
room_for_step (Err reason) levels d d' t t' few tells =
    let short : length reason.steps ≤ levels = short_of (agree_within levels d d' t t') tells (within_short levels d d' t t') in
    omega arith
  where
    short_of : (a : Agreement) → a ≡ differ reason → IsShort levels a → length reason.steps ≤ levels
    short_of a is short = subst (IsShort levels) is short

pub one_level_less : (levels : ℕ) (d d' : Declared) (t t' : Ty) → 0 < levels → agree_by (agree_within (levels - 1) d d') d d' (out-Ty t) (out-Ty t') ≡ agree_within levels d d' t t'
unfolding agree_within
one_level_less zero d d' t t' some = absurd (omega arith)
one_level_less (suc levels) d d' t t' some =
    let less : suc levels - 1 ≡ levels = omega arith in
    ap (λ n. agree_by (agree_within n d d') d d' (out-Ty t) (out-Ty t')) less

pub no_level : (levels : ℕ) (d d' : Declared) (t t' : Ty) → levels ≡ 0 → agree_within levels d d' t t' ≡ mismatch
unfolding agree_within
no_level levels d d' t t' e = ap (λ n. agree_within n d d' t t') e
