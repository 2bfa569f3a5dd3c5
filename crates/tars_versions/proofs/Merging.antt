-- Members whose tags rise, one list beside the other.
use Rattle.std.proofs.Common.{◌≡◌, ◌<◌, ◌≤◌, ◌+◌, ℕ, Bool, true, false, cond, ltb, eqb, List, [], ◌∷◌, length, get_or, drop, Some, None, refl, sym, ap, ◌∙◌, subst, arith}
use Rattle.std.proofs.lemmas.Bool.{ltb-true, ltb-false, ne_eqb}
use Rattle.std.proofs.lemmas.List.{drop_more}
use Rattle.tars_model.specs.Members.{IsBelowNext, HaveRisingTags}
use Rattle.tars_model.specs.declared.member.Member.{Member}
use Rattle.tars_versions.specs.Agreement.{Agreement, agree, differ, Agreeing, both, member_with, member_agrees, members_agree}
use Rattle.tars_versions.specs.AgreementSteps.{from_tag, first_with}
use Rattle.tars_versions.specs.Reasons.{Reason}

other_tag : (a b : ℕ) → a < b → eqb a b ≡ false
other_tag a b lt = ne_eqb a b (λ e. absurd (omega arith))

-- what is left out has smaller tags
with_kept : (tag least : ℕ) (ms : List Member) → least ≤ tag → member_with tag (from_tag least ms) ≡ member_with tag ms
unfolding from_tag
with_kept tag least [] le = refl
with_kept tag least (m ∷ ms) le = by_test (ltb m.tag least) refl (with_kept tag least ms le)
  where
    by_test : (b : Bool) → ltb m.tag least ≡ b → member_with tag (from_tag least ms) ≡ member_with tag ms → member_with tag (cond b (from_tag least ms) (m ∷ ms)) ≡ member_with tag (m ∷ ms)
    by_test false e later = refl
    by_test true e later =
        let lt = ltb-true m.tag least e in
        later ∙ sym (ap (λ b. cond b (Some m) (member_with tag ms)) (other_tag m.tag tag (omega arith)))

below_next : (a b : ℕ) (ms : List Member) → a ≤ b → IsBelowNext b ms → IsBelowNext a ms
below_next a b [] le below = tt
below_next a b (m ∷ ms) le below = omega arith

-- where all tags are greater
none_with : (tag : ℕ) (ms : List Member) → IsBelowNext tag ms → HaveRisingTags ms → member_with tag ms ≡ None
none_with tag [] below rising = refl
none_with tag (m ∷ ms) below rising =
    let lt : tag < m.tag = below in
    let other : eqb m.tag tag ≡ false = ne_eqb m.tag tag (λ e. absurd (omega arith)) in
    ap (λ b. cond b (Some m) (member_with tag ms)) other ∙ none_with tag ms (below_next tag m.tag ms (omega arith) rising.0) rising.1

pub first_is : (tag : ℕ) (ms : List Member) → HaveRisingTags ms → first_with tag (from_tag tag ms) ≡ member_with tag ms
unfolding from_tag
first_is tag [] rising = refl
first_is tag (m ∷ ms) rising = by_test (ltb m.tag tag) refl (first_is tag ms rising.1)
  where
    by_test : (b : Bool) → ltb m.tag tag ≡ b → first_with tag (from_tag tag ms) ≡ member_with tag ms → first_with tag (cond b (from_tag tag ms) (m ∷ ms)) ≡ member_with tag (m ∷ ms)
    by_test true e later =
        let lt = ltb-true m.tag tag e in
        later ∙ sym (ap (λ b. cond b (Some m) (member_with tag ms)) (other_tag m.tag tag lt))
    by_test false e later = same (eqb m.tag tag) refl
      where
        same : (b : Bool) → eqb m.tag tag ≡ b → cond b (Some m) None ≡ cond b (Some m) (member_with tag ms)
        same true is = refl
        same false is = sym (none_with tag ms (below_next tag m.tag ms (ltb-false m.tag tag e) rising.0) rising.1)

from_rises : (tag : ℕ) (ms : List Member) → HaveRisingTags ms → HaveRisingTags (from_tag tag ms)
unfolding from_tag
from_rises tag [] rising = tt
from_rises tag (m ∷ ms) rising = by_test (ltb m.tag tag) (from_rises tag ms rising.1)
  where
    by_test : (b : Bool) → HaveRisingTags (from_tag tag ms) → HaveRisingTags (cond b (from_tag tag ms) (m ∷ ms))
    by_test true later = later
    by_test false later = rising

same_later : (inner : Agreeing) (tag : ℕ) (ms ms' : List Member) → IsBelowNext tag ms' → HaveRisingTags ms' → members_agree inner (from_tag tag ms) ms' ≡ members_agree inner ms ms'
same_later inner tag ms [] below rising = refl
same_later inner tag ms (m' ∷ ms') below rising =
    let lt : tag < m'.tag = below in
    ap (λ o. both (member_agrees inner o m') (members_agree inner (from_tag tag ms) ms')) (with_kept m'.tag tag ms (omega arith))
    ∙ ap (both (member_agrees inner (member_with m'.tag ms) m')) (same_later inner tag ms ms' (below_next tag m'.tag ms' (omega arith) rising.0) rising.1)

-- ---- what is left of old members and of new ones

pub record LeftAgree (inner : Agreeing) (ms ms' : List Member) (all : Agreement) : Type 0 where
  pub old : HaveRisingTags ms
  pub new : HaveRisingTags ms'
  pub so_far : members_agree inner ms ms' ≡ all

module _ (inner : Agreeing) (ms ms' : List Member) (all : Agreement) (i : ℕ) (m' : Member) where
  next_new : i < length ms' → m' ≡ get_or ms' i m' → drop i ms' ≡ m' ∷ drop (i + 1) ms'
  next_new within is = drop_more ms' i m' within ∙ ap (λ x. x ∷ drop (i + 1) ms') (sym is)

  here : LeftAgree inner ms (m' ∷ drop (i + 1) ms') all → all ≡ both (member_agrees inner (first_with m'.tag (from_tag m'.tag ms)) m') (members_agree inner ms (drop (i + 1) ms'))
  here left =
      sym left.so_far ∙ ap (λ o. both (member_agrees inner o m') (members_agree inner ms (drop (i + 1) ms'))) (sym (first_is m'.tag ms left.old))

  moved : i < length ms' → m' ≡ get_or ms' i m' → LeftAgree inner ms (drop i ms') all → LeftAgree inner ms (m' ∷ drop (i + 1) ms') all
  moved within is left = subst (λ xs. LeftAgree inner ms xs all) (next_new within is) left

  pub goes_on : (front : List Member) → front ≡ from_tag m'.tag ms → i < length ms' → m' ≡ get_or ms' i m' → LeftAgree inner ms (drop i ms') all → member_agrees inner (first_with m'.tag front) m' ≡ agree → LeftAgree inner front (drop (i + 1) ms') all
  goes_on front front_is within is left agreed =
      let at = moved within is left in
      let agreed_at = ap (λ f. member_agrees inner (first_with m'.tag f) m') (sym front_is) ∙ agreed in
      subst (λ f. LeftAgree inner f (drop (i + 1) ms') all) (sym front_is) (record {
        old = from_rises m'.tag ms left.old;
        new = at.new.1;
        so_far = same_later inner m'.tag ms (drop (i + 1) ms') at.new.0 at.new.1 ∙ sym (here at ∙ ap (λ a. both a (members_agree inner ms (drop (i + 1) ms'))) agreed_at);
      })

  pub fails : (front : List Member) (reason : Reason) → front ≡ from_tag m'.tag ms → i < length ms' → m' ≡ get_or ms' i m' → LeftAgree inner ms (drop i ms') all → member_agrees inner (first_with m'.tag front) m' ≡ differ reason → all ≡ differ reason
  fails front reason front_is within is left differs =
      let differs_at = ap (λ f. member_agrees inner (first_with m'.tag f) m') (sym front_is) ∙ differs in
      here (moved within is left) ∙ ap (λ a. both a (members_agree inner ms (drop (i + 1) ms'))) differs_at
