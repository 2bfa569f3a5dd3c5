-- Two types are the same or not.
use Rattle.std.proofs.Common.{◌≡◌, ◌⊎◌, inl, inr, ℕ, Bool, true, false, refl, sym, ap, ap₂, ◌∙◌, true≢false, nat_eq, eq-eqb, eqb-true}
use base.Stored.{Gv, gnil, gnum, gcons}
use Rattle.tars_model.specs.contracts.ty.Ty as ty
use Rattle.tars_model.specs.declared.ty.Ty.{Ty}

pub decided : (b : Bool) → (b ≡ true) ⊎ ¬ (b ≡ true)
decided true = inl refl
decided false = inr (λ e. cc)

same_number : (m n : ℕ) → (m ≡ n) ⊎ ¬ (m ≡ n)
same_number m n = by_test (nat_eq m n) refl
  where
    by_test : (b : Bool) → nat_eq m n ≡ b → (m ≡ n) ⊎ ¬ (m ≡ n)
    by_test true is = inl (eqb-true m n is)
    by_test false other = inr (λ e. true≢false (sym (eq-eqb m n e) ∙ other))

head_is : {a b c d : Gv} → gcons a b ≡ gcons c d → a ≡ c
head_is e = cc

tail_is : {a b c d : Gv} → gcons a b ≡ gcons c d → b ≡ d
tail_is e = cc

number_is : {m n : ℕ} → gnum m ≡ gnum n → m ≡ n
number_is e = cc

both : {a b c d : Gv} → (a ≡ c) ⊎ ¬ (a ≡ c) → (b ≡ d) ⊎ ¬ (b ≡ d) → (gcons a b ≡ gcons c d) ⊎ ¬ (gcons a b ≡ gcons c d)
both (inl one) (inl two) = inl (ap₂ gcons one two)
both (inr other) two = inr (λ e. other (head_is e))
both (inl one) (inr other) = inr (λ e. other (tail_is e))

from_number : {m n : ℕ} → (m ≡ n) ⊎ ¬ (m ≡ n) → (gnum m ≡ gnum n) ⊎ ¬ (gnum m ≡ gnum n)
from_number (inl same) = inl (ap gnum same)
from_number (inr other) = inr (λ e. other (number_is e))

same_code : (a b : Gv) → (a ≡ b) ⊎ ¬ (a ≡ b)
same_code gnil gnil = inl refl
same_code gnil (gnum n) = inr (λ e. cc)
same_code gnil (gcons c d) = inr (λ e. cc)
same_code (gnum m) gnil = inr (λ e. cc)
same_code (gnum m) (gnum n) = from_number (same_number m n)
same_code (gnum m) (gcons c d) = inr (λ e. cc)
same_code (gcons a b) gnil = inr (λ e. cc)
same_code (gcons a b) (gnum n) = inr (λ e. cc)
same_code (gcons a b) (gcons c d) = both (same_code a c) (same_code b d)

pub same_or_not : (t s : Ty) → (t ≡ s) ⊎ ¬ (t ≡ s)
same_or_not t s = by_code (same_code (ty.the_row.coded.code t) (ty.the_row.coded.code s))
  where
    by_code : (ty.the_row.coded.code t ≡ ty.the_row.coded.code s) ⊎ ¬ (ty.the_row.coded.code t ≡ ty.the_row.coded.code s) → (t ≡ s) ⊎ ¬ (t ≡ s)
    by_code (inl same) = inl (ty.the_row.coded.inj t s same)
    by_code (inr other) = inr (λ e. other (ap (λ (x : Ty). ty.the_row.coded.code x) e))
