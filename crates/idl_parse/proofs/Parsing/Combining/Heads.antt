-- First tokens, sets of kinds, and results.
use Rattle.std.proofs.Common.{◌≡◌, ℕ, Bool, true, false, ◌&&◌, ◌||◌, not, Result, Ok, Err, List, [], ◌∷◌, ◌++◌, length, refl, sym, ap, ◌∙◌, arith, ◌⊎◌, inl, inr, length-append, append_assoc}
use Rattle.facts.specs.ResultSteps.{◌>>=◌}
use Rattle.idl_parse.specs.Depth.{following, opened, Shallow}
use Rattle.idl_parse.specs.KindSteps.{same_kind, holds, begins}
use Rattle.idl_parse.specs.ReadSteps.{Stop}
use Rattle.idl_lex.specs.declared.kind.Kind.{Kind}
use Rattle.idl_lex.specs.declared.token.Token.{Token}
use Rattle.idl_parse.proofs.Parsing.Combining.KindLaws.{same_kind_is}
use Rattle.idl_parse.proofs.Parsing.Combining.Readers.{head_of, holds_head, starts}

-- ---- results

pub bind_err : {A B : Type 0} (r : Result A Stop) (f : A → Result B Stop) (s : Stop) → (r >>= f) ≡ Err s → (r ≡ Err s) ⊎ ((x : A) × (r ≡ Ok x) × (f x ≡ Err s))
bind_err (Ok x) f s e = inr (x, refl, e)
bind_err (Err t) f s e = inl cc

pub then_ok : {A B : Type 0} (r : Result A Stop) (f : A → Result B Stop) (x : A) → r ≡ Ok x → (r >>= f) ≡ f x
then_ok r f x is = rw is refl

pub then_err : {A B : Type 0} (r : Result A Stop) (f : A → Result B Stop) (s : Stop) → r ≡ Err s → (r >>= f) ≡ Err s
then_err r f s is = rw is refl

-- ---- sets of kinds

pub true_or : (a b : Bool) → a ≡ true → (a || b) ≡ true
true_or true b is = refl
true_or false b is = cc

pub or_true : (a b : Bool) → b ≡ true → (a || b) ≡ true
or_true true b is = refl
or_true false b is = is

pub or_cases : (a b : Bool) → (a || b) ≡ true → (a ≡ true) ⊎ (b ≡ true)
or_cases true b is = inl refl
or_cases false b is = inr is

pub and_cases : (a b : Bool) → (a && b) ≡ true → (a ≡ true) × (b ≡ true)
and_cases true b is = (refl, is)
and_cases false b is = cc

holds_left : (k : Kind) (xs ys : List Kind) → holds k xs ≡ true → holds k (xs ++ ys) ≡ true
unfolding holds
holds_left k [] ys is = cc
holds_left k (x ∷ xs) ys is =
    elim (or_cases (same_kind k x) (holds k xs) is) [
      | inl here ↦ true_or (same_kind k x) (holds k (xs ++ ys)) here
      | inr there ↦ or_true (same_kind k x) (holds k (xs ++ ys)) (holds_left k xs ys there)
    ]

holds_right : (k : Kind) (xs ys : List Kind) → holds k ys ≡ true → holds k (xs ++ ys) ≡ true
unfolding holds
holds_right k [] ys is = is
holds_right k (x ∷ xs) ys is = or_true (same_kind k x) (holds k (xs ++ ys)) (holds_right k xs ys is)

pub starts_left : (xs ys : List Kind) (ts : List Token) → starts xs ts ≡ true → starts (xs ++ ys) ts ≡ true
starts_left xs ys [] is = cc
starts_left xs ys (t ∷ ts) is = holds_left t.kind xs ys is

pub starts_right : (xs ys : List Kind) (ts : List Token) → starts ys ts ≡ true → starts (xs ++ ys) ts ≡ true
starts_right xs ys [] is = cc
starts_right xs ys (t ∷ ts) is = holds_right t.kind xs ys is

-- no kind is in both
abbrev pub apart : List Kind → List Kind → Bool
apart [] ys = true
apart (x ∷ xs) ys = not (holds x ys) && apart xs ys

kinds_apart : (k : Kind) (xs ys : List Kind) → apart xs ys ≡ true → holds k xs ≡ true → holds k ys ≡ true → ⊥
unfolding holds
kinds_apart k [] ys no_common in_xs in_ys = cc
kinds_apart k (x ∷ xs) ys no_common in_xs in_ys =
    let both = and_cases (not (holds x ys)) (apart xs ys) no_common in
    elim (or_cases (same_kind k x) (holds k xs) in_xs) [
      | inl here ↦ clash (holds x ys) (ap (λ z. holds z ys) (sym (same_kind_is k x here)) ∙ in_ys) both.0
      | inr there ↦ kinds_apart k xs ys both.1 there in_ys
    ]
  where
    clash : (b : Bool) → b ≡ true → not b ≡ true → ⊥
    clash true is is_not = cc
    clash false is is_not = cc

pub starts_apart : (xs ys : List Kind) (ts : List Token) → apart xs ys ≡ true → starts xs ts ≡ true → starts ys ts ≡ true → ⊥
starts_apart xs ys [] no_common in_xs in_ys = cc
starts_apart xs ys (t ∷ ts) no_common in_xs in_ys = kinds_apart t.kind xs ys no_common in_xs in_ys

pub starts_same : (xs : List Kind) (ts us : List Token) → head_of ts ≡ head_of us → starts xs ts ≡ starts xs us
starts_same xs ts us same = ap (holds_head xs) same

pub starts_nothing : (xs : List Kind) (ts : List Token) → ts ≡ [] → starts xs ts ≡ true → ⊥
starts_nothing xs ts is st = let e : starts xs ts ≡ false = ap (starts xs) is in cc

pub holds_one : (k j : Kind) → holds k (j ∷ []) ≡ same_kind k j
unfolding holds
holds_one k j = or_false (same_kind k j)
  where
    or_false : (b : Bool) → (b || false) ≡ b
    or_false true = refl
    or_false false = refl

pub begins_is : (k : Kind) (ts : List Token) → begins k ts ≡ starts (k ∷ []) ts
unfolding begins
begins_is k [] = refl
begins_is k (t ∷ ts) = sym (holds_one t.kind k)

-- ---- lists

pub head_append : (prefix a b : List Token) → head_of a ≡ head_of b → head_of (prefix ++ a) ≡ head_of (prefix ++ b)
head_append [] a b same = same
head_append (t ∷ ts) a b same = refl

pub opened_append : (n : ℕ) (a b : List Token) → opened n (a ++ b) ≡ opened (opened n a) b
opened_append n [] b = refl
opened_append n (t ∷ ts) b = opened_append (following t.kind n) ts b

pub shallow_append : (limit n : ℕ) (a b : List Token) → Shallow limit n a → Shallow limit (opened n a) b → Shallow limit n (a ++ b)
shallow_append limit n [] b left right = right
shallow_append limit n (t ∷ ts) b left right = (left.0, shallow_append limit (following t.kind n) ts b left.1 right)

pub empty_both : (a b : List Token) → a ++ b ≡ [] → (a ≡ []) × (b ≡ [])
empty_both [] b is = (refl, is)
empty_both (t ∷ ts) b is = cc

pub prefixes_join : (a b mid rest ts : List Token) → ts ≡ a ++ mid → mid ≡ b ++ rest → ts ≡ (a ++ b) ++ rest
prefixes_join a b mid rest ts is is' = is ∙ ap (λ m. a ++ m) is' ∙ sym (append_assoc a b rest)

pub length_prefix : (prefix rest tokens : List Token) → tokens ≡ prefix ++ rest → length rest ≡ length tokens → prefix ≡ []
length_prefix [] rest tokens is same = refl
length_prefix (t ∷ ts) rest tokens is same = absurd (omega (arith, ap length is, length-append ts rest))
