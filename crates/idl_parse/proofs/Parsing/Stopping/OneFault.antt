-- Tokens have one fault.
use Rattle.std.proofs.Common.{◌≡◌, ◌<◌, ◌≤◌, ◌⊎◌, inl, inr, ℕ, zero, suc, List, [], ◌∷◌, length, take, drop, refl, sym, ap, subst, ◌∙◌, arith, length-take}
use Rattle.std.proofs.lemmas.List.{take-take}
use Rattle.idl_parse.specs.Depth.{following, opened, Shallow}
use Rattle.idl_parse.specs.Faults.{UnexpectedAt, TooDeepAt, StopsAt, IsFault, byte_of}
use Rattle.idl_parse.specs.declared.parse_fault.ParseWhy.{ParseWhy}
use Rattle.idl_parse.specs.declared.parse_fault.ParseWhy.TheVariants.{Unexpected, TooDeep}
use Rattle.idl_lex.specs.declared.token.Token.{Token}

-- before each token fewer are open than the limit
shallow_at : (most n : ℕ) (ts : List Token) (k : ℕ) → Shallow most n ts → k < length ts → opened n (take k ts) < most
shallow_at most n [] k h lt = omega (arith, lt)
shallow_at most n (t ∷ ts) zero h lt = h.0
shallow_at most n (t ∷ ts) (suc k) h lt = shallow_at most (following t.kind n) ts k h.1 (omega (arith, lt))

-- also before those that stand before an index
shallow_before : (most : ℕ) (ts : List Token) (p q : ℕ) → Shallow most 0 (take p ts) → q < p → p ≤ length ts → opened 0 (take q ts) < most
shallow_before most ts p q h lt within =
    subst (λ l. opened 0 l < most) (take-take q p ts (omega arith)) (shallow_at most 0 (take p ts) q h (omega (arith, length-take p ts)))

abbrev Side : ℕ → ℕ → Type 0
Side p q = (p ≤ q) ⊎ (q < p)

side : (p q : ℕ) → Side p q
side zero q = inl (omega arith)
side (suc p) zero = inr (omega arith)
side (suc p) (suc q) = elim (side p q) [ inl le ↦ inl (omega (arith, le)) | inr lt ↦ inr (omega (arith, lt)) ]

same_unexpected : (most : ℕ) (ts : List Token) (p q : ℕ) → UnexpectedAt most ts p → UnexpectedAt most ts q → p ≤ q
same_unexpected most ts p q a b = elim (side p q) [
  | inl le ↦ le
  | inr lt ↦ absurd (b.longest.longest p lt a.longest.within a.longest.prefix)
]

same_deep : (most : ℕ) (ts : List Token) (p q : ℕ) → TooDeepAt most ts p → TooDeepAt most ts q → p ≤ q
same_deep most ts p q a b = elim (side p q) [
  | inl le ↦ le
  | inr lt ↦ absurd (omega (arith, shallow_before most ts p q a.shallow lt (omega (arith, a.within)), b.nested))
]

-- the two kinds exclude each other
apart : (most : ℕ) (ts : List Token) (p q : ℕ) → UnexpectedAt most ts p → TooDeepAt most ts q → ⊥
apart most ts p q a b = elim (side p q) [
  | inl le ↦ a.longest.longest (suc q) (omega arith) b.within b.goes_on
  | inr lt ↦ absurd (omega (arith, shallow_before most ts p q a.shallow lt a.longest.within, b.nested))
]

one_stop : (most : ℕ) (ts : List Token) (p q : ℕ) (v w : ParseWhy) → StopsAt most ts p v → StopsAt most ts q w → (p ≡ q) × (v ≡ w)
one_stop most ts p q Unexpected Unexpected a b = (omega (arith, same_unexpected most ts p q a b, same_unexpected most ts q p b a), refl)
one_stop most ts p q TooDeep TooDeep a b = (omega (arith, same_deep most ts p q a b, same_deep most ts q p b a), refl)
one_stop most ts p q Unexpected TooDeep a b = absurd (apart most ts p q a b)
one_stop most ts p q TooDeep Unexpected a b = absurd (apart most ts q p b a)

pub one_fault : (most end : ℕ) (ts : List Token) (a b : ℕ) (v w : ParseWhy) → IsFault most end ts a v → IsFault most end ts b w → (a ≡ b) × (v ≡ w)
one_fault most end ts a b v w f g =
    let same = one_stop most ts f.index g.index v w f.stops g.stops in
    (f.byte ∙ ap (λ k. byte_of end (drop k ts)) same.0 ∙ sym g.byte, same.1)
