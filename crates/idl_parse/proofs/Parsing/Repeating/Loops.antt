-- Readers that repeat: the fuel is enough, since each turn takes a token.
use Rattle.std.proofs.Common.{◌≡◌, ℕ, zero, suc, ◌<◌, Bool, cond, Ok, List, [], ◌∷◌, length, ap, arith}
use Rattle.facts.specs.ResultSteps.{◌>>=◌}
use Rattle.facts.proofs.ResultLaws.{bind_same_after}
use Rattle.idl_parse.specs.KindSteps.{begins}
use Rattle.idl_parse.specs.ReadSteps.{Read, Shrinks, mark_at, until_in, until_at}
use Rattle.idl_lex.specs.declared.kind.Kind.TheVariants as kinds
use Rattle.idl_lex.specs.declared.sign.Sign.{Sign}
use Rattle.idl_lex.specs.declared.token.Token.{Token}

pub cond_same : {A : Type 0} (b : Bool) (x y z : A) → y ≡ z → cond b x y ≡ cond b x z
cond_same b x y z same = ap (cond b x) same

-- { P } sign, one turn after the other
abbrev pub one_turn : {A : Type 0} → Sign → (List Token → Read A) → (List Token → Read (List A)) → List Token → Read (List A)
one_turn sign f again tokens =
    cond (begins (kinds.Sign sign) tokens) (mark_at sign tokens >>= λ close. Ok ([], close.1))
    (f tokens >>= λ x. (again x.1 >>= λ xs. Ok (x.0 ∷ xs.0, xs.1)))

module _ {A : Type 0} (sign : Sign) (f : List Token → Read A) (shrinks : Shrinks f) where
  turn_same : (g h : List Token → Read (List A)) (ts : List Token) → ((rest : List Token) → length rest < length ts → g rest ≡ h rest) → one_turn sign f g ts ≡ one_turn sign f h ts
  turn_same g h ts same =
      cond_same (begins (kinds.Sign sign) ts) (mark_at sign ts >>= λ close. Ok ([], close.1)) (f ts >>= λ x. (g x.1 >>= λ xs. Ok (x.0 ∷ xs.0, xs.1))) (f ts >>= λ x. (h x.1 >>= λ xs. Ok (x.0 ∷ xs.0, xs.1)))
      (bind_same_after (f ts) (λ x. (g x.1 >>= λ xs. Ok (x.0 ∷ xs.0, xs.1))) (λ x. (h x.1 >>= λ xs. Ok (x.0 ∷ xs.0, xs.1)))
      (λ x is. ap (λ r. r >>= λ xs. Ok (x.0 ∷ xs.0, xs.1)) (same x.1 (shrinks ts x.0 x.1 is))))

  fuel_same : (a b : ℕ) (ts : List Token) → length ts < a → length ts < b → until_in a sign f ts ≡ until_in b sign f ts
  fuel_same zero b ts lt lt' = absurd (omega arith)
  fuel_same (suc a) zero ts lt lt' = absurd (omega arith)
  fuel_same (suc a) (suc b) ts lt lt' =
      turn_same (until_in a sign f) (until_in b sign f) ts (λ rest less. fuel_same a b rest (omega arith) (omega arith))

  pub until_turn : (ts : List Token) → until_at sign f ts ≡ one_turn sign f (until_at sign f) ts
  unfolding until_at
  until_turn ts =
      turn_same (until_in (length ts) sign f) (λ rest. until_in (suc (length rest)) sign f rest) ts
      (λ rest less. fuel_same (length ts) (suc (length rest)) rest less (omega arith))
