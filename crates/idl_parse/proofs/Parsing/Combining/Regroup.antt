-- The same reader under another relation, another shape or another spelling of it.
use Rattle.std.proofs.Common.{◌≡◌, ℕ, ◌≤◌, true, List, ◌∷◌, ◌++◌, sym, ◌∙◌, arith}
use Rattle.idl_parse.specs.Rules.{Rel}
use Rattle.idl_lex.specs.declared.token.Token.{Token}
use Rattle.idl_parse.proofs.Parsing.Combining.Readers.{Reader, Shape, starts, Begun, has_some, has_none, Fresh, some_more, no_more, Reads, kept_as, stayed_as, deep_as, filled_as}

pub same_relation : {A : Type 0} (k n limit a b : ℕ) (S : Shape) (D E : Rel A) (f : Reader A) → Reads k n limit a b S D f → ((ts : List Token) (x : A) (rest : List Token) → D ts x rest → E ts x rest) → ((ts : List Token) (x : A) (rest : List Token) → E ts x rest → D ts x rest) → Reads k n limit a b S E f
same_relation k n limit a b S D E f r there back = record {
  sound = λ ts x rest lt e. there ts x rest (r.sound ts x rest lt e);
  complete = λ ts x rest lt d free. r.complete ts x rest lt (back ts x rest d) free;
  begun = λ ts x rest lt d. r.begun ts x rest lt (back ts x rest d);
  keeps = r.keeps;
  stays = r.stays;
  deep = r.deep;
  filled = r.filled;
}

pub same_reader : {A : Type 0} (k n limit a b : ℕ) (S : Shape) (D : Rel A) (f g : Reader A) → Reads k n limit a b S D f → ((m : ℕ) → n ≤ m → (ts : List Token) → g m ts ≡ f m ts) → Reads k n limit a b S D g
same_reader k n limit a b S D f g r is =
    let here : n ≤ n = omega arith in
    record {
      sound = λ ts x rest lt e. r.sound ts x rest lt (sym (is n here ts) ∙ e);
      complete = λ ts x rest lt d free. is n here ts ∙ r.complete ts x rest lt d free;
      begun = r.begun;
      keeps = λ ts x rest lt e.
          let h = r.keeps ts x rest lt (sym (is n here ts) ∙ e) in
          kept_as n S g h (λ m le more ok. is m le (h.prefix ++ more) ∙ h.again m le more ok);
      stays = λ ts left lt e.
          let h = r.stays ts left lt (sym (is n here ts) ∙ e) in
          stayed_as n S g h h.fresh
          (λ m above tail free. is m (omega arith) (h.prefix ++ (h.more ++ tail)) ∙ h.fills m above tail free)
          (λ t l same m le others. is m le (h.prefix ++ (t ∷ others)) ∙ h.stuck t l same m le others);
      deep = λ ts left lt e.
          let h = r.deep ts left lt (sym (is n here ts) ∙ e) in
          deep_as n S g h (λ m above tail free. is m (omega arith) (h.prefix ++ (h.next ∷ (h.more ++ tail))) ∙ h.fills m above tail free);
      filled =
          let h = r.filled in
          filled_as n S g h h.fresh (λ m above tail free. is m (omega arith) (h.more ++ tail) ∙ h.fills m above tail free);
    }

-- more kinds that it may begin with or that would go on with it
module _ (S T : Shape) (first : (ts : List Token) → starts S.first ts ≡ true → starts T.first ts ≡ true) (follow : (ts : List Token) → starts S.follow ts ≡ true → starts T.follow ts ≡ true) (empty : S.empty ≡ T.empty) where
  begun_in : (ts rest : List Token) → Begun S ts rest → Begun T ts rest
  begun_in ts rest (has_some st less) = has_some (first ts st) less
  begun_in ts rest (has_none e is) = has_none (sym empty ∙ e) is

  fresh_in : (ts : List Token) → Fresh S ts → Fresh T ts
  fresh_in ts (some_more st) = some_more (first ts st)
  fresh_in ts (no_more e is) = no_more (sym empty ∙ e) is

  free_in : (ts : List Token) → (starts T.follow ts ≡ true → ⊥) → starts S.follow ts ≡ true → ⊥
  free_in ts free st = free (follow ts st)

  pub wider : {A : Type 0} (k n limit a b : ℕ) (D : Rel A) (f : Reader A) → Reads k n limit a b S D f → Reads k n limit a b T D f
  wider k n limit a b D f r = record {
    sound = r.sound;
    complete = λ ts x rest lt d free. r.complete ts x rest lt d (free_in rest free);
    begun = λ ts x rest lt d. begun_in ts rest (r.begun ts x rest lt d);
    keeps = λ ts x rest lt e.
        let h = r.keeps ts x rest lt e in
        kept_as n T f h (λ m le more ok. h.again m le more (λ st. ok (follow more st)));
    stays = λ ts left lt e.
        let h = r.stays ts left lt e in
        stayed_as n T f h (λ none. fresh_in h.more (h.fresh none)) (λ m above tail free. h.fills m above tail (free_in tail free)) h.stuck;
    deep = λ ts left lt e.
        let h = r.deep ts left lt e in
        deep_as n T f h (λ m above tail free. h.fills m above tail (free_in tail free));
    filled =
        let h = r.filled in
        filled_as n T f h (fresh_in h.more h.fresh) (λ m above tail free. h.fills m above tail (free_in tail free));
  }
