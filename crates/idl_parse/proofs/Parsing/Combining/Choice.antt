-- A reader that is chosen by the first token reads one relation or the other.
use Rattle.std.proofs.Common.{◌≡◌, ℕ, ◌<◌, Bool, true, false, cond, Ok, List, [], ◌∷◌, ◌++◌, length, refl, sym, ap, ◌∙◌, arith, inl, inr}
use Rattle.std.proofs.lemmas.Bool.{cases_Bool}
use Rattle.idl_parse.specs.KindSteps.{begins}
use Rattle.idl_parse.specs.ReadSteps.{Read}
use Rattle.idl_parse.specs.Rules.{Rel, Either}
use Rattle.idl_lex.specs.declared.kind.Kind.{Kind}
use Rattle.idl_lex.specs.declared.token.Token.{Token}
use Rattle.idl_parse.proofs.Parsing.Combining.Heads.{starts_left, starts_right, apart, starts_apart, starts_same, starts_nothing, begins_is}
use Rattle.idl_parse.proofs.Parsing.Combining.Readers.{Reader, halted, too_deep, Shape, head_of, starts, Begun, has_some, has_none, Fresh, some_more, no_more, Kept, Stayed, Deep, Filled, Reads, kept_as, stayed_as, deep_as, filled_as}

-- by a kind
abbrev pub choose : {A : Type 0} → Kind → Reader A → Reader A → Reader A
choose kind f g m tokens = cond (begins kind tokens) (f m tokens) (g m tokens)

abbrev pub one_kind : Kind → List Kind → Shape
one_kind kind follow = record { first = kind ∷ []; follow = follow; empty = false }

abbrev pub alt : Shape → Shape → Shape
alt S T = record {
  first = S.first ++ T.first;
  follow = (S.follow ++ T.follow) ++ cond T.empty S.first [];
  empty = T.empty;
}

begins_same : (kind : Kind) (ts us : List Token) → head_of ts ≡ head_of us → begins kind ts ≡ begins kind us
begins_same kind ts us same = begins_is kind ts ∙ starts_same (kind ∷ []) ts us same ∙ sym (begins_is kind us)

pub begins_by_start : (kind : Kind) (ts : List Token) → starts (kind ∷ []) ts ≡ true → begins kind ts ≡ true
begins_by_start kind ts st = begins_is kind ts ∙ st

begins_not : (kind : Kind) (ts : List Token) → (starts (kind ∷ []) ts ≡ true → ⊥) → begins kind ts ≡ false
begins_not kind ts h =
    elim (cases_Bool (begins kind ts)) [ inl b ↦ absurd (h (sym (begins_is kind ts) ∙ b)) | inr b ↦ b ]

pub take_first : {A : Type 0} (kind : Kind) (f g : Reader A) (m : ℕ) (ts : List Token) (r : Read A) → begins kind ts ≡ true → f m ts ≡ r → choose kind f g m ts ≡ r
take_first kind f g m ts r b e = rw b e

pub take_second : {A : Type 0} (kind : Kind) (f g : Reader A) (m : ℕ) (ts : List Token) (r : Read A) → begins kind ts ≡ false → g m ts ≡ r → choose kind f g m ts ≡ r
take_second kind f g m ts r b e = rw b e

never : false ≡ true → ⊥
never is = cc

-- the first token of a prefix that is not empty
same_head : (prefix a b ts : List Token) → ts ≡ prefix ++ b → (prefix ≡ [] → head_of a ≡ head_of b) → head_of (prefix ++ a) ≡ head_of ts
same_head [] a b ts is same = same refl ∙ sym (ap head_of is)
same_head (t ∷ prefix) a b ts is same = sym (ap head_of is)

pub fresh_starts : (S : Shape) (more tail : List Token) → S.empty ≡ false → Fresh S more → starts S.first (more ++ tail) ≡ true
fresh_starts S [] tail whole (some_more st) = absurd (starts_nothing S.first [] refl st)
fresh_starts S (t ∷ more) tail whole (some_more st) = st
fresh_starts S more tail whole (no_more empty is) = cc

-- some input of the first is one of both
pub filled_by_first : {A : Type 0} (n : ℕ) (kind : Kind) (follow others : List Kind) (empty : Bool) (f g h : Reader A) → Filled n (one_kind kind follow) f → ((m : ℕ) → n < m → (ts : List Token) → h m ts ≡ choose kind f g m ts) → Filled n (record { first = kind ∷ others; follow = follow; empty = empty }) h
filled_by_first n kind follow others empty f g h first is =
    filled_as n (record { first = kind ∷ others; follow = follow; empty = empty }) h first (wide first.more first.fresh) (λ m above tail free.
    is m above (first.more ++ tail)
    ∙ take_first kind f g m (first.more ++ tail) (Ok (first.value, tail))
    (begins_by_start kind (first.more ++ tail) (fresh_starts (one_kind kind follow) first.more tail refl first.fresh))
    (first.fills m above tail free))
  where
    wide : (ts : List Token) → Fresh (one_kind kind follow) ts → Fresh (record { first = kind ∷ others; follow = follow; empty = empty }) ts
    wide ts (some_more st) = some_more (starts_left (kind ∷ []) others ts st)
    wide ts (no_more none is) = absurd (never none)

module _ {A : Type 0} (k n limit a b : ℕ) (kind : Kind) (follow : List Kind) (T : Shape) (P Q : Rel A) (f g : Reader A)
    (no_common : apart (kind ∷ []) T.first ≡ true)
    (one : Reads k n limit a b (one_kind kind follow) P f) (two : Reads k n limit a b T Q g) where
  sound : (ts : List Token) (x : A) (rest : List Token) → length ts < k → choose kind f g n ts ≡ Ok (x, rest) → Either P Q ts x rest
  sound ts x rest lt e =
      elim (cases_Bool (begins kind ts)) [
        | inl b ↦ inl (one.sound ts x rest lt (sym (take_first kind f g n ts (f n ts) b refl) ∙ e))
        | inr b ↦ inr (two.sound ts x rest lt (sym (take_second kind f g n ts (g n ts) b refl) ∙ e))
      ]

  first_here : (ts rest : List Token) → Begun (one_kind kind follow) ts rest → begins kind ts ≡ true
  first_here ts rest (has_some st less) = begins_by_start kind ts st
  first_here ts rest (has_none empty is) = cc

  second_here : (ts rest : List Token) → Begun T ts rest → (starts (alt (one_kind kind follow) T).follow rest ≡ true → ⊥) → begins kind ts ≡ false
  second_here ts rest (has_some st less) free = begins_not kind ts (λ h. starts_apart (kind ∷ []) T.first ts no_common h st)
  second_here ts rest (has_none empty is) free =
      begins_not kind ts (λ h. free (starts_right (follow ++ T.follow) (cond T.empty (kind ∷ []) []) rest (rw empty (ap (starts (kind ∷ [])) (sym is) ∙ h))))

  free_first : (ts : List Token) → (starts (alt (one_kind kind follow) T).follow ts ≡ true → ⊥) → starts follow ts ≡ true → ⊥
  free_first ts free h = free (starts_left (follow ++ T.follow) (cond T.empty (kind ∷ []) []) ts (starts_left follow T.follow ts h))

  free_second : (ts : List Token) → (starts (alt (one_kind kind follow) T).follow ts ≡ true → ⊥) → starts T.follow ts ≡ true → ⊥
  free_second ts free h = free (starts_left (follow ++ T.follow) (cond T.empty (kind ∷ []) []) ts (starts_right follow T.follow ts h))

  complete : (ts : List Token) (x : A) (rest : List Token) → length ts < k → Either P Q ts x rest → (starts (alt (one_kind kind follow) T).follow rest ≡ true → ⊥) → choose kind f g n ts ≡ Ok (x, rest)
  complete ts x rest lt (inl p) free =
      take_first kind f g n ts (Ok (x, rest)) (first_here ts rest (one.begun ts x rest lt p)) (one.complete ts x rest lt p (free_first rest free))
  complete ts x rest lt (inr q) free =
      take_second kind f g n ts (Ok (x, rest)) (second_here ts rest (two.begun ts x rest lt q) free) (two.complete ts x rest lt q (free_second rest free))

  begun_first : (ts rest : List Token) → Begun (one_kind kind follow) ts rest → Begun (alt (one_kind kind follow) T) ts rest
  begun_first ts rest (has_some st less) = has_some (starts_left (kind ∷ []) T.first ts st) less
  begun_first ts rest (has_none empty is) = cc

  begun_second : (ts rest : List Token) → Begun T ts rest → Begun (alt (one_kind kind follow) T) ts rest
  begun_second ts rest (has_some st less) = has_some (starts_right (kind ∷ []) T.first ts st) less
  begun_second ts rest (has_none empty is) = has_none empty is

  begun : (ts : List Token) (x : A) (rest : List Token) → length ts < k → Either P Q ts x rest → Begun (alt (one_kind kind follow) T) ts rest
  begun ts x rest lt (inl p) = begun_first ts rest (one.begun ts x rest lt p)
  begun ts x rest lt (inr q) = begun_second ts rest (two.begun ts x rest lt q)

  not_empty : (S : Shape) (prefix rest ts : List Token) → ts ≡ prefix ++ rest → Begun S ts rest → prefix ≡ [] → S.empty ≡ true
  not_empty S prefix rest ts is (has_some st less) none =
      let e : length ts ≡ length rest = ap length is ∙ ap (λ x. length (x ++ rest)) none in absurd (omega arith)
  not_empty S prefix rest ts is (has_none empty is') none = empty

  -- where the second read from the start, the first is not chosen there later
  second_later : (prefix rest more ts : List Token) → ts ≡ prefix ++ rest → begins kind ts ≡ false → (prefix ≡ [] → T.empty ≡ true) → (starts (alt (one_kind kind follow) T).follow more ≡ true → head_of more ≡ head_of rest) → begins kind (prefix ++ more) ≡ false
  second_later (t ∷ prefix) rest more ts is b empty ok = begins_same kind (t ∷ (prefix ++ more)) ts (sym (ap head_of is)) ∙ b
  second_later [] rest more ts is b empty ok =
      begins_not kind more (λ h.
      let same : head_of more ≡ head_of rest = ok (starts_right (follow ++ T.follow) (cond T.empty (kind ∷ []) []) more (rw (empty refl) h)) in
      let there : begins kind more ≡ begins kind ts = begins_same kind more ts (same ∙ sym (ap head_of is)) in
      let here : begins kind more ≡ true = begins_by_start kind more h in
      cc)

  keeps : (ts : List Token) (x : A) (rest : List Token) → length ts < k → choose kind f g n ts ≡ Ok (x, rest) → Kept n limit a b (alt (one_kind kind follow) T) (choose kind f g) ts x rest
  keeps ts x rest lt e =
      elim (cases_Bool (begins kind ts)) [
        | inl here ↦
            let fx : f n ts ≡ Ok (x, rest) = sym (take_first kind f g n ts (f n ts) here refl) ∙ e in
            let h = one.keeps ts x rest lt fx in
            kept_as n (alt (one_kind kind follow) T) (choose kind f g) h (λ m le more ok.
            take_first kind f g m (h.prefix ++ more) (Ok (x, more))
            (begins_same kind (h.prefix ++ more) ts (same_head h.prefix more rest ts h.whole (λ none. absurd (never (not_empty (one_kind kind follow) h.prefix rest ts h.whole (one.begun ts x rest lt (one.sound ts x rest lt fx)) none)))) ∙ here)
            (h.again m le more (λ st. ok (starts_left (follow ++ T.follow) (cond T.empty (kind ∷ []) []) more (starts_left follow T.follow more st)))))
        | inr here ↦
            let gx : g n ts ≡ Ok (x, rest) = sym (take_second kind f g n ts (g n ts) here refl) ∙ e in
            let h = two.keeps ts x rest lt gx in
            kept_as n (alt (one_kind kind follow) T) (choose kind f g) h (λ m le more ok.
            take_second kind f g m (h.prefix ++ more) (Ok (x, more))
            (second_later h.prefix rest more ts h.whole here (not_empty T h.prefix rest ts h.whole (two.begun ts x rest lt (two.sound ts x rest lt gx))) ok)
            (h.again m le more (λ st. ok (starts_left (follow ++ T.follow) (cond T.empty (kind ∷ []) []) more (starts_right follow T.follow more st)))))
      ]

  -- where the second was completed from the start, the first is not chosen
  second_at_fill : (prefix left more tail ts : List Token) → ts ≡ prefix ++ left → begins kind ts ≡ false → (prefix ≡ [] → Fresh T more) → (starts (alt (one_kind kind follow) T).follow tail ≡ true → ⊥) → begins kind (prefix ++ (more ++ tail)) ≡ false
  second_at_fill (t ∷ prefix) left more tail ts is b fresh free = begins_same kind (t ∷ (prefix ++ (more ++ tail))) ts (sym (ap head_of is)) ∙ b
  second_at_fill [] left more tail ts is b fresh free = begins_not kind (more ++ tail) (not_started more tail (fresh refl) free)
    where
      not_started : (more tail : List Token) → Fresh T more → (starts (alt (one_kind kind follow) T).follow tail ≡ true → ⊥) → starts (kind ∷ []) (more ++ tail) ≡ true → ⊥
      not_started [] tail (some_more st) free h = starts_nothing T.first [] refl st
      not_started (t ∷ more) tail (some_more st) free h = starts_apart (kind ∷ []) T.first (t ∷ more) no_common h st
      not_started more tail (no_more empty is) free h =
          free (starts_right (follow ++ T.follow) (cond T.empty (kind ∷ []) []) tail (rw empty (ap (λ x. starts (kind ∷ []) (x ++ tail)) (sym is) ∙ h)))

  fresh_first : (more : List Token) → Fresh (one_kind kind follow) more → Fresh (alt (one_kind kind follow) T) more
  fresh_first more (some_more st) = some_more (starts_left (kind ∷ []) T.first more st)
  fresh_first more (no_more empty is) = cc

  fresh_second : (more : List Token) → Fresh T more → Fresh (alt (one_kind kind follow) T) more
  fresh_second more (some_more st) = some_more (starts_right (kind ∷ []) T.first more st)
  fresh_second more (no_more empty is) = no_more empty is

  first_at_fill : (prefix left more tail ts : List Token) → ts ≡ prefix ++ left → begins kind ts ≡ true → (prefix ≡ [] → Fresh (one_kind kind follow) more) → begins kind (prefix ++ (more ++ tail)) ≡ true
  first_at_fill (t ∷ prefix) left more tail ts is b fresh = begins_same kind (t ∷ (prefix ++ (more ++ tail))) ts (sym (ap head_of is)) ∙ b
  first_at_fill [] left more tail ts is b fresh = begins_by_start kind (more ++ tail) (fresh_starts (one_kind kind follow) more tail refl (fresh refl))

  -- what stands after the prefix begins as what was left there
  as_at_first : (prefix more left ts : List Token) → ts ≡ prefix ++ left → head_of more ≡ head_of left → begins kind (prefix ++ more) ≡ begins kind ts
  as_at_first prefix more left ts is same = begins_same kind (prefix ++ more) ts (same_head prefix more left ts is (λ none. same))

  stays : (ts left : List Token) → length ts < k → choose kind f g n ts ≡ halted left → Stayed n limit a (alt (one_kind kind follow) T) (choose kind f g) ts left
  stays ts left lt e =
      elim (cases_Bool (begins kind ts)) [
        | inl here ↦
            let h = one.stays ts left lt (sym (take_first kind f g n ts (f n ts) here refl) ∙ e) in
            stayed_as n (alt (one_kind kind follow) T) (choose kind f g) h (λ none. fresh_first h.more (h.fresh none))
            (λ m above tail free.
            take_first kind f g m (h.prefix ++ (h.more ++ tail)) (Ok (h.value, tail))
            (first_at_fill h.prefix left h.more tail ts h.whole here h.fresh)
            (h.fills m above tail (free_first tail free)))
            (λ t l is m le others.
            take_first kind f g m (h.prefix ++ (t ∷ others)) (halted (t ∷ others))
            (as_at_first h.prefix (t ∷ others) left ts h.whole (sym (ap head_of is)) ∙ here)
            (h.stuck t l is m le others))
        | inr here ↦
            let h = two.stays ts left lt (sym (take_second kind f g n ts (g n ts) here refl) ∙ e) in
            stayed_as n (alt (one_kind kind follow) T) (choose kind f g) h (λ none. fresh_second h.more (h.fresh none))
            (λ m above tail free.
            take_second kind f g m (h.prefix ++ (h.more ++ tail)) (Ok (h.value, tail))
            (second_at_fill h.prefix left h.more tail ts h.whole here h.fresh free)
            (h.fills m above tail (free_second tail free)))
            (λ t l is m le others.
            take_second kind f g m (h.prefix ++ (t ∷ others)) (halted (t ∷ others))
            (as_at_first h.prefix (t ∷ others) left ts h.whole (sym (ap head_of is)) ∙ here)
            (h.stuck t l is m le others))
      ]

  deep : (ts left : List Token) → length ts < k → choose kind f g n ts ≡ too_deep left → Deep n limit a (alt (one_kind kind follow) T) (choose kind f g) ts left
  deep ts left lt e =
      elim (cases_Bool (begins kind ts)) [
        | inl here ↦
            let h = one.deep ts left lt (sym (take_first kind f g n ts (f n ts) here refl) ∙ e) in
            deep_as n (alt (one_kind kind follow) T) (choose kind f g) h (λ m above tail free.
            take_first kind f g m (h.prefix ++ (h.next ∷ (h.more ++ tail))) (Ok (h.value, tail))
            (as_at_first h.prefix (h.next ∷ (h.more ++ tail)) left ts h.whole (sym (ap head_of h.is)) ∙ here)
            (h.fills m above tail (free_first tail free)))
        | inr here ↦
            let h = two.deep ts left lt (sym (take_second kind f g n ts (g n ts) here refl) ∙ e) in
            deep_as n (alt (one_kind kind follow) T) (choose kind f g) h (λ m above tail free.
            take_second kind f g m (h.prefix ++ (h.next ∷ (h.more ++ tail))) (Ok (h.value, tail))
            (as_at_first h.prefix (h.next ∷ (h.more ++ tail)) left ts h.whole (sym (ap head_of h.is)) ∙ here)
            (h.fills m above tail (free_second tail free)))
      ]

  filled : Filled n (alt (one_kind kind follow) T) (choose kind f g)
  filled =
      let h = one.filled in
      filled_as n (alt (one_kind kind follow) T) (choose kind f g) h (fresh_first h.more h.fresh) (λ m above tail free.
      take_first kind f g m (h.more ++ tail) (Ok (h.value, tail))
      (begins_by_start kind (h.more ++ tail) (fresh_starts (one_kind kind follow) h.more tail refl h.fresh))
      (h.fills m above tail (free_first tail free)))

  pub choice : Reads k n limit a b (alt (one_kind kind follow) T) (Either P Q) (choose kind f g)
  choice = record {
    sound = sound;
    complete = complete;
    begun = begun;
    keeps = keeps;
    stays = stays;
    deep = deep;
    filled = filled;
  }
