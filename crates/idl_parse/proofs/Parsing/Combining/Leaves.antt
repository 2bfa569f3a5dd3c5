-- The smallest readers: no token, a token of a kind, a token of a kind that means something.
use Rattle.std.proofs.Common.{◌≡◌, ℕ, ◌<◌, Bool, true, false, cond, Option, Some, None, Ok, Err, List, [], ◌∷◌, refl, sym, ap, ◌∙◌, arith}
use Rattle.idl_parse.specs.Depth.{following}
use Rattle.idl_parse.specs.KindSteps.{same_kind, holds}
use Rattle.idl_parse.specs.ReadSteps.{Stop, Read, one_at, meant, means_at}
use Rattle.idl_parse.specs.Rules.{Gives, One, Means}
use Rattle.idl_lex.specs.declared.kind.Kind.{Kind}
use Rattle.idl_parse.specs.declared.parse_fault.ParseWhy.TheVariants.{Unexpected, TooDeep}
use Rattle.idl_lex.specs.declared.token.Token.{Token}
use Rattle.idl_parse.proofs.Parsing.Combining.KindLaws.{same_kind_is, is_same_kind}
use Rattle.idl_parse.proofs.Parsing.Combining.Heads.{holds_one}
use Rattle.idl_parse.proofs.Parsing.Combining.Readers.{Reader, halted, Shape, starts, has_some, has_none, some_more, no_more, Reads}

-- ---- no token

abbrev pub giving : {A : Type 0} → A → Reader A
giving x m tokens = Ok (x, tokens)

abbrev pub nothing : Shape
nothing = record { first = []; follow = []; empty = true }

abbrev read_ok : {A : Type 0} → A → List Token → Read A
read_ok x rest = Ok (x, rest)

abbrev failed : {A : Type 0} → Stop → Read A
failed s = Err s

ok_of : {A : Type 0} → A × List Token → Read A → A × List Token
ok_of d (Ok p) = p
ok_of d (Err s) = d

pair_is : {A : Type 0} (p q : A × List Token) → read_ok p.0 p.1 ≡ read_ok q.0 q.1 → (p.0 ≡ q.0) × (p.1 ≡ q.1)
unfolding ok_of
pair_is p q e = (ap (λ r. (ok_of p r).0) e, ap (λ r. (ok_of p r).1) e)

pub pair_of : {A : Type 0} (x y : A) (ts rest : List Token) → read_ok x ts ≡ read_ok y rest → (x ≡ y) × (ts ≡ rest)
pair_of x y ts rest e =
    pair_is (x, ts) (y, rest) e

pub gives : {A : Type 0} (k n limit a : ℕ) (x : A) → Reads k n limit a a nothing (Gives x) (giving x)
gives k n limit a x = record {
  sound = λ ts y rest lt e. pair_of x y ts rest e;
  complete = λ ts y rest lt p free. rw (p.0, p.1) refl;
  begun = λ ts y rest lt p. has_none refl p.1;
  keeps = λ ts y rest lt e.
      let p = pair_of x y ts rest e in
      record { prefix = []; whole = p.1; again = λ m le more ok. rw p.0 refl; shallow = tt; open_after = refl };
  stays = λ ts left lt e. absurd (never e);
  deep = λ ts left lt e. absurd (never e);
  filled = record { more = []; value = x; fresh = no_more refl refl; fills = λ m above tail free. refl };
}
  where
    never : {A : Type 0} {x : A} {ts : List Token} {s : Stop} → read_ok x ts ≡ failed s → ⊥
    never e = cc

wrong : TooDeep ≡ Unexpected → ⊥
wrong e = cc

-- ---- a token of the kind

one_ok : (kind : Kind) (ts : List Token) (x : Token) (rest : List Token) → one_at kind ts ≡ Ok (x, rest) → (x.kind ≡ kind) × (ts ≡ x ∷ rest)
unfolding one_at
one_ok kind [] x rest e = cc
one_ok kind (t ∷ ts) x rest e = by_test (same_kind t.kind kind) (same_kind_is t.kind kind) e
  where
    by_test : (b : Bool) → (b ≡ true → t.kind ≡ kind) → cond b (read_ok t ts) (halted (t ∷ ts)) ≡ Ok (x, rest) → (x.kind ≡ kind) × (t ∷ ts ≡ x ∷ rest)
    by_test true is e =
        let p = pair_of t x ts rest e in
        (ap (λ t. t.kind) (sym p.0) ∙ is refl, ap (λ u. u ∷ ts) p.0 ∙ ap (λ us. x ∷ us) p.1)
    by_test false is e = cc

one_again : (kind : Kind) (t : Token) (rest : List Token) → t.kind ≡ kind → one_at kind (t ∷ rest) ≡ Ok (t, rest)
unfolding one_at
one_again kind t rest is = rw (is_same_kind t.kind kind is) refl

-- where no such token is, reading stops here, and whatever follows
pub record Refused {A : Type 0} (f : List Token → Read A) (ts : List Token) (s : Stop) : Type 0 where
  pub is : s ≡ record { left = ts; why = Unexpected }
  pub always : (t : Token) (l : List Token) → ts ≡ t ∷ l → (others : List Token) → f (t ∷ others) ≡ halted (t ∷ others)

one_err : (kind : Kind) (ts : List Token) (s : Stop) → one_at kind ts ≡ Err s → Refused (one_at kind) ts s
unfolding one_at
one_err kind [] s e = record { is = cc; always = λ t l is others. cc }
one_err kind (u ∷ us) s e = by_test (same_kind u.kind kind) refl e
  where
    by_test : (b : Bool) → same_kind u.kind kind ≡ b → cond b (read_ok u us) (halted (u ∷ us)) ≡ Err s → Refused (one_at kind) (u ∷ us) s
    by_test true is e = cc
    by_test false is e = record {
      is = cc;
      always = λ t l same others.
          let h : same_kind t.kind kind ≡ false = (let q : u ≡ t = cc in ap (λ v. same_kind v.kind kind) (sym q)) ∙ is in
          rw h refl;
    }

abbrev pub sample : Kind → Token
sample kind = record { kind = kind; start = 0; end = 0 }

abbrev pub single : List Kind → Shape
single first = record { first = first; follow = []; empty = false }

pub one : (k n limit a b : ℕ) (kind : Kind) → a < limit → following kind a ≡ b → Reads k n limit a b (single (kind ∷ [])) (One kind) (λ m. one_at kind)
one k n limit a b kind within step = record {
  sound = λ ts x rest lt e. one_ok kind ts x rest e;
  complete = λ ts x rest lt p free. rw p.1 (one_again kind x rest p.0);
  begun = λ ts x rest lt p. has_some (rw p.1 (starts_so x rest p.0)) (rw p.1 (omega arith));
  keeps = λ ts x rest lt e.
      let p = one_ok kind ts x rest e in
      record {
        prefix = x ∷ [];
        whole = p.1;
        again = λ m le more ok. one_again kind x more p.0;
        shallow = (within, tt);
        open_after = ap (λ j. following j a) p.0 ∙ step;
      };
  stays = λ ts left lt e.
      let r = one_err kind ts (record { left = left; why = Unexpected }) e in
      let same : ts ≡ left = sym (ap (λ s. s.left) r.is) in
      record {
        prefix = [];
        whole = same;
        more = sample kind ∷ [];
        value = sample kind;
        fresh = λ none. some_more (starts_so (sample kind) [] refl);
        fills = λ m above tail free. one_again kind (sample kind) tail refl;
        stuck = λ t l is m le others. r.always t l (same ∙ is) others;
        shallow = tt;
      };
  deep = λ ts left lt e. absurd (never (one_err kind ts (record { left = left; why = TooDeep }) e));
  filled = record {
    more = sample kind ∷ [];
    value = sample kind;
    fresh = some_more (starts_so (sample kind) [] refl);
    fills = λ m above tail free. one_again kind (sample kind) tail refl;
  };
}
  where
    starts_so : (t : Token) (rest : List Token) → t.kind ≡ kind → starts (kind ∷ []) (t ∷ rest) ≡ true
    starts_so t rest is = holds_one t.kind kind ∙ is_same_kind t.kind kind is

    never : {ts left : List Token} → Refused (one_at kind) ts (record { left = left; why = TooDeep }) → ⊥
    never r = wrong (ap (λ s. s.why) r.is)

-- ---- a token of a kind that means something

meant_ok : {A : Type 0} (value : Option A) (t : Token) (ts : List Token) (x : Token × A) (rest : List Token) → meant value t ts ≡ Ok (x, rest) → (t ≡ x.0) × (value ≡ Some x.1) × (ts ≡ rest)
meant_ok None t ts x rest e = cc
meant_ok (Some v) t ts x rest e =
    let p : (t, v) ≡ x = (pair_of (t, v) x ts rest e).0 in
    (ap (λ q. q.0) p, ap (λ q. Some q.1) p, (pair_of (t, v) x ts rest e).1)

means_ok : {A : Type 0} (meaning : Kind → Option A) (ts : List Token) (x : Token × A) (rest : List Token) → means_at meaning ts ≡ Ok (x, rest) → Means meaning ts x rest
unfolding means_at
means_ok meaning [] x rest e = cc
means_ok meaning (t ∷ ts) x rest e =
    let p = meant_ok (meaning t.kind) t ts x rest e in
    (ap (λ u. meaning u.kind) (sym p.0) ∙ p.1, ap (λ u. u ∷ ts) p.0 ∙ ap (λ us. x.0 ∷ us) p.2)

means_again : {A : Type 0} (meaning : Kind → Option A) (x : Token × A) (rest : List Token) → meaning x.0.kind ≡ Some x.1 → means_at meaning (x.0 ∷ rest) ≡ Ok (x, rest)
unfolding means_at
means_again meaning x rest is = rw is refl

meant_err : {A : Type 0} (value : Option A) (t : Token) (ts : List Token) (s : Stop) → meant value t ts ≡ Err s → (value ≡ None) × (s ≡ record { left = t ∷ ts; why = Unexpected })
meant_err None t ts s e = (refl, cc)
meant_err (Some v) t ts s e = cc

means_err : {A : Type 0} (meaning : Kind → Option A) (ts : List Token) (s : Stop) → means_at meaning ts ≡ Err s → Refused (means_at meaning) ts s
unfolding means_at
means_err meaning [] s e = record { is = cc; always = λ t l is others. cc }
means_err meaning (u ∷ us) s e =
    let p = meant_err (meaning u.kind) u us s e in
    record {
      is = p.1;
      always = λ t l same others.
          let q : u ≡ t = cc in
          let h : meaning t.kind ≡ None = ap (λ v. meaning v.kind) (sym q) ∙ p.0 in
          rw h refl;
    }

-- the kinds that mean something are these, `<` and `>` are none of them, and one of them is this
pub record Meaning {A : Type 0} (meaning : Kind → Option A) (first : List Kind) : Type 0 where
  pub among : (kind : Kind) (x : A) → meaning kind ≡ Some x → holds kind first ≡ true
  pub keeps_open : (kind : Kind) (x : A) (a : ℕ) → meaning kind ≡ Some x → following kind a ≡ a
  pub some_kind : Kind
  pub some_value : A
  pub some_means : meaning some_kind ≡ Some some_value

pub means : {A : Type 0} (k n limit a : ℕ) (meaning : Kind → Option A) (first : List Kind) → Meaning meaning first → a < limit → Reads k n limit a a (single first) (Means meaning) (λ m. means_at meaning)
means k n limit a meaning first law within = record {
  sound = λ ts x rest lt e. means_ok meaning ts x rest e;
  complete = λ ts x rest lt p free. rw p.1 (means_again meaning x rest p.0);
  begun = λ ts x rest lt p. has_some (rw p.1 (law.among x.0.kind x.1 p.0)) (rw p.1 (omega arith));
  keeps = λ ts x rest lt e.
      let p = means_ok meaning ts x rest e in
      record {
        prefix = x.0 ∷ [];
        whole = p.1;
        again = λ m le more ok. means_again meaning x more p.0;
        shallow = (within, tt);
        open_after = law.keeps_open x.0.kind x.1 a p.0;
      };
  stays = λ ts left lt e.
      let r = means_err meaning ts (record { left = left; why = Unexpected }) e in
      let same : ts ≡ left = sym (ap (λ s. s.left) r.is) in
      record {
        prefix = [];
        whole = same;
        more = sample law.some_kind ∷ [];
        value = (sample law.some_kind, law.some_value);
        fresh = λ none. some_more (law.among law.some_kind law.some_value law.some_means);
        fills = λ m above tail free. means_again meaning (sample law.some_kind, law.some_value) tail law.some_means;
        stuck = λ t l is m le others. r.always t l (same ∙ is) others;
        shallow = tt;
      };
  deep = λ ts left lt e. absurd (not_deep (means_err meaning ts (record { left = left; why = TooDeep }) e));
  filled = record {
    more = sample law.some_kind ∷ [];
    value = (sample law.some_kind, law.some_value);
    fresh = some_more (law.among law.some_kind law.some_value law.some_means);
    fills = λ m above tail free. means_again meaning (sample law.some_kind, law.some_value) tail law.some_means;
  };
}
  where
    not_deep : {A : Type 0} {f : List Token → Read A} {ts left : List Token} → Refused f ts (record { left = left; why = TooDeep }) → ⊥
    not_deep r = wrong (ap (λ s. s.why) r.is)
