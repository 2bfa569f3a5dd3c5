-- What the grammar of any depth derives, token by token: the parts of the tree stand where tokens do, and where
-- few enough `<` are open, the grammar of bounded depth derives it too.
use Rattle.std.proofs.Common.{◌≡◌, ℕ, Option, Some, List, [], ◌∷◌, ◌++◌, refl, sym, ap, ◌∙◌, inl, inr, subst, append_assoc}
use Rattle.std.proofs.lemmas.List.Elements.{All-nil, All-cons}
use Rattle.std.specs.List.{All}
use Rattle.idl_parse.specs.Depth.{following, opened, Shallow}
use Rattle.idl_parse.specs.TreeSpans.{StandsAt, IfThere}
use Rattle.idl_parse.specs.Grammar.{SpanOf}
use Rattle.idl_parse.specs.Rules.{Rel, Gives, ◌⟫◌, One, Means, Either, Maybe, Many, none, more}
use Rattle.idl_lex.specs.Spans.{span}
use Rattle.idl_lex.specs.declared.kind.Kind.{Kind}
use Rattle.idl_lex.specs.declared.token.Token.{Token}
use Rattle.idl_parse.proofs.Parsing.Combining.Heads.{opened_append}

-- a token stands where it says
abbrev pub TokenIn : List ℕ → Token → Type 0
TokenIn text t = StandsAt text t.kind (span t)

abbrev pub TokensIn : List ℕ → List Token → Type 0
TokensIn text [] = Unit {0}
TokensIn text (t ∷ ts) = TokenIn text t × TokensIn text ts

tokens_parts : (text : List ℕ) (a b : List Token) → TokensIn text (a ++ b) → TokensIn text a × TokensIn text b
tokens_parts text [] b all = (tt, all)
tokens_parts text (t ∷ a) b all = let parts = tokens_parts text a b all.1 in ((all.0, parts.0), parts.1)

shallow_parts : (limit n : ℕ) (a b : List Token) → Shallow limit n (a ++ b) → Shallow limit n a × Shallow limit (opened n a) b
shallow_parts limit n [] b all = (tt, all)
shallow_parts limit n (t ∷ a) b all = let parts = shallow_parts limit (following t.kind n) a b all.1 in ((all.0, parts.0), parts.1)

-- from a open ones to b; Q is the relation of bounded depth, and E what is said of the tree
pub record Walked {A : Type 0} (text : List ℕ) (limit a b : ℕ) (Q : Rel A) (E : A → Type 0) (tokens : List Token) (x : A) (rest : List Token) : Type 0 where
  pub prefix : List Token
  pub whole : tokens ≡ prefix ++ rest
  pub open_after : opened a prefix ≡ b
  pub bounded : Shallow limit a prefix → Q tokens x rest
  pub placed : TokensIn text prefix → E x

pub record Walks {A : Type 0} (text : List ℕ) (limit a b : ℕ) (P Q : Rel A) (E : A → Type 0) : Type 0 where
  pub walk : (tokens : List Token) (x : A) (rest : List Token) → P tokens x rest → Walked text limit a b Q E tokens x rest

-- one after the other
pub after : {A B : Type 0} {text : List ℕ} {limit a b c : ℕ} {P P' : Rel A} {Q Q' : A → Rel B} {E : A → Type 0} {F : B → Type 0} → Walks text limit a b P P' E → ((x : A) → Walks text limit b c (Q x) (Q' x) (λ y. E x → F y)) → Walks text limit a c (P ⟫ Q) (P' ⟫ Q') F
after {text = text} {limit = limit} {a = a} r s = record {
  walk = λ tokens y rest (x, mid, p, q).
      let h = r.walk tokens x mid p in
      let j = (s x).walk mid y rest q in
      record {
        prefix = h.prefix ++ j.prefix;
        whole = h.whole ∙ ap (λ m. h.prefix ++ m) j.whole ∙ sym (append_assoc h.prefix j.prefix rest);
        open_after = opened_append a h.prefix j.prefix ∙ ap (λ o. opened o j.prefix) h.open_after ∙ j.open_after;
        bounded = λ shallow.
            let parts = shallow_parts limit a h.prefix j.prefix shallow in
            (x, mid, h.bounded parts.0, j.bounded (subst (λ o. Shallow limit o j.prefix) h.open_after parts.1));
        placed = λ all. let parts = tokens_parts text h.prefix j.prefix all in j.placed parts.1 (h.placed parts.0);
      };
}

pub gives : {A : Type 0} {text : List ℕ} {limit a : ℕ} {x : A} {E : A → Type 0} → E x → Walks text limit a a (Gives x) (Gives x) E
gives {E = E} e = record {
  walk = λ tokens y rest (same, is).
      record { prefix = []; whole = is; open_after = refl; bounded = λ shallow. (same, is); placed = λ all. subst E same e };
}

pub one : {text : List ℕ} {limit a b : ℕ} (kind : Kind) → following kind a ≡ b → Walks text limit a b (One kind) (One kind) (λ t. (t.kind ≡ kind) × TokenIn text t)
one {a = a} kind goes = record {
  walk = λ tokens t rest (is, whole).
      record { prefix = t ∷ []; whole = whole; open_after = ap (λ k. following k a) is ∙ goes; bounded = λ shallow. (is, whole); placed = λ all. (is, all.0) };
}

pub means : {A : Type 0} {text : List ℕ} {limit a : ℕ} (meaning : Kind → Option A) → ((kind : Kind) (x : A) → meaning kind ≡ Some x → following kind a ≡ a) → Walks text limit a a (Means meaning) (Means meaning) (λ w. (meaning w.0.kind ≡ Some w.1) × TokenIn text w.0)
means meaning flat = record {
  walk = λ tokens w rest (is, whole).
      record { prefix = w.0 ∷ []; whole = whole; open_after = flat w.0.kind w.1 is; bounded = λ shallow. (is, whole); placed = λ all. (is, all.0) };
}

pub either : {A : Type 0} {text : List ℕ} {limit a b : ℕ} {P P' Q Q' : Rel A} {E : A → Type 0} → Walks text limit a b P P' E → Walks text limit a b Q Q' E → Walks text limit a b (Either P Q) (Either P' Q') E
either {A = A} {text = text} {limit = limit} {a = a} {b = b} {P = P} {P' = P'} {Q = Q} {Q' = Q'} {E = E} r s = record { walk = by_side }
  where
    by_side : (tokens : List Token) (x : A) (rest : List Token) → Either P Q tokens x rest → Walked text limit a b (Either P' Q') E tokens x rest
    by_side tokens x rest (inl p) = let h = r.walk tokens x rest p in record { prefix = h.prefix; whole = h.whole; open_after = h.open_after; bounded = λ shallow. inl (h.bounded shallow); placed = h.placed }
    by_side tokens x rest (inr q) = let h = s.walk tokens x rest q in record { prefix = h.prefix; whole = h.whole; open_after = h.open_after; bounded = λ shallow. inr (h.bounded shallow); placed = h.placed }

pub maybe : {A : Type 0} {text : List ℕ} {limit a : ℕ} {P P' : Rel A} {E : A → Type 0} → Walks text limit a a P P' E → Walks text limit a a (Maybe P) (Maybe P') (IfThere E)
maybe r = either (after r (λ x. gives (λ e. e))) (gives tt)

pub many : {A : Type 0} {text : List ℕ} {limit a : ℕ} {P P' : Rel A} {E : A → Type 0} → Walks text limit a a P P' E → Walks text limit a a (Many P) (Many P') (All E)
many {A = A} {text = text} {limit = limit} {a = a} {P = P} {P' = P'} {E = E} r = record { walk = λ tokens xs rest all. each all }
  where
    each : {tokens rest : List Token} {xs : List A} → Many P tokens xs rest → Walked text limit a a (Many P') (All E) tokens xs rest
    each none = record { prefix = []; whole = refl; open_after = refl; bounded = λ shallow. none; placed = λ all. All-nil E }
    each (more {tokens = tokens} {mid = mid} {rest = rest} {x = x} {xs = xs} p ps) =
        let h = r.walk tokens x mid p in
        let j = each ps in
        record {
          prefix = h.prefix ++ j.prefix;
          whole = h.whole ∙ ap (λ m. h.prefix ++ m) j.whole ∙ sym (append_assoc h.prefix j.prefix rest);
          open_after = opened_append a h.prefix j.prefix ∙ ap (λ o. opened o j.prefix) h.open_after ∙ j.open_after;
          bounded = λ shallow.
              let parts = shallow_parts limit a h.prefix j.prefix shallow in
              more (h.bounded parts.0) (j.bounded (subst (λ o. Shallow limit o j.prefix) h.open_after parts.1));
          placed = λ all. let parts = tokens_parts text h.prefix j.prefix all in All-cons E x xs (h.placed parts.0) (j.placed parts.1);
        }

-- what is said may be said otherwise
pub saying : {A : Type 0} {text : List ℕ} {limit a b : ℕ} {P Q : Rel A} {E F : A → Type 0} → ((x : A) → E x → F x) → Walks text limit a b P Q E → Walks text limit a b P Q F
saying says r = record {
  walk = λ tokens x rest p.
      let h = r.walk tokens x rest p in
      record { prefix = h.prefix; whole = h.whole; open_after = h.open_after; bounded = h.bounded; placed = λ all. says x (h.placed all) };
}

-- the span of a token
pub spanned : {text : List ℕ} {limit a : ℕ} (kind : Kind) → following kind a ≡ a → Walks text limit a a (SpanOf kind) (SpanOf kind) (StandsAt text kind)
spanned {text = text} kind flat = after (one kind flat) (λ t. gives (λ e. subst (λ k. StandsAt text k (span t)) e.0 e.1))
