-- One reader after the other reads the one relation after the other.
use Rattle.std.proofs.Common.{◌≡◌, ℕ, suc, ◌<◌, ◌≤◌, true, cond, Ok, List, [], ◌∷◌, ◌++◌, length, refl, sym, ap, ◌∙◌, arith, inl, inr, append_assoc}
use Rattle.facts.specs.ResultSteps.{◌>>=◌}
use Rattle.facts.proofs.ResultLaws.{bind_gave}
use Rattle.idl_parse.specs.Depth.{opened}
use Rattle.idl_parse.specs.ReadSteps.{Read}
use Rattle.idl_parse.specs.Rules.{Rel, ◌⟫◌}
use Rattle.idl_parse.specs.declared.parse_fault.ParseWhy.TheVariants.{Unexpected, TooDeep}
use Rattle.idl_lex.specs.declared.token.Token.{Token}
use Rattle.idl_parse.proofs.Parsing.Combining.Heads.{bind_err, then_ok, then_err, empty_both, prefixes_join, starts_left, starts_right, apart, starts_apart, starts_nothing, head_append, opened_append, shallow_append}
use Rattle.idl_parse.proofs.Parsing.Combining.Readers.{Reader, halted, too_deep, Shape, seq, head_of, starts, Begun, has_some, has_none, Fresh, some_more, no_more, Kept, Stayed, Deep, Filled, Core, Reads, core_of}

abbrev pub then : {A B : Type 0} → Reader A → (A → Reader B) → Reader B
then f g m tokens = f m tokens >>= λ x. g x.0 m x.1

-- ---- shapes

not_left : (S T : Shape) (ts : List Token) → (starts (seq S T).follow ts ≡ true → ⊥) → starts T.follow ts ≡ true → ⊥
not_left S T ts free st = free (starts_left T.follow (cond T.empty S.follow []) ts st)

not_right : (S T : Shape) (ts : List Token) → T.empty ≡ true → (starts (seq S T).follow ts ≡ true → ⊥) → starts S.follow ts ≡ true → ⊥
not_right S T ts empty free st =
    free (starts_right T.follow (cond T.empty S.follow []) ts (rw empty st))

-- what follows the first does not go on with it, as the second begins there or may be empty
not_between : (S T : Shape) (mid rest : List Token) → apart S.follow T.first ≡ true → Begun T mid rest → (starts (seq S T).follow rest ≡ true → ⊥) → starts S.follow mid ≡ true → ⊥
not_between S T mid rest no_common (has_some st shorter) free in_follow = starts_apart S.follow T.first mid no_common in_follow st
not_between S T mid rest no_common (has_none empty is) free in_follow =
    not_right S T rest empty free (ap (starts S.follow) (sym is) ∙ in_follow)

shorter : (S : Shape) (ts mid : List Token) (k k' : ℕ) → Begun S ts mid → length ts < k → (S.empty ≡ true → k ≤ k') → k ≤ suc k' → length mid < k'
shorter S ts mid k k' (has_some st less) within enough almost = omega arith
shorter S ts mid k k' (has_none empty is) within enough almost =
    let e : length ts ≡ length mid = ap length is in
    let le : k ≤ k' = enough empty in
    omega arith

begun_seq : (S T : Shape) (ts mid rest : List Token) → Begun S ts mid → Begun T mid rest → Begun (seq S T) ts rest
begun_seq S T ts mid rest (has_some st less) (has_some st' less') = has_some (starts_left S.first (cond S.empty T.first []) ts st) (omega arith)
begun_seq S T ts mid rest (has_some st less) (has_none empty is) =
    has_some (starts_left S.first (cond S.empty T.first []) ts st) (let e : length mid ≡ length rest = ap length is in omega arith)
begun_seq S T ts mid rest (has_none empty is) (has_some st' less') =
    has_some (starts_right S.first (cond S.empty T.first []) ts (rw empty (ap (starts T.first) is ∙ st'))) (let e : length ts ≡ length mid = ap length is in omega arith)
begun_seq S T ts mid rest (has_none empty is) (has_none empty' is') = has_none (rw (empty, empty') refl) (is ∙ is')

fresh_seq : (S T : Shape) (a b : List Token) → Fresh S a → Fresh T b → Fresh (seq S T) (a ++ b)
fresh_seq S T [] b (some_more st) fb = absurd (starts_nothing S.first [] refl st)
fresh_seq S T (t ∷ a) b (some_more st) fb = some_more (starts_left S.first (cond S.empty T.first []) ((t ∷ a) ++ b) st)
fresh_seq S T a b (no_more empty is) (some_more st) =
    some_more (starts_right S.first (cond S.empty T.first []) (a ++ b) (rw (empty, is) st))
fresh_seq S T a b (no_more empty is) (no_more empty' is') = no_more (rw (empty, empty') refl) (rw (is, is') refl)

-- a fresh start of the second, with a tail, does not go on with the first
not_at_fresh : (S T : Shape) (more tail : List Token) → apart S.follow T.first ≡ true → Fresh T more → (starts (seq S T).follow tail ≡ true → ⊥) → starts S.follow (more ++ tail) ≡ true → ⊥
not_at_fresh S T [] tail no_common (some_more st) free in_follow = starts_nothing T.first [] refl st
not_at_fresh S T (t ∷ more) tail no_common (some_more st) free in_follow = starts_apart S.follow T.first (t ∷ more) no_common in_follow st
not_at_fresh S T more tail no_common (no_more empty is) free in_follow =
    not_right S T tail empty free (ap (λ m. starts S.follow (m ++ tail)) (sym is) ∙ in_follow)

-- where the second reads again, the first does too: either the second took a token, which still stands
-- there, or it may be empty
same_between : (S T : Shape) (prefix mid rest more : List Token) → mid ≡ prefix ++ rest → Begun T mid rest → (starts (seq S T).follow more ≡ true → head_of more ≡ head_of rest) → starts S.follow (prefix ++ more) ≡ true → head_of (prefix ++ more) ≡ head_of mid
same_between S T (t ∷ prefix) mid rest more is begun ok st = sym (ap head_of is)
same_between S T [] mid rest more is (has_some st' less) ok st = let e : length mid ≡ length rest = ap length is in absurd (omega arith)
same_between S T [] mid rest more is (has_none empty is') ok st =
    ok (starts_right T.follow (cond T.empty S.follow []) more (rw empty st)) ∙ sym (ap head_of is)

same_at_fill : (S T : Shape) (prefix mid left more tail : List Token) → apart S.follow T.first ≡ true → mid ≡ prefix ++ left → (prefix ≡ [] → Fresh T more) → (starts (seq S T).follow tail ≡ true → ⊥) → starts S.follow (prefix ++ (more ++ tail)) ≡ true → head_of (prefix ++ (more ++ tail)) ≡ head_of mid
same_at_fill S T (t ∷ prefix) mid left more tail no_common is begins free st = sym (ap head_of is)
same_at_fill S T [] mid left more tail no_common is begins free st = absurd (not_at_fresh S T more tail no_common (begins refl) free st)

empty_prefix : (S : Shape) (prefix mid ts : List Token) → ts ≡ prefix ++ mid → prefix ≡ [] → Begun S ts mid → S.empty ≡ true
empty_prefix S prefix mid ts is none (has_some st less) =
    let e : length ts ≡ length mid = ap length is ∙ ap (λ x. length (x ++ mid)) none in
    absurd (omega arith)
empty_prefix S prefix mid ts is none (has_none empty is') = empty

fresh_after : (S T : Shape) (more : List Token) → S.empty ≡ true → Fresh T more → Fresh (seq S T) more
fresh_after S T more empty (some_more st) = some_more (starts_right S.first (cond S.empty T.first []) more (rw empty st))
fresh_after S T more empty (no_more empty' is) = no_more (rw (empty, empty') refl) is

reads_on : {A B : Type 0} (f : Reader A) (g : A → Reader B) (m : ℕ) (ts : List Token) (x : A) (mid : List Token) (r : Read B) → f m ts ≡ Ok (x, mid) → g x m mid ≡ r → then f g m ts ≡ r
reads_on f g m ts x mid r fx gx = then_ok (f m ts) (λ x. g x.0 m x.1) (x, mid) fx ∙ gx

module _ {A B : Type 0} (k k' n : ℕ) (S T : Shape) (P : Rel A) (Q : A → Rel B) (f : Reader A) (g : A → Reader B)
    (no_common : apart S.follow T.first ≡ true) (enough : S.empty ≡ true → k ≤ k') (almost : k ≤ suc k')
    (one : Core k n S P f) (two : (x : A) → Core k' n T (Q x) (g x)) where
  short_core : (ts : List Token) (x : A) (mid : List Token) → length ts < k → P ts x mid → length mid < k'
  short_core ts x mid lt p = shorter S ts mid k k' (one.begun ts x mid lt p) lt enough almost

  begun_core : (ts : List Token) (y : B) (rest : List Token) → length ts < k → (P ⟫ Q) ts y rest → Begun (seq S T) ts rest
  begun_core ts y rest lt (x, mid, p, q) = begun_seq S T ts mid rest (one.begun ts x mid lt p) ((two x).begun mid y rest (short_core ts x mid lt p) q)

  filled_core : Filled n (seq S T) (then f g)
  filled_core =
      let h = one.filled in
      let j = (two h.value).filled in
      record {
        more = h.more ++ j.more;
        value = j.value;
        fresh = fresh_seq S T h.more j.more h.fresh j.fresh;
        fills = λ m lt tail free.
            rw (append_assoc h.more j.more tail)
            (reads_on f g m (h.more ++ (j.more ++ tail)) h.value (j.more ++ tail) (Ok (j.value, tail))
            (h.fills m lt (j.more ++ tail) (not_at_fresh S T j.more tail no_common j.fresh free))
            (j.fills m lt tail (not_left S T tail free)));
      }

  pub core_in_order : Core k n (seq S T) (P ⟫ Q) (then f g)
  core_in_order = record { begun = begun_core; filled = filled_core }

-- The second need be read only where the first was.
module _ {A B : Type 0} (k k' n limit a b c : ℕ) (S T : Shape) (P : Rel A) (Q : A → Rel B) (f : Reader A) (g : A → Reader B)
    (no_common : apart S.follow T.first ≡ true) (enough : S.empty ≡ true → k ≤ k') (almost : k ≤ suc k')
    (one : Reads k n limit a b S P f) (core : (x : A) → Core k' n T (Q x) (g x))
    (two : (x : A) (ts mid : List Token) → length ts < k → f n ts ≡ Ok (x, mid) → Reads k' n limit b c T (Q x) (g x)) where
  short : (ts : List Token) (x : A) (mid : List Token) → length ts < k → P ts x mid → length mid < k'
  short ts x mid lt p = shorter S ts mid k k' (one.begun ts x mid lt p) lt enough almost

  sound : (ts : List Token) (y : B) (rest : List Token) → length ts < k → then f g n ts ≡ Ok (y, rest) → (P ⟫ Q) ts y rest
  sound ts y rest lt e =
      let p = bind_gave (f n ts) (λ x. g x.0 n x.1) (y, rest) e in
      let m = one.sound ts p.0.0 p.0.1 lt p.1 in
      (p.0.0, p.0.1, m, (two p.0.0 ts p.0.1 lt p.1).sound p.0.1 y rest (short ts p.0.0 p.0.1 lt m) p.2)

  complete : (ts : List Token) (y : B) (rest : List Token) → length ts < k → (P ⟫ Q) ts y rest → (starts (seq S T).follow rest ≡ true → ⊥) → then f g n ts ≡ Ok (y, rest)
  complete ts y rest lt (x, mid, p, q) free =
      let s = short ts x mid lt p in
      let fx = one.complete ts x mid lt p (not_between S T mid rest no_common ((core x).begun mid y rest s q) free) in
      reads_on f g n ts x mid (Ok (y, rest)) fx ((two x ts mid lt fx).complete mid y rest s q (not_left S T rest free))

  keeps : (ts : List Token) (y : B) (rest : List Token) → length ts < k → then f g n ts ≡ Ok (y, rest) → Kept n limit a c (seq S T) (then f g) ts y rest
  keeps ts y rest lt e =
      let p = bind_gave (f n ts) (λ x. g x.0 n x.1) (y, rest) e in
      let x = p.0.0 in
      let mid = p.0.1 in
      let s = short ts x mid lt (one.sound ts x mid lt p.1) in
      let h = one.keeps ts x mid lt p.1 in
      let second = two x ts mid lt p.1 in
      let j = second.keeps mid y rest s p.2 in
      let begins = second.begun mid y rest s (second.sound mid y rest s p.2) in
      record {
        prefix = h.prefix ++ j.prefix;
        whole = prefixes_join h.prefix j.prefix mid rest ts h.whole j.whole;
        again = λ m le more ok.
            rw (append_assoc h.prefix j.prefix more)
            (reads_on f g m (h.prefix ++ (j.prefix ++ more)) x (j.prefix ++ more) (Ok (y, more))
            (h.again m le (j.prefix ++ more) (same_between S T j.prefix mid rest more j.whole begins ok))
            (j.again m le more (λ st. ok (starts_left T.follow (cond T.empty S.follow []) more st))));
        shallow = shallow_append limit a h.prefix j.prefix h.shallow (rw h.open_after j.shallow);
        open_after = opened_append a h.prefix j.prefix ∙ ap (λ o. opened o j.prefix) h.open_after ∙ j.open_after;
      }

  stays_first : (ts left : List Token) → length ts < k → f n ts ≡ halted left → Stayed n limit a (seq S T) (then f g) ts left
  stays_first ts left lt e =
      let h = one.stays ts left lt e in
      let j = (core h.value).filled in
      record {
        prefix = h.prefix;
        whole = h.whole;
        more = h.more ++ j.more;
        value = j.value;
        fresh = λ none. fresh_seq S T h.more j.more (h.fresh none) j.fresh;
        fills = λ m lt tail free.
            rw (append_assoc h.more j.more tail)
            (reads_on f g m (h.prefix ++ (h.more ++ (j.more ++ tail))) h.value (j.more ++ tail) (Ok (j.value, tail))
            (h.fills m lt (j.more ++ tail) (not_at_fresh S T j.more tail no_common j.fresh free))
            (j.fills m lt tail (not_left S T tail free)));
        stuck = λ t l is m le others. then_err (f m (h.prefix ++ (t ∷ others))) (λ x. g x.0 m x.1) (record { left = t ∷ others; why = Unexpected }) (h.stuck t l is m le others);
        shallow = h.shallow;
      }

  stays_second : (ts left : List Token) (x : A) (mid : List Token) → length ts < k → f n ts ≡ Ok (x, mid) → g x n mid ≡ halted left → Stayed n limit a (seq S T) (then f g) ts left
  stays_second ts left x mid lt fx gx =
      let p = one.sound ts x mid lt fx in
      let s = short ts x mid lt p in
      let h = one.keeps ts x mid lt fx in
      let j = (two x ts mid lt fx).stays mid left s gx in
      record {
        prefix = h.prefix ++ j.prefix;
        whole = prefixes_join h.prefix j.prefix mid left ts h.whole j.whole;
        more = j.more;
        value = j.value;
        fresh = λ none.
            let both = empty_both h.prefix j.prefix none in
            fresh_after S T j.more (empty_prefix S h.prefix mid ts h.whole both.0 (one.begun ts x mid lt p)) (j.fresh both.1);
        fills = λ m lt tail free.
            rw (append_assoc h.prefix j.prefix (j.more ++ tail))
            (reads_on f g m (h.prefix ++ (j.prefix ++ (j.more ++ tail))) x (j.prefix ++ (j.more ++ tail)) (Ok (j.value, tail))
            (h.again m (omega arith) (j.prefix ++ (j.more ++ tail)) (same_at_fill S T j.prefix mid left j.more tail no_common j.whole j.fresh free))
            (j.fills m lt tail (not_left S T tail free)));
        stuck = λ t l is m le others.
            rw (append_assoc h.prefix j.prefix (t ∷ others))
            (reads_on f g m (h.prefix ++ (j.prefix ++ (t ∷ others))) x (j.prefix ++ (t ∷ others)) (halted (t ∷ others))
            (h.again m le (j.prefix ++ (t ∷ others)) (λ st. head_append j.prefix (t ∷ others) left (sym (ap head_of is)) ∙ sym (ap head_of j.whole)))
            (j.stuck t l is m le others));
        shallow = shallow_append limit a h.prefix j.prefix h.shallow (rw h.open_after j.shallow);
      }

  stays : (ts left : List Token) → length ts < k → then f g n ts ≡ halted left → Stayed n limit a (seq S T) (then f g) ts left
  stays ts left lt e =
      elim (bind_err (f n ts) (λ x. g x.0 n x.1) (record { left = left; why = Unexpected }) e) [
        | inl fe ↦ stays_first ts left lt fe
        | inr p ↦ stays_second ts left p.0.0 p.0.1 lt p.1 p.2
      ]

  deep_first : (ts left : List Token) → length ts < k → f n ts ≡ too_deep left → Deep n limit a (seq S T) (then f g) ts left
  deep_first ts left lt e =
      let h = one.deep ts left lt e in
      let j = (core h.value).filled in
      record {
        prefix = h.prefix;
        next = h.next;
        others = h.others;
        whole = h.whole;
        is = h.is;
        more = h.more ++ j.more;
        value = j.value;
        fills = λ m lt tail free.
            rw (append_assoc h.more j.more tail)
            (reads_on f g m (h.prefix ++ (h.next ∷ (h.more ++ (j.more ++ tail)))) h.value (j.more ++ tail) (Ok (j.value, tail))
            (h.fills m lt (j.more ++ tail) (not_at_fresh S T j.more tail no_common j.fresh free))
            (j.fills m (omega arith) tail (not_left S T tail free)));
        shallow = h.shallow;
        open_after = h.open_after;
      }

  deep_second : (ts left : List Token) (x : A) (mid : List Token) → length ts < k → f n ts ≡ Ok (x, mid) → g x n mid ≡ too_deep left → Deep n limit a (seq S T) (then f g) ts left
  deep_second ts left x mid lt fx gx =
      let s = short ts x mid lt (one.sound ts x mid lt fx) in
      let h = one.keeps ts x mid lt fx in
      let j = (two x ts mid lt fx).deep mid left s gx in
      record {
        prefix = h.prefix ++ j.prefix;
        next = j.next;
        others = j.others;
        whole = prefixes_join h.prefix j.prefix mid left ts h.whole j.whole;
        is = j.is;
        more = j.more;
        value = j.value;
        fills = λ m lt tail free.
            rw (append_assoc h.prefix j.prefix (j.next ∷ (j.more ++ tail)))
            (reads_on f g m (h.prefix ++ (j.prefix ++ (j.next ∷ (j.more ++ tail)))) x (j.prefix ++ (j.next ∷ (j.more ++ tail))) (Ok (j.value, tail))
            (h.again m (omega arith) (j.prefix ++ (j.next ∷ (j.more ++ tail))) (λ st. head_append j.prefix (j.next ∷ (j.more ++ tail)) left (sym (ap head_of j.is)) ∙ sym (ap head_of j.whole)))
            (j.fills m lt tail (not_left S T tail free)));
        shallow = shallow_append limit a h.prefix j.prefix h.shallow (rw h.open_after j.shallow);
        open_after = opened_append a h.prefix j.prefix ∙ ap (λ o. opened o j.prefix) h.open_after ∙ j.open_after;
      }

  deep : (ts left : List Token) → length ts < k → then f g n ts ≡ too_deep left → Deep n limit a (seq S T) (then f g) ts left
  deep ts left lt e =
      elim (bind_err (f n ts) (λ x. g x.0 n x.1) (record { left = left; why = TooDeep }) e) [
        | inl fe ↦ deep_first ts left lt fe
        | inr p ↦ deep_second ts left p.0.0 p.0.1 lt p.1 p.2
      ]

  pub in_order_where_read : Reads k n limit a c (seq S T) (P ⟫ Q) (then f g)
  in_order_where_read =
      let both = core_in_order k k' n S T P Q f g no_common enough almost (core_of one) core in
      record {
        sound = sound;
        complete = complete;
        begun = both.begun;
        keeps = keeps;
        stays = stays;
        deep = deep;
        filled = both.filled;
      }

pub in_order : {A B : Type 0} (k k' n limit a b c : ℕ) (S T : Shape) (P : Rel A) (Q : A → Rel B) (f : Reader A) (g : A → Reader B) → apart S.follow T.first ≡ true → (S.empty ≡ true → k ≤ k') → k ≤ suc k' → Reads k n limit a b S P f → ((x : A) → Reads k' n limit b c T (Q x) (g x)) → Reads k n limit a c (seq S T) (P ⟫ Q) (then f g)
in_order k k' n limit a b c S T P Q f g no_common enough almost one two =
    in_order_where_read k k' n limit a b c S T P Q f g no_common enough almost one (λ x. core_of (two x)) (λ x ts mid lt fx. two x)
