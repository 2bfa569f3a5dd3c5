-- Texts at the start of bytes, and where reading one gets stuck.
use Rattle.std.proofs.Common.{◌≡◌, ℕ, Bool, true, false, List, [], ◌∷◌, ◌++◌, refl, sym, ap, ◌∙◌, subst, append_assoc}
use Rattle.std.proofs.lemmas.List.{append_cancel_left}
use Rattle.idl_lex.specs.Bytes.{begins}
use Rattle.value_text.proofs.Signs.{false_is_not_true}

-- what bytes begin with such a text, and what comes after it
abbrev pub Language : Type 1
Language = List ℕ → List ℕ → Type 0

-- what may come after a text
abbrev pub Follower : Type 1
Follower = List ℕ → Type 0

abbrev pub Anything : Follower
Anything bytes = Unit {0}

-- other bytes that begin as these do, or none where these are none
abbrev pub Agrees : List ℕ → List ℕ → Type 0
Agrees [] other = other ≡ []
Agrees (b ∷ left) other = (more : List ℕ) × (other ≡ b ∷ more)

-- Some text goes on after the bytes before those that are left, and none goes on after one byte more. At the end of the
-- bytes none has been read.
pub record Stuck (Before : Follower) (L : Language) (bytes left : List ℕ) : Type 0 where
  pub front : List ℕ
  pub is : bytes ≡ front ++ left
  pub more : List ℕ
  pub goes_on : (tail : List ℕ) → Before tail → L (front ++ (more ++ tail)) tail
  pub blocked : (other rest : List ℕ) → Agrees left other → L (front ++ other) rest → ⊥

-- some text
pub record Filled (Before : Follower) (L : Language) : Type 0 where
  pub filling : List ℕ
  pub fills : (tail : List ℕ) → Before tail → L (filling ++ tail) tail

-- a text goes before whatever may follow it, and takes the same bytes
pub record Passes (Before : Follower) (L : Language) (bytes next : List ℕ) : Type 0 where
  pub front : List ℕ
  pub is : bytes ≡ front ++ next
  pub goes : (other : List ℕ) → Before other → L (front ++ other) other
  pub alone : (other rest : List ℕ) → Before other → L (front ++ other) rest → rest ≡ other

-- ---- the same language otherwise

pub stuck_as : {Before After : Follower} {bytes left : List ℕ} (L M : Language) → ((tail : List ℕ) → After tail → Before tail) → ((b r : List ℕ) → L b r → M b r) → ((b r : List ℕ) → M b r → L b r) → Stuck Before L bytes left → Stuck After M bytes left
stuck_as L M fit to from s = record {
  front = s.front;
  is = s.is;
  more = s.more;
  goes_on = λ tail ends. to (s.front ++ (s.more ++ tail)) tail (s.goes_on tail (fit tail ends));
  blocked = λ other rest agree m. s.blocked other rest agree (from (s.front ++ other) rest m);
}

pub filled_as : {Before : Follower} (L M : Language) → ((b r : List ℕ) → L b r → M b r) → Filled Before L → Filled Before M
filled_as L M to f = record { filling = f.filling; fills = λ tail ends. to (f.filling ++ tail) tail (f.fills tail ends) }

-- where there are no bytes, and no text has none
pub stuck_at_end : {Before : Follower} (L : Language) → ((rest : List ℕ) → L [] rest → ⊥) → Filled Before L → Stuck Before L [] []
stuck_at_end L some f = record { front = []; is = refl; more = f.filling; goes_on = f.fills; blocked = λ other rest agree t. some rest (subst (λ (l : List ℕ). L l rest) agree t) }

-- ---- the first byte

agreeing : {A : Type 0} (test : List ℕ → A) → ((b : ℕ) (x y : List ℕ) → test (b ∷ x) ≡ test (b ∷ y)) → (front left other : List ℕ) → Agrees left other → test (front ++ other) ≡ test (front ++ left)
agreeing test first [] [] other agree = ap test agree
agreeing test first [] (b ∷ left) other agree = ap test agree.1 ∙ first b agree.0 left
agreeing test first (b ∷ front) left other agree = first b (front ++ other) (front ++ left)

pub begins_alike : (test : ℕ → Bool) (front left other : List ℕ) → Agrees left other → begins test (front ++ other) ≡ begins test (front ++ left)
begins_alike test = agreeing (begins test) (λ b x y. refl)

-- where none of these bytes comes, none comes in its place
pub none_of : (test : ℕ → Bool) (left other : List ℕ) → begins test left ≡ false → Agrees left other → begins test other ≡ true → ⊥
none_of test left other none agree some = false_is_not_true (sym none ∙ sym (begins_alike test [] left other agree) ∙ some)

-- ---- one of two

pub data Either (P Q : Language) (bytes rest : List ℕ) : Type 0 where
  this : P bytes rest → Either P Q bytes rest
  that : Q bytes rest → Either P Q bytes rest

-- no text of the other language begins as the bytes do
pub stuck_in_other : (P Q : Language) {Before : Follower} {bytes left : List ℕ} (test : ℕ → Bool) → ((b r : List ℕ) → P b r → begins test b ≡ begins test bytes → ⊥) → Stuck Before Q bytes left → Stuck Before (Either P Q) bytes left
stuck_in_other P Q {bytes = bytes} {left = left} test apart s = record {
  front = s.front;
  is = s.is;
  more = s.more;
  goes_on = λ tail ends. that (s.goes_on tail ends);
  blocked = by_case;
}
  where
    by_case : (bs rest : List ℕ) → Agrees left bs → Either P Q (s.front ++ bs) rest → ⊥
    by_case bs rest agree (this p) = apart (s.front ++ bs) rest p (begins_alike test s.front left bs agree ∙ ap (begins test) (sym s.is))
    by_case bs rest agree (that q) = s.blocked bs rest agree q

-- ---- one after the other

pub record Then (P Q : Language) (bytes rest : List ℕ) : Type 0 where
  pub between : List ℕ
  pub first : P bytes between
  pub second : Q between rest

pub stuck_in_first : (P Q : Language) {Before After : Follower} {bytes left : List ℕ} → (f : Filled After Q) → ((tail : List ℕ) → After tail → Before (f.filling ++ tail)) → Stuck Before P bytes left → Stuck After (Then P Q) bytes left
stuck_in_first P Q f fit s = record {
  front = s.front;
  is = s.is;
  more = s.more ++ f.filling;
  goes_on = λ tail ends. record {
    between = f.filling ++ tail;
    first = subst (λ (l : List ℕ). P (s.front ++ l) (f.filling ++ tail)) (sym (append_assoc s.more f.filling tail)) (s.goes_on (f.filling ++ tail) (fit tail ends));
    second = f.fills tail ends;
  };
  blocked = λ other rest agree t. s.blocked other t.between agree t.first;
}

pub stuck_in_second : (P Q : Language) {Before After : Follower} {bytes next left : List ℕ} → (p : Passes Before P bytes next) → (s : Stuck After Q next left) → ((b r : List ℕ) → Q b r → Before b)
    → ((other : List ℕ) → Agrees left other → Before (s.front ++ other)) → Stuck After (Then P Q) bytes left
stuck_in_second P Q {left = left} p s fit alike = record {
  front = p.front ++ s.front;
  is = p.is ∙ ap (λ (l : List ℕ). p.front ++ l) s.is ∙ sym (append_assoc p.front s.front left);
  more = s.more;
  goes_on = λ tail ends. record {
    between = s.front ++ (s.more ++ tail);
    first = subst (λ (l : List ℕ). P l (s.front ++ (s.more ++ tail))) (sym (append_assoc p.front s.front (s.more ++ tail))) (p.goes (s.front ++ (s.more ++ tail)) (fit (s.front ++ (s.more ++ tail)) tail (s.goes_on tail ends)));
    second = s.goes_on tail ends;
  };
  blocked = λ other rest agree t.
      s.blocked other rest agree
      (subst (λ (l : List ℕ). Q l rest) (p.alone (s.front ++ other) t.between (alike other agree) (subst (λ (l : List ℕ). P l t.between) (append_assoc p.front s.front other) t.first)) t.second);
}

-- the first takes its bytes whatever follows
pub stuck_after : (P Q : Language) {After : Follower} {bytes next left : List ℕ} → Passes Anything P bytes next → Stuck After Q next left → Stuck After (Then P Q) bytes left
stuck_after P Q p s = stuck_in_second P Q p s (λ b r q. tt) (λ other agree. tt)

pub filled_then : (P Q : Language) {Before After : Follower} → Filled Before P → (f : Filled After Q) → ((tail : List ℕ) → After tail → Before (f.filling ++ tail)) → Filled After (Then P Q)
filled_then P Q p f fit = record {
  filling = p.filling ++ f.filling;
  fills = λ tail ends. record {
    between = f.filling ++ tail;
    first = subst (λ (l : List ℕ). P l (f.filling ++ tail)) (sym (append_assoc p.filling f.filling tail)) (p.fills (f.filling ++ tail) (fit tail ends));
    second = f.fills tail ends;
  };
}

-- ---- words

abbrev pub Word : List ℕ → Language
Word word bytes rest = bytes ≡ word ++ rest

pub word_passes : (word bytes next : List ℕ) → bytes ≡ word ++ next → Passes Anything (Word word) bytes next
word_passes word bytes next is = record { front = word; is = is; goes = λ other any. refl; alone = λ other rest any same. sym (append_cancel_left word other rest same) }

pub word_filled : (word : List ℕ) → Filled Anything (Word word)
word_filled word = record { filling = word; fills = λ tail any. refl }
