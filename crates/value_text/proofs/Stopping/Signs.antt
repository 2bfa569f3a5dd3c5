-- Words, signs and gaps in which reading gets stuck.
use Rattle.std.proofs.Common.{◌≡◌, ℕ, Bool, true, false, ◌==◌, ◌||◌, cond, List, [], ◌∷◌, ◌++◌, Result, Ok, Err, refl, sym, ap, ◌∙◌, subst, append_assoc}
use Rattle.std.proofs.lemmas.List.{append_cancel_left}
use Rattle.facts.specs.ResultSteps.{◌>>=◌}
use Rattle.idl_lex.specs.Bytes.{begins}
use Rattle.value_text.specs.ReadSteps.{Read, Stop, unexpected, byte_at, sign_at, word_at}
use Rattle.value_text.specs.Spelling.{past_gap}
use Rattle.value_text.specs.declared.value_fault.ValueWhy.{ValueWhy}
use Rattle.value_text.specs.declared.value_fault.ValueWhy.TheVariants.{Unexpected}
use Rattle.value_text.proofs.Moving.Moved.{gap_of}
use Rattle.value_text.proofs.Signs.{read_ok, same_byte, false_is_not_true, byte_stands}
use Rattle.value_text.proofs.Stopping.Languages.{Language, Follower, Anything, Agrees, Stuck, Filled, Then, Word, begins_alike, stuck_in_first, stuck_after, word_passes, word_filled, filled_then}

abbrev pub stop : List ℕ → ValueWhy → Stop
stop left why = record { left = left; why = why }

abbrev failed : {A : Type 0} → Stop → Result A Stop
failed s = Err s

err_is : {A : Type 0} (s r : Stop) → failed {A = A} s ≡ failed r → s ≡ r
err_is s r e = cc

-- what is left where reading stops, and why it does
pub stops_so : {A : Type 0} (left other : List ℕ) (why cause : ValueWhy) → failed {A = A} (stop left why) ≡ failed (stop other cause) → (left ≡ other) × (why ≡ cause)
stops_so left other why cause e = let same = err_is (stop left why) (stop other cause) e in (ap (λ (s : Stop). s.left) same, ap (λ (s : Stop). s.why) same)

-- which of two steps stops
pub data Stops {A B : Type 0} (r : Result A Stop) (f : A → Result B Stop) (s : Stop) : Type 0 where
  before : r ≡ Err s → Stops r f s
  after : (x : A) → r ≡ Ok x → f x ≡ Err s → Stops r f s

pub step_stops : {A B : Type 0} (r : Result A Stop) (f : A → Result B Stop) (s : Stop) → (r >>= f) ≡ Err s → Stops r f s
step_stops (Ok x) f s e = after x refl e
step_stops (Err s') f s e = before cc

-- what comes after others stops where they do
pub others_stop : {A B : Type 0} (r : Read A) (f : A → B) (left : List ℕ) (why : ValueWhy) → (r >>= λ x. read_ok (f x.0) x.1) ≡ Err (stop left why) → r ≡ Err (stop left why)
others_stop (Ok x) f left why e = absurd cc
others_stop (Err s) f left why e = cc

-- ---- one byte

-- it is another
pub byte_refused : (c : ℕ) (bytes left : List ℕ) (why : ValueWhy) → byte_at c bytes ≡ Err (stop left why) → (left ≡ bytes) × (begins (λ b. b == c) bytes ≡ false)
unfolding byte_at
byte_refused c [] left why e = (sym (stops_so {A = List ℕ} [] left Unexpected why e).0, refl)
byte_refused c (b ∷ bytes) left why e = by_test (b == c) refl e
  where
    by_test : (t : Bool) → (b == c) ≡ t → cond t (Ok bytes) (unexpected (b ∷ bytes)) ≡ Err (stop left why) → (left ≡ b ∷ bytes) × ((b == c) ≡ false)
    by_test true is e = absurd cc
    by_test false is e = (sym (stops_so {A = List ℕ} (b ∷ bytes) left Unexpected why e).0, is)

pub sign_refused : (c : ℕ) (bytes left : List ℕ) (why : ValueWhy) → sign_at c bytes ≡ Err (stop left why) → (left ≡ bytes) × (begins (λ b. b == c) bytes ≡ false)
unfolding sign_at
sign_refused c bytes left why e = by_step (step_stops (byte_at c bytes) (λ rest. Ok (past_gap rest)) (stop left why) e)
  where
    by_step : Stops (byte_at c bytes) (λ rest. Ok (past_gap rest)) (stop left why) → (left ≡ bytes) × (begins (λ b. b == c) bytes ≡ false)
    by_step (before e) = byte_refused c bytes left why e
    by_step (after x is e) = absurd cc

-- ---- a word

-- a byte of the word does not come
record Differs (word bytes left : List ℕ) : Type 0 where
  front : List ℕ
  is : bytes ≡ front ++ left
  byte : ℕ
  more : List ℕ
  word_is : word ≡ front ++ byte ∷ more
  other : begins (λ b. b == byte) left ≡ false

differs : (word bytes left : List ℕ) (why : ValueWhy) → word_at word bytes ≡ Err (stop left why) → Differs word bytes left
unfolding word_at
differs [] bytes left why e = absurd cc
differs (c ∷ word) bytes left why e = by_step (step_stops (byte_at c bytes) (word_at word) (stop left why) e) (λ rest. differs word rest left why)
  where
    by_step : Stops (byte_at c bytes) (word_at word) (stop left why) → ((rest : List ℕ) → word_at word rest ≡ Err (stop left why) → Differs word rest left) → Differs (c ∷ word) bytes left
    by_step (before e) deeper =
        let is = byte_refused c bytes left why e in
        record { front = []; is = sym is.0; byte = c; more = word; word_is = refl; other = ap (begins (λ b. b == c)) is.0 ∙ is.1 }
    by_step (after rest is e) deeper =
        let d = deeper rest e in
        record { front = c ∷ d.front; is = byte_stands c bytes rest is ∙ ap (λ (l : List ℕ). c ∷ l) d.is; byte = d.byte; more = d.more; word_is = ap (λ (l : List ℕ). c ∷ l) d.word_is; other = d.other }

-- another byte does not come either
wrong_byte : (c : ℕ) (left other more : List ℕ) → begins (λ b. b == c) left ≡ false → Agrees left other → other ≡ c ∷ more → ⊥
wrong_byte c left other more not_c agree is =
    false_is_not_true (sym not_c ∙ sym (begins_alike (λ b. b == c) [] left other agree) ∙ ap (begins (λ b. b == c)) is ∙ same_byte c)

pub stuck_in_word : (word bytes left : List ℕ) (why : ValueWhy) → word_at word bytes ≡ Err (stop left why) → Stuck Anything (Word word) bytes left
stuck_in_word word bytes left why e =
    let d = differs word bytes left why e in
    record {
      front = d.front;
      is = d.is;
      more = d.byte ∷ d.more;
      goes_on = λ tail any. sym (ap (λ (w : List ℕ). w ++ tail) d.word_is ∙ append_assoc d.front (d.byte ∷ d.more) tail);
      blocked = λ other rest agree is.
          wrong_byte d.byte left other (d.more ++ rest) d.other agree
          (append_cancel_left d.front other (d.byte ∷ d.more ++ rest) (is ∙ ap (λ (w : List ℕ). w ++ rest) d.word_is ∙ append_assoc d.front (d.byte ∷ d.more) rest));
    }

pub stuck_at_sign : (c : ℕ) (bytes left : List ℕ) → (left ≡ bytes) × (begins (λ b. b == c) bytes ≡ false) → Stuck Anything (Word (c ∷ [])) bytes left
stuck_at_sign c bytes left is = record {
  front = [];
  is = sym is.0;
  more = c ∷ [];
  goes_on = λ tail any. refl;
  blocked = λ other rest agree same. wrong_byte c left other rest (ap (begins (λ b. b == c)) is.0 ∙ is.1) agree same;
}

-- ---- gaps

abbrev pub is_gap : ℕ → Bool
is_gap b = b == 32 || b == 10

abbrev pub NoGap : List ℕ → Type 0
NoGap bytes = begins is_gap bytes ≡ false

-- a text after a gap
abbrev pub Past : Language → Language
Past L bytes rest = L (past_gap bytes) rest

no_gap_left : (bytes : List ℕ) → NoGap (past_gap bytes)
no_gap_left [] = refl
no_gap_left (b ∷ bytes) = by_test (is_gap b) refl (no_gap_left bytes)
  where
    by_test : (t : Bool) → is_gap b ≡ t → NoGap (past_gap bytes) → NoGap (cond t (past_gap bytes) (b ∷ bytes))
    by_test true gap deeper = deeper
    by_test false no_gap deeper = no_gap

stays : (bytes : List ℕ) → NoGap bytes → past_gap bytes ≡ bytes
stays [] h = refl
stays (b ∷ bytes) h = rw h refl

pub stuck_past_gap : (L : Language) {After : Follower} {bytes left : List ℕ} → ((b r : List ℕ) → L b r → NoGap b) → Stuck After L (past_gap bytes) left → Stuck After (Past L) bytes left
stuck_past_gap L {bytes = bytes} {left = left} opens s =
    let g = gap_of bytes in
    let over : (more : List ℕ) → past_gap ((g.gap ++ s.front) ++ more) ≡ past_gap (s.front ++ more) = λ more. ap past_gap (append_assoc g.gap s.front more) ∙ g.skips (s.front ++ more) in
    record {
      front = g.gap ++ s.front;
      is = g.is ∙ ap (λ (l : List ℕ). g.gap ++ l) s.is ∙ sym (append_assoc g.gap s.front left);
      more = s.more;
      goes_on = λ tail ends.
          let text = s.goes_on tail ends in
          let same = over (s.more ++ tail) ∙ stays (s.front ++ (s.more ++ tail)) (opens (s.front ++ (s.more ++ tail)) tail text) in
          subst (λ (l : List ℕ). L l tail) (sym same) text;
      blocked = λ other rest agree text.
          let none : NoGap (s.front ++ other) = begins_alike is_gap s.front left other agree ∙ ap (begins is_gap) (sym s.is) ∙ no_gap_left bytes in
          s.blocked other rest agree (subst (λ (l : List ℕ). L l rest) (over other ∙ stays (s.front ++ other) none) text);
    }

pub filled_past_gap : (L : Language) {After : Follower} → ((b r : List ℕ) → L b r → NoGap b) → Filled After L → Filled After (Past L)
filled_past_gap L opens f = record {
  filling = f.filling;
  fills = λ tail ends.
      let text = f.fills tail ends in
      subst (λ (l : List ℕ). L l tail) (sym (stays (f.filling ++ tail) (opens (f.filling ++ tail) tail text))) text;
}

-- ---- a sign, and a text after a gap

abbrev pub Sign : ℕ → Language → Language
Sign c L = Then (Word (c ∷ [])) (Past L)

module _ (c : ℕ) (L : Language) {After : Follower} (opens : (b r : List ℕ) → L b r → NoGap b) where
  pub filled_sign : Filled After L → Filled After (Sign c L)
  filled_sign f = filled_then (Word (c ∷ [])) (Past L) (word_filled (c ∷ [])) (filled_past_gap L opens f) (λ tail ends. tt)

  pub stuck_before_sign : {bytes left : List ℕ} → Filled After L → (left ≡ bytes) × (begins (λ b. b == c) bytes ≡ false) → Stuck After (Sign c L) bytes left
  stuck_before_sign {bytes = bytes} {left = left} f is = stuck_in_first (Word (c ∷ [])) (Past L) (filled_past_gap L opens f) (λ tail ends. tt) (stuck_at_sign c bytes left is)

  pub stuck_after_sign : {bytes left : List ℕ} (inside : List ℕ) → bytes ≡ c ∷ inside → Stuck After L (past_gap inside) left → Stuck After (Sign c L) bytes left
  stuck_after_sign {bytes = bytes} inside is s = stuck_after (Word (c ∷ [])) (Past L) (word_passes (c ∷ []) bytes inside is) (stuck_past_gap L opens s)
