-- What is said of bytes and the rest after them, and is so of another rest that goes on as little.
use Rattle.std.proofs.Common.{◌≡◌, ◌<◌, ◌==◌, ◌||◌, ℕ, Bool, true, false, cond, List, [], ◌∷◌, ◌++◌, length, refl, sym, ap, ◌∙◌, subst, arith, append_assoc}
use Rattle.idl_lex.specs.Bytes.{begins, is_word_byte}
use Rattle.value_text.specs.Spelling.{past_gap}
use Rattle.value_text.proofs.Signs.{past_gap_shorter}

-- where the first goes on no word, number or run of digits, neither does the other
abbrev pub Follows : List ℕ → List ℕ → Type 0
Follows rest other = (test : ℕ → Bool) → ((b : ℕ) → is_word_byte b ≡ false → test b ≡ false) → begins test rest ≡ false → begins test other ≡ false

pub record Moved (bytes rest : List ℕ) (P : List ℕ → List ℕ → Type 0) : Type 0 where
  pub front : List ℕ
  pub is : bytes ≡ front ++ rest
  pub again : (other : List ℕ) → Follows rest other → P (front ++ other) other

-- a word stands before all that follows
pub word_moves : (word bytes rest : List ℕ) → bytes ≡ word ++ rest → Moved bytes rest (λ b r. b ≡ word ++ r)
word_moves word bytes rest is = record { front = word; is = is; again = λ other follows. refl }

follows_on : (front rest other : List ℕ) → Follows rest other → Follows (front ++ rest) (front ++ other)
follows_on [] rest other follows = follows
follows_on (b ∷ front) rest other follows = λ test weak h. h

module _ {P Q : List ℕ → List ℕ → Type 0} where
  -- the same by what follows from it
  pub moves_as : {bytes rest : List ℕ} → Moved bytes rest P → ((b r : List ℕ) → P b r → Q b r) → Moved bytes rest Q
  moves_as m so = record { front = m.front; is = m.is; again = λ other follows. so (m.front ++ other) other (m.again other follows) }

  -- one after the other
  pub both_move : {bytes next rest : List ℕ} → Moved bytes next P → Moved next rest Q → Moved bytes rest (λ b r. (n : List ℕ) × P b n × Q n r)
  both_move {rest = rest} m n = record {
    front = m.front ++ n.front;
    is = m.is ∙ ap (λ (l : List ℕ). m.front ++ l) n.is ∙ sym (append_assoc m.front n.front rest);
    again = λ other follows. (
      n.front ++ other,
      subst (λ (b : List ℕ). P b (n.front ++ other)) (sym (append_assoc m.front n.front other))
          (m.again (n.front ++ other) (subst (λ (l : List ℕ). Follows l (n.front ++ other)) (sym n.is) (follows_on n.front rest other follows))),
      n.again other follows,
    );
  }

-- ---- gaps

-- the gap before some bytes
pub record Gap (bytes : List ℕ) : Type 0 where
  pub gap : List ℕ
  pub is : bytes ≡ gap ++ past_gap bytes
  pub skips : (other : List ℕ) → past_gap (gap ++ other) ≡ past_gap other

pub gap_of : (bytes : List ℕ) → Gap bytes
gap_of [] = record { gap = []; is = refl; skips = λ other. refl }
gap_of (b ∷ bytes) = by_test (b == 32 || b == 10) refl (gap_of bytes)
  where
    skip_one : (gap other : List ℕ) → (b == 32 || b == 10) ≡ true → past_gap (b ∷ (gap ++ other)) ≡ past_gap (gap ++ other)
    skip_one gap other white = rw white refl

    by_test : (t : Bool) → (b == 32 || b == 10) ≡ t → Gap bytes → Gap (b ∷ bytes)
    by_test true white g = record {
      gap = b ∷ g.gap;
      is = ap (λ (l : List ℕ). b ∷ l) (g.is ∙ ap (λ (l : List ℕ). g.gap ++ l) (sym (rw white refl)));
      skips = λ other. skip_one g.gap other white ∙ g.skips other;
    }
    by_test false other_byte g = record { gap = []; is = sym (rw other_byte refl); skips = λ other. refl }

-- no gap is left behind one
gap_is_past : (bytes : List ℕ) → past_gap (past_gap bytes) ≡ past_gap bytes
gap_is_past [] = refl
gap_is_past (b ∷ bytes) = by_test (b == 32 || b == 10) refl (gap_is_past bytes)
  where
    by_test : (t : Bool) → (b == 32 || b == 10) ≡ t → past_gap (past_gap bytes) ≡ past_gap bytes → past_gap (cond t (past_gap bytes) (b ∷ bytes)) ≡ cond t (past_gap bytes) (b ∷ bytes)
    by_test true white others = others
    by_test false other others = rw other refl

same_start : (front rest other : List ℕ) → length rest < length (front ++ rest) → past_gap (front ++ rest) ≡ front ++ rest → past_gap (front ++ other) ≡ front ++ other
same_start [] rest other some h = absurd (omega arith)
same_start (b ∷ front) rest other some h = by_test (b == 32 || b == 10) refl h
  where
    by_test : (t : Bool) → (b == 32 || b == 10) ≡ t → cond t (past_gap (front ++ rest)) (b ∷ (front ++ rest)) ≡ b ∷ (front ++ rest) → past_gap (b ∷ (front ++ other)) ≡ b ∷ (front ++ other)
    by_test true white h = absurd (omega (arith, ap length h, past_gap_shorter (front ++ rest)))
    by_test false no_gap h = rw no_gap refl

-- what takes a byte at least, after a gap
pub past_gap_moves : {P : List ℕ → List ℕ → Type 0} (bytes rest : List ℕ) → length rest < length (past_gap bytes) → Moved (past_gap bytes) rest P → Moved bytes rest (λ b r. P (past_gap b) r)
past_gap_moves {P = P} bytes rest some m =
    let g = gap_of bytes in
    record {
      front = g.gap ++ m.front;
      is = g.is ∙ ap (λ (l : List ℕ). g.gap ++ l) m.is ∙ sym (append_assoc g.gap m.front rest);
      again = λ other follows. subst (λ (b : List ℕ). P b other)
          (sym (ap past_gap (append_assoc g.gap m.front other) ∙ g.skips (m.front ++ other)
          ∙ same_start m.front rest other (subst (λ (l : List ℕ). length rest < length l) m.is some) (sym (ap past_gap m.is) ∙ gap_is_past bytes ∙ m.is)))
          (m.again other follows);
    }

-- a sign after a gap
pub gap_sign_moves : (c : ℕ) (bytes rest : List ℕ) → past_gap bytes ≡ c ∷ rest → Moved bytes rest (λ b r. past_gap b ≡ c ∷ r)
gap_sign_moves c bytes rest is =
    let len = ap length is in
    past_gap_moves bytes rest (omega arith) (word_moves (c ∷ []) (past_gap bytes) rest is)
