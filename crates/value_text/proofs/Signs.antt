-- Bytes, words and gaps: what is read of them stands there, and what stands there is read.
use Rattle.std.proofs.Common.{◌≡◌, ◌≤◌, ℕ, suc, Bool, true, false, ◌==◌, ◌||◌, cond, List, [], ◌∷◌, ◌++◌, length, drop, Result, Ok, refl, ap, ◌∙◌, arith}
use Rattle.std.proofs.lemmas.Bool.{eqb-true}
use Rattle.std.proofs.lemmas.Bool.Decides.{nat_tests}
use Rattle.facts.proofs.ResultLaws.{bind_gave}
use Rattle.idl_lex.specs.Bytes.{begins}
use Rattle.value_text.specs.ReadSteps.{Read, unexpected, byte_at, sign_at, word_at, turn_after, turn_at}
use Rattle.value_text.specs.Spelling.{past_gap}

abbrev pub okay : {A E : Type 0} → A → Result A E
okay x = Ok x

pub okay_is : {A E : Type 0} (x y : A) → okay {E = E} x ≡ okay y → x ≡ y
okay_is x y e = cc

-- what was read, and the bytes after it
abbrev pub read_ok : {A : Type 0} → A → List ℕ → Read A
read_ok x after = Ok (x, after)

pub gives : {A : Type 0} (x y : A) (after rest : List ℕ) → read_ok x after ≡ read_ok y rest → (x ≡ y) × (after ≡ rest)
gives {A = A} x y after rest e =
    let one : A × List ℕ = (x, after) in
    let two : A × List ℕ = (y, rest) in
    let pair : one ≡ two = okay_is one two e in
    (ap (λ (p : A × List ℕ). p.0) pair, ap (λ (p : A × List ℕ). p.1) pair)

pub not_both : (b c : Bool) (after rest : List ℕ) → (b ≡ c → ⊥) → read_ok b after ≡ read_ok c rest → ⊥
not_both b c after rest apart e = apart (gives b c after rest e).0

pub false_is_not_true : false ≡ true → ⊥
false_is_not_true e = cc

pub true_is_not_false : true ≡ false → ⊥
true_is_not_false e = cc

pub same_byte : (b : ℕ) → (b == b) ≡ true
same_byte b = grind (arith, nat_tests)

-- ---- one byte

pub byte_stands : (c : ℕ) (bytes rest : List ℕ) → byte_at c bytes ≡ Ok rest → bytes ≡ c ∷ rest
unfolding byte_at
byte_stands c [] rest e = absurd cc
byte_stands c (b ∷ bytes) rest e = by_test (b == c) (eqb-true b c) e
  where
    by_test : (t : Bool) → (t ≡ true → b ≡ c) → cond t (Ok bytes) (unexpected (b ∷ bytes)) ≡ okay rest → b ∷ bytes ≡ c ∷ rest
    by_test true is e = ap (λ (x : ℕ). x ∷ bytes) (is refl) ∙ ap (λ (l : List ℕ). c ∷ l) (okay_is bytes rest e)
    by_test false is e = absurd cc

pub byte_is_read : (c : ℕ) (bytes rest : List ℕ) → bytes ≡ c ∷ rest → byte_at c bytes ≡ Ok rest
unfolding byte_at
byte_is_read c bytes rest is = ap (byte_at c) is ∙ rw (same_byte c) refl

-- ---- a sign and the gap after it

pub sign_stands : (c : ℕ) (bytes rest : List ℕ) → sign_at c bytes ≡ Ok rest → (inside : List ℕ) × (bytes ≡ c ∷ inside) × (past_gap inside ≡ rest)
unfolding sign_at
sign_stands c bytes rest e =
    let parts = bind_gave (byte_at c bytes) (λ r. Ok (past_gap r)) rest e in
    (parts.0, byte_stands c bytes parts.0 parts.1, okay_is (past_gap parts.0) rest parts.2)

pub sign_is_read : (c : ℕ) (bytes inside : List ℕ) → bytes ≡ c ∷ inside → sign_at c bytes ≡ Ok (past_gap inside)
unfolding sign_at
sign_is_read c bytes inside is = rw (byte_is_read c bytes inside is) refl

-- ---- a word

pub word_stands : (word bytes rest : List ℕ) → word_at word bytes ≡ Ok rest → bytes ≡ word ++ rest
unfolding word_at
word_stands [] bytes rest e = okay_is bytes rest e
word_stands (c ∷ word) bytes rest e =
    let parts = bind_gave (byte_at c bytes) (word_at word) rest e in
    byte_stands c bytes parts.0 parts.1 ∙ ap (λ (l : List ℕ). c ∷ l) (word_stands word parts.0 rest parts.2)

pub word_is_read : (word bytes rest : List ℕ) → bytes ≡ word ++ rest → word_at word bytes ≡ Ok rest
unfolding word_at
word_is_read [] bytes rest is = ap (λ (l : List ℕ). okay l) is
word_is_read (c ∷ word) bytes rest is = rw (byte_is_read c bytes (word ++ rest) is) (word_is_read word (word ++ rest) rest refl)

-- ---- after an element

pub begins_with : (c : ℕ) (bytes : List ℕ) → begins (λ b. b == c) bytes ≡ true → bytes ≡ c ∷ drop 1 bytes
begins_with c [] h = absurd cc
begins_with c (b ∷ bytes) h = ap (λ (x : ℕ). x ∷ bytes) (eqb-true b c h)

-- what a turn tells: the closing sign, or a comma and the gap after it
abbrev pub Turns : ℕ → Bool → List ℕ → List ℕ → Type 0
Turns close true bytes rest = bytes ≡ close ∷ rest
Turns close false bytes rest = (inside : List ℕ) × (bytes ≡ 44 ∷ inside) × (past_gap inside ≡ rest)

pub turn_stands : (close : ℕ) (bytes rest : List ℕ) (last : Bool) → turn_at close bytes ≡ Ok (last, rest) → Turns close last (past_gap bytes) rest
unfolding turn_after
turn_stands close bytes rest last e = after_stands (past_gap bytes) rest last e
  where
    comma : (b : ℕ) (bytes rest : List ℕ) (last : Bool) → (t : Bool) → (t ≡ true → b ≡ 44) → cond t (read_ok (false) (past_gap bytes)) (unexpected (b ∷ bytes)) ≡ read_ok last rest → Turns close last (b ∷ bytes) rest
    comma b bytes rest true true is e = absurd (not_both false true (past_gap bytes) rest false_is_not_true e)
    comma b bytes rest false true is e = (bytes, ap (λ (x : ℕ). x ∷ bytes) (is refl), (gives false false (past_gap bytes) rest e).1)
    comma b bytes rest last false is e = absurd cc

    closing : (b : ℕ) (bytes rest : List ℕ) (last : Bool) → (t : Bool) → (t ≡ true → b ≡ close) → cond t (read_ok (true) (bytes)) (cond (b == 44) (read_ok (false) (past_gap bytes)) (unexpected (b ∷ bytes))) ≡ read_ok last rest → Turns close last (b ∷ bytes) rest
    closing b bytes rest true true is e = ap (λ (x : ℕ). x ∷ bytes) (is refl) ∙ ap (λ (l : List ℕ). close ∷ l) (gives true true bytes rest e).1
    closing b bytes rest false true is e = absurd (not_both true false bytes rest true_is_not_false e)
    closing b bytes rest last false is e = comma b bytes rest last (b == 44) (eqb-true b 44) e

    after_stands : (bytes rest : List ℕ) (last : Bool) → turn_after close bytes ≡ Ok (last, rest) → Turns close last bytes rest
    after_stands [] rest last e = absurd cc
    after_stands (b ∷ bytes) rest last e = closing b bytes rest last (b == close) (eqb-true b close) e

pub closing_is_read : (close : ℕ) (bytes rest : List ℕ) → past_gap bytes ≡ close ∷ rest → turn_at close bytes ≡ Ok (true, rest)
unfolding turn_after
closing_is_read close bytes rest is = ap (turn_after close) is ∙ rw (same_byte close) refl

pub comma_is_read : (close : ℕ) (bytes inside : List ℕ) → (44 == close) ≡ false → past_gap bytes ≡ 44 ∷ inside → turn_at close bytes ≡ Ok (false, past_gap inside)
unfolding turn_after
comma_is_read close bytes inside other is = ap (turn_after close) is ∙ rw other refl

-- ---- lengths

pub past_gap_shorter : (bytes : List ℕ) → length (past_gap bytes) ≤ length bytes
past_gap_shorter [] = omega arith
past_gap_shorter (b ∷ bytes) = by_test (b == 32 || b == 10) (past_gap_shorter bytes)
  where
    by_test : (t : Bool) → length (past_gap bytes) ≤ length bytes → length (cond t (past_gap bytes) (b ∷ bytes)) ≤ suc (length bytes)
    by_test true h = omega arith
    by_test false h = omega arith
