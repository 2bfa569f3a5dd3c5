-- Words: what is read of them, and what they are.
use Rattle.std.proofs.Common.{◌≡◌, ℕ, suc, ◌+◌, ◌<◌, Bool, true, false, cond, eqb, List, [], ◌∷◌, length, take, drop, Some, None, refl, sym, ap, subst, ◌∙◌, arith, ◌⊎◌, inl, inr}
use Rattle.std.specs.List.{prefix_len}
use Rattle.std.specs.Str.{bytes_eq}
use Rattle.std.proofs.lemmas.Option.{cond_some}
use Rattle.std.proofs.lemmas.Slice.Eq.{bytes_eq-Decides}
use Rattle.facts.specs.OptionSteps.{◌>>=◌}
use Rattle.facts.proofs.OptionLaws.{bind_some, bind_is, some_is}
use Rattle.script_lines.specs.Lines.{is_word_byte, after_spaces, next_word, AreWords}
use Rattle.script_lines.specs.Forms.{is_skipped}
use Rattle.script_lines.specs.ScanSteps.{is_empty, only_word, two_words, something}

abbrev pub Split : Type 0
Split = List ℕ × List ℕ

pub empty_is : (bytes : List ℕ) → is_empty bytes ≡ true → bytes ≡ []
empty_is [] e = refl
empty_is (b ∷ bytes) e = absurd cc

-- a choice by a test
pub choice : {A : Type 0} (b : Bool) (x y z : A) → cond b x y ≡ z → ((b ≡ true) × (x ≡ z)) ⊎ ((b ≡ false) × (y ≡ z))
choice true x y z e = inl (refl, e)
choice false x y z e = inr (refl, e)

-- the first word is this one
pub first_is : (content word literal rest : List ℕ) → next_word content ≡ Some (word, rest) → bytes_eq word literal ≡ true → next_word content ≡ Some (literal, rest)
first_is content word literal rest e same =
    subst (λ (w : List ℕ). next_word content ≡ Some (w, rest)) ((bytes_eq-Decides word literal).0 same) e

-- ---- whole rests

pub only_takes : (rest word : List ℕ) → only_word rest ≡ Some word → AreWords rest (word ∷ [])
unfolding only_word
only_takes rest word e =
    let a = bind_some (next_word rest) (λ first. cond (is_empty first.1) (Some first.0) None) word e in
    let c = cond_some (is_empty a.0.1) a.0.0 word a.2 in
    (a.0.1, subst (λ (w : List ℕ). next_word rest ≡ Some (w, a.0.1)) c.1 a.1, empty_is a.0.1 c.0)

pub only_again : (rest word : List ℕ) → AreWords rest (word ∷ []) → only_word rest ≡ Some word
unfolding only_word
only_again rest word is =
    let e : next_word rest ≡ Some (word, []) = subst (λ (a : List ℕ). next_word rest ≡ Some (word, a)) is.2 is.1 in
    bind_is (next_word rest) (λ first. cond (is_empty first.1) (Some first.0) None) (word, []) e

pub two_takes : (rest : List ℕ) (words : Split) → two_words rest ≡ Some words → AreWords rest (words.0 ∷ words.1 ∷ [])
unfolding two_words
two_takes rest words e =
    let a = bind_some (next_word rest) (λ first. only_word first.1 >>= λ second. Some (first.0, second)) words e in
    let b = bind_some (only_word a.0.1) (λ second. Some (a.0.0, second)) words a.2 in
    subst (λ (w : Split). AreWords rest (w.0 ∷ w.1 ∷ [])) (some_is (a.0.0, b.0) words b.2) (a.0.1, a.1, only_takes a.0.1 b.0 b.1)

pub two_again : (rest first second : List ℕ) → AreWords rest (first ∷ second ∷ []) → two_words rest ≡ Some (first, second)
unfolding two_words
two_again rest first second is =
    bind_is (next_word rest) (λ first. only_word first.1 >>= λ second. Some (first.0, second)) (first, is.0) is.1
    ∙ bind_is (only_word is.0) (λ second. Some (first, second)) second (only_again is.0 second is.2)

pub something_takes : (rest text : List ℕ) → something rest ≡ Some text → (rest ≡ text) × (0 < length text)
unfolding something
something_takes [] text e = absurd cc
something_takes (b ∷ rest) text e = let same = some_is (b ∷ rest) text e in (same, subst (λ (t : List ℕ). 0 < length t) same (omega arith))

pub something_again : (text : List ℕ) → 0 < length text → something text ≡ Some text
unfolding something
something_again [] h = absurd (omega arith)
something_again (b ∷ text) h = refl

-- ---- a line that has a word is no comment, if the word begins none

pub not_skipped : (content word rest : List ℕ) → next_word content ≡ Some (word, rest) → is_skipped word ≡ false → is_skipped content ≡ false
unfolding next_word
not_skipped [] word rest e plain = absurd cc
not_skipped (c ∷ cs) word rest e plain =
    by_first (is_word_byte c) refl (ap (λ (x : Split). x.0) (some_is (take (prefix_len is_word_byte (c ∷ cs)) (c ∷ cs), after_spaces (drop (prefix_len is_word_byte (c ∷ cs)) (c ∷ cs))) (word, rest) e))
  where
    by_first : (b : Bool) → is_word_byte c ≡ b → take (prefix_len is_word_byte (c ∷ cs)) (c ∷ cs) ≡ word → eqb c 35 ≡ false
    by_first true is e =
        let end : cond (is_word_byte c) (1 + prefix_len is_word_byte cs) 0 ≡ suc (prefix_len is_word_byte cs) = rw is (omega arith) in
        let whole : c ∷ take (prefix_len is_word_byte cs) cs ≡ word = sym (ap (λ (n : ℕ). take n (c ∷ cs)) end) ∙ e in
        subst (λ (w : List ℕ). is_skipped w ≡ false) (sym whole) plain
    by_first false is e =
        let none : [] ≡ word = rw is refl ∙ e in
        absurd (let bad : is_skipped [] ≡ false = subst (λ (w : List ℕ). is_skipped w ≡ false) (sym none) plain in cc)
