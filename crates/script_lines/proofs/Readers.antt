-- What is read is so written, and what is so written is read: for each way to join readers.
use Rattle.std.proofs.Common.{◌≡◌, ℕ, Bool, true, false, eqb, ltb, not, List, [], ◌∷◌, ◌++◌, length, get_or, take, drop, Some, None, refl, sym, ap, subst, ◌∙◌, append_assoc, arith}
use Rattle.std.specs.Bool.{Decides}
use Rattle.std.specs.List.{list_all, position_or_len, position}
use Rattle.std.specs.Str.{bytes_eq}
use Rattle.std.proofs.lemmas.Bool.{and_parts, and_from, not_from_false, false_from_ne_true, eqb-true, lt-ltb, cond-true}
use Rattle.std.proofs.lemmas.Bool.Decides.{Decides-eqb}
use Rattle.std.proofs.lemmas.List.{take_at, drop_at, take-append-drop, length-append}
use Rattle.std.proofs.lemmas.Slice.Eq.{bytes_eq-Decides}
use Rattle.std.proofs.lemmas.Option.{cond_some}
use Rattle.facts.specs.OptionSteps.{◌>>=◌}
use Rattle.facts.proofs.OptionLaws.{bind_some, bind_is, some_is}
use Rattle.script_lines.specs.ScanSteps.{Whole, Prefix, after, word_before, tested, before, ◌&>◌}

-- no byte is c
abbrev pub lacks : ℕ → List ℕ → Bool
lacks c bytes = list_all (λ b. not (eqb b c)) bytes

-- bytes of which each passes a test lack what fails it
pub lacks_from : (test : ℕ → Bool) (c : ℕ) (bytes : List ℕ) → test c ≡ false → list_all test bytes ≡ true → lacks c bytes ≡ true
lacks_from test c [] fails h = refl
lacks_from test c (b ∷ bytes) fails h =
    let parts = and_parts (test b) (list_all test bytes) h in
    let differs : not (eqb b c) ≡ true = not_from_false (eqb b c) (false_from_ne_true (eqb b c) (λ e. absurd (let same = eqb-true b c e in cc (ap test same)))) in
    and_from (not (eqb b c)) (lacks c bytes) differs (lacks_from test c bytes fails parts.1)

-- a reader of all the bytes: t is written so, if it fits, and read as its value
pub record IsWhole {V T : Type 0} (read : Whole V) (write : T → List ℕ) (Fits : T → Type 0) (value : T → V) : Type 0 where
  pub takes : (bytes : List ℕ) (v : V) → read bytes ≡ Some v → (t : T) × (bytes ≡ write t) × Fits t × (v ≡ value t)
  pub again : (t : T) → Fits t → read (write t) ≡ Some (value t)

-- the same of a reader of a prefix
pub record IsPrefix {V T : Type 0} (read : Prefix V) (write : T → List ℕ) (Fits : T → Type 0) (value : T → V) : Type 0 where
  pub takes : (bytes : List ℕ) (x : V × List ℕ) → read bytes ≡ Some x → (t : T) × (bytes ≡ write t ++ x.1) × Fits t × (x.0 ≡ value t)
  pub again : (t : T) (rest : List ℕ) → Fits t → read (write t ++ rest) ≡ Some (value t, rest)

-- ---- a literal

pub after_takes : (literal bytes rest : List ℕ) → after literal bytes ≡ Some rest → bytes ≡ literal ++ rest
unfolding after
after_takes literal bytes rest e =
    let c = cond_some (bytes_eq (take (length literal) bytes) literal) (drop (length literal) bytes) rest e in
    let same : take (length literal) bytes ≡ literal = (bytes_eq-Decides (take (length literal) bytes) literal).0 c.0 in
    sym (take-append-drop (length literal) bytes) ∙ ap (λ (x : List ℕ). x ++ drop (length literal) bytes) same ∙ ap (λ (x : List ℕ). literal ++ x) c.1

pub after_again : (literal rest : List ℕ) → after literal (literal ++ rest) ≡ Some rest
unfolding after
after_again literal rest =
    rw (take_at literal rest (length literal) refl, drop_at literal rest (length literal) refl, (bytes_eq-Decides literal literal).1 refl) refl

-- ---- a word before a literal

position_or_len_at : (c : ℕ) (word more : List ℕ) → lacks c word ≡ true → position_or_len (λ b. eqb b c) (word ++ c ∷ more) ≡ length word
position_or_len_at c [] more h = rw ((Decides-eqb c c).1 refl) refl
position_or_len_at c (b ∷ word) more h =
    let parts = and_parts (not (eqb b c)) (lacks c word) h in
    rw (parts.0, position_or_len_at c word more parts.1) (omega arith)

position_at : (c : ℕ) (word more : List ℕ) → lacks c word ≡ true → position (λ b. eqb b c) (word ++ c ∷ more) ≡ Some (length word)
position_at c word more h =
    let within : ltb (length word) (length (word ++ c ∷ more)) ≡ true = lt-ltb (length word) (length (word ++ c ∷ more)) (omega (arith, length-append word (c ∷ more))) in
    rw (position_or_len_at c word more h, within) refl

pub word_before_takes : (literal bytes : List ℕ) (x : List ℕ × List ℕ) → word_before literal bytes ≡ Some x → bytes ≡ x.0 ++ (literal ++ x.1)
unfolding word_before
word_before_takes literal bytes x e =
    let a = bind_some (position (λ b. eqb b (get_or literal 0 0)) bytes) (λ n. after literal (drop n bytes) >>= λ rest. Some (take n bytes, rest)) x e in
    let b = bind_some (after literal (drop a.0 bytes)) (λ rest. Some (take a.0 bytes, rest)) x a.2 in
    let whole : bytes ≡ take a.0 bytes ++ (literal ++ b.0) = sym (take-append-drop a.0 bytes) ∙ ap (λ (r : List ℕ). take a.0 bytes ++ r) (after_takes literal (drop a.0 bytes) b.0 b.1) in
    subst (λ (y : List ℕ × List ℕ). bytes ≡ y.0 ++ (literal ++ y.1)) (some_is (take a.0 bytes, b.0) x b.2) whole

pub word_before_again : (c : ℕ) (literal word rest : List ℕ) → lacks c word ≡ true → word_before (c ∷ literal) (word ++ ((c ∷ literal) ++ rest)) ≡ Some (word, rest)
unfolding word_before
word_before_again c literal word rest h =
    rw (position_at c word (literal ++ rest) h, drop_at word (c ∷ (literal ++ rest)) (length word) refl, take_at word (c ∷ (literal ++ rest)) (length word) refl, after_again (c ∷ literal) rest) refl

-- ---- readers joined

pub tested_whole : {test : List ℕ → Bool} {Fits : List ℕ → Type 0} → ((word : List ℕ) → Decides (test word) (Fits word)) → IsWhole (tested test) (λ word. word) Fits (λ word. word)
tested_whole {test} {Fits} decides = record {
  takes = λ bytes v e. let c = cond_some (test bytes) bytes v e in (bytes, refl, (decides bytes).0 c.0, sym c.1);
  again = λ t fits. cond-true (test t) (Some t) None ((decides t).1 fits);
}

module _ {V T : Type 0} {read : Whole V} {write : T → List ℕ} {Fits : T → Type 0} {value : T → V} where
  pub before_prefix : (c : ℕ) (literal : List ℕ) → IsWhole read write Fits value → ((t : T) → Fits t → lacks c (write t) ≡ true) → IsPrefix (before (c ∷ literal) read) (λ t. write t ++ (c ∷ literal)) Fits value
  before_prefix c literal exact apart = record {
    takes = λ bytes x e.
        let a = bind_some (word_before (c ∷ literal) bytes) (λ word. read word.0 >>= λ v. Some (v, word.1)) x e in
        let b = bind_some (read a.0.0) (λ v. Some (v, a.0.1)) x a.2 in
        let t = exact.takes a.0.0 b.0 b.1 in
        let whole : bytes ≡ (write t.0 ++ (c ∷ literal)) ++ a.0.1 = word_before_takes (c ∷ literal) bytes a.0 a.1 ∙ ap (λ (w : List ℕ). w ++ ((c ∷ literal) ++ a.0.1)) t.1 ∙ sym (append_assoc (write t.0) (c ∷ literal) a.0.1) in
        subst (λ (y : V × List ℕ). (t : T) × (bytes ≡ (write t ++ (c ∷ literal)) ++ y.1) × Fits t × (y.0 ≡ value t)) (some_is (b.0, a.0.1) x b.2) (t.0, whole, t.2, t.3);
    again = λ t rest fits.
        let word : word_before (c ∷ literal) ((write t ++ (c ∷ literal)) ++ rest) ≡ Some (write t, rest) = ap (word_before (c ∷ literal)) (append_assoc (write t) (c ∷ literal) rest) ∙ word_before_again c literal (write t) rest (apart t fits) in
        bind_is _ (λ word. read word.0 >>= λ v. Some (v, word.1)) (write t, rest) word ∙ bind_is _ (λ v. Some (v, rest)) (value t) (exact.again t fits);
  }

module _ {V T : Type 0} {read : Prefix V} {write : T → List ℕ} {Fits : T → Type 0} {value : T → V} where
  module _ {W S : Type 0} {next : Whole W} {written : S → List ℕ} {Suits : S → Type 0} {meaning : S → W} where
    pub and_whole : IsPrefix read write Fits value → IsWhole next written Suits meaning → IsWhole (read &> next) (λ (t : T × S). write t.0 ++ written t.1) (λ (t : T × S). Fits t.0 × Suits t.1) (λ (t : T × S). (value t.0, meaning t.1))
    and_whole first second = record {
      takes = λ bytes x e.
          let a = bind_some (read bytes) (λ v. next v.1 >>= λ w. Some (v.0, w)) x e in
          let b = bind_some (next a.0.1) (λ w. Some (a.0.0, w)) x a.2 in
          let t = first.takes bytes a.0 a.1 in
          let s = second.takes a.0.1 b.0 b.1 in
          let pair : x ≡ (value t.0, meaning s.0) = sym (some_is (a.0.0, b.0) x b.2) ∙ cc in
          ((t.0, s.0), t.1 ∙ ap (λ (r : List ℕ). write t.0 ++ r) s.1, (t.2, s.2), pair);
      again = λ t fits.
          bind_is _ (λ v. next v.1 >>= λ w. Some (v.0, w)) (value t.0, written t.1) (first.again t.0 (written t.1) fits.0) ∙ bind_is _ (λ w. Some (value t.0, w)) (meaning t.1) (second.again t.1 fits.1);
    }
