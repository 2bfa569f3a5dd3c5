-- What module and name a word says.
use Rattle.std.proofs.Common.{◌≡◌, ℕ, Bool, true, false, not, ◌==◌, List, [], ◌∷◌, ◌++◌, take, drop, if◌then◌else◌, Option, Some, None, refl, sym, ap, subst, ◌∙◌, codes, append-nil}
use Rattle.std.specs.Char.{is_ascii_alphabetic}
use Rattle.std.specs.Str.{bytes_eq}
use Rattle.std.proofs.lemmas.Bool.{eqb-true}
use Rattle.std.proofs.lemmas.Slice.Eq.{bytes_eq-Decides}
use Rattle.facts.specs.OptionSteps.{◌>>=◌}
use Rattle.facts.proofs.OptionLaws.{some_is, chosen, bind_some}
use Rattle.idl_lex.specs.Bytes.{begins, is_word_byte}
use Rattle.idl_lex.specs.Forms.{IsWord}
use Rattle.idl_lex.specs.LexSteps.{run, after_run}
use Rattle.idl_lex.proofs.Lexing.Words.RunLaws.{run_whole, run_over, after_over}
use Rattle.idl_lex.proofs.Lexing.Words.WordLaws.{run_word}
use Rattle.command_words.specs.Words.{NamesStruct, is_word}
use Rattle.command_words.specs.WordSteps.{split_word, after_sign, is_empty, struct_of}

abbrev Split : Type 0
Split = List ℕ × List ℕ

-- ---- a word at the start

no_run : (rest : List ℕ) → begins is_word_byte rest ≡ false → run is_word_byte rest ≡ []
no_run [] none = refl
no_run (b ∷ rest) none = rw none refl

all_left : (rest : List ℕ) → begins is_word_byte rest ≡ false → after_run is_word_byte rest ≡ rest
all_left [] none = refl
all_left (b ∷ rest) none = rw none refl

split_found : (word rest : List ℕ) → IsWord word → begins is_word_byte rest ≡ false → split_word (word ++ rest) ≡ Some (word, rest)
split_found [] rest is none = absurd (let no = is.0 in cc)
split_found (b ∷ word) rest is none =
    rw is.0 (
    ap (λ (r : List ℕ). Some (r, after_run is_word_byte ((b ∷ word) ++ rest))) (run_over is_word_byte (b ∷ word) rest is.1 ∙ ap (λ (r : List ℕ). (b ∷ word) ++ r) (no_run rest none) ∙ append-nil (b ∷ word))
    ∙ ap (λ (r : List ℕ). Some (b ∷ word, r)) (after_over is_word_byte (b ∷ word) rest is.1 ∙ all_left rest none)
    )

split_is : (bytes : List ℕ) (x : Split) → split_word bytes ≡ Some x → IsWord x.0 × (bytes ≡ x.0 ++ x.1)
split_is [] x e = absurd cc
split_is (b ∷ bytes) x e =
    let c = chosen (is_ascii_alphabetic b) (Some (run is_word_byte (b ∷ bytes), after_run is_word_byte (b ∷ bytes))) x e in
    subst (λ (s : Split). IsWord s.0 × (b ∷ bytes ≡ s.0 ++ s.1)) (some_is (run is_word_byte (b ∷ bytes), after_run is_word_byte (b ∷ bytes)) x c.1)
    (run_word b bytes c.0, sym (run_whole is_word_byte (b ∷ bytes)))

-- ---- the sign between the two

sign_is : (bytes rest : List ℕ) → after_sign bytes ≡ Some rest → bytes ≡ codes "::" ++ rest
sign_is bytes rest e =
    let c = chosen (bytes_eq (take 2 bytes) (codes "::")) (Some (drop 2 bytes)) rest e in
    by_bytes bytes ((bytes_eq-Decides (take 2 bytes) (codes "::")).0 c.0) (some_is (drop 2 bytes) rest c.1)
  where
    by_bytes : (bytes : List ℕ) → take 2 bytes ≡ codes "::" → drop 2 bytes ≡ rest → bytes ≡ codes "::" ++ rest
    by_bytes [] is left = absurd cc
    by_bytes (a ∷ []) is left = absurd cc
    by_bytes (a ∷ b ∷ bytes) is left = ap (λ (s : List ℕ). s ++ bytes) is ∙ ap (λ (r : List ℕ). codes "::" ++ r) left

nothing_is : (rest : List ℕ) → is_empty rest ≡ true → rest ≡ []
nothing_is [] is = refl
nothing_is (b ∷ rest) is = absurd cc

-- ---- the whole word

pub struct_found : (word home name : List ℕ) → NamesStruct word home name → struct_of word ≡ Some (home, name)
unfolding struct_of
struct_found word home name is =
    ap (λ (w : List ℕ). split_word w >>= λ h. after_sign h.1 >>= λ rest. split_word rest >>= λ n. if is_empty n.1 then Some (h.0, n.0) else None) is.text
    ∙ ap (λ (o : Option Split). o >>= λ h. after_sign h.1 >>= λ rest. split_word rest >>= λ n. if is_empty n.1 then Some (h.0, n.0) else None) (split_found home (codes "::" ++ name) is.home_is refl)
    ∙ ap (λ (o : Option Split). o >>= λ n. if is_empty n.1 then Some (home, n.0) else None) (ap split_word (sym (append-nil name)) ∙ split_found name [] is.name_is refl)

pub struct_is : (word : List ℕ) (of : Split) → struct_of word ≡ Some of → NamesStruct word of.0 of.1
unfolding struct_of
struct_is word of e =
    let home = bind_some (split_word word) (λ h. after_sign h.1 >>= λ rest. split_word rest >>= λ n. if is_empty n.1 then Some (h.0, n.0) else None) of e in
    let rest = bind_some (after_sign home.0.1) (λ rest. split_word rest >>= λ n. if is_empty n.1 then Some (home.0.0, n.0) else None) of home.2 in
    let name = bind_some (split_word rest.0) (λ n. if is_empty n.1 then Some (home.0.0, n.0) else None) of rest.2 in
    let whole = chosen (is_empty name.0.1) (Some (home.0.0, name.0.0)) of name.2 in
    let first = split_is word home.0 home.1 in
    let second = split_is rest.0 name.0 name.1 in
    subst (λ (x : Split). NamesStruct word x.0 x.1) (some_is (home.0.0, name.0.0) of whole.1)
    (record {
      text = first.1 ∙ ap (λ (r : List ℕ). home.0.0 ++ r) (sign_is home.0.1 rest.0 rest.1 ∙ ap (λ (r : List ℕ). codes "::" ++ r) (second.1 ∙ ap (λ (r : List ℕ). name.0.0 ++ r) (nothing_is name.0.1 whole.0) ∙ append-nil name.0.0));
      home_is = first.0;
      name_is = second.0;
    })

-- no such word is empty or begins with `-`
pub struct_word : (word home name : List ℕ) → NamesStruct word home name → is_word word ≡ true
struct_word word home name is = subst (λ (w : List ℕ). is_word w ≡ true) (sym is.text) (by_home home is.home_is)
  where
    by_letter : (b : ℕ) (t : Bool) → (b == 45) ≡ t → is_ascii_alphabetic b ≡ true → not t ≡ true
    by_letter b false is letter = refl
    by_letter b true is letter = let none : is_ascii_alphabetic 45 ≡ true = subst (λ (c : ℕ). is_ascii_alphabetic c ≡ true) (eqb-true b 45 is) letter in absurd cc

    by_home : (home : List ℕ) → IsWord home → is_word (home ++ (codes "::" ++ name)) ≡ true
    by_home [] is = absurd (let no = is.0 in cc)
    by_home (b ∷ home) is = by_letter b (b == 45) refl is.0
