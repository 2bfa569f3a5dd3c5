-- Identifiers and keywords.
use Rattle.std.specs.Prelude.{MatchOption}
use Rattle.std.proofs.Common.{◌≡◌, ◌≢◌, ℕ, true, List, [], ◌∷◌, ◌++◌, length, Option, Some, None, refl, sym, ap, ◌∙◌, inl, inr, arith}
use Rattle.std.proofs.lemmas.Bool.{cases_Bool}
use Rattle.std.proofs.lemmas.Bool.Decides.{nat_tests}
use Rattle.std.proofs.lemmas.List.{append-nil}
use Rattle.std.proofs.lemmas.Slice.Eq.{bytes_eq-Decides}
use Rattle.std.specs.Str.{bytes_eq}
use Rattle.std.specs.Char.{is_ascii_alphabetic}
use Rattle.idl_lex.specs.declared.kind.Kind.{Kind}
use Rattle.idl_lex.specs.declared.keyword.Keyword.{Keyword}
use Rattle.idl_lex.specs.declared.keyword.Keyword.TheVariants as keyword
use Rattle.idl_lex.specs.Bytes.{is_word_byte}
use Rattle.idl_lex.specs.Spellings.{keyword_text}
use Rattle.idl_lex.specs.Forms.{IsWord, IsForm}
use Rattle.idl_lex.specs.LexSteps.{run, keyword_among, all_keywords, keyword_of, kind_of, word_at, token_at}
use Rattle.idl_lex.proofs.Lexing.Lexemes.Dominating.{Dominates}
use Rattle.idl_lex.proofs.Lexing.Words.RunLaws.{run_passes, run_over, after_over, after_within, run_none}

-- ---- the table of keywords

among_means : (keywords : List Keyword) (word : List ℕ) (k : Keyword) → keyword_among keywords word ≡ Some k → word ≡ keyword_text k
among_means [] word k found = absurd (cc)
among_means (keyword ∷ keywords) word k found =
    elim (cases_Bool (bytes_eq (keyword_text keyword) word)) [
      | inl same ↦
          let here : Some keyword ≡ Some k = rw same at found in
          let text : keyword_text keyword ≡ word = (bytes_eq-Decides (keyword_text keyword) word).0 same in
          let kind : keyword ≡ k = cc in
          sym text ∙ ap keyword_text kind
      | inr other ↦ among_means keywords word k (rw other at found)
    ]

pub keyword_means : (word : List ℕ) (k : Keyword) → keyword_of word ≡ Some k → word ≡ keyword_text k
unfolding keyword_of
keyword_means word k found = among_means all_keywords word k found

pub keyword_found : (k : Keyword) → keyword_of (keyword_text k) ≡ Some k
unfolding keyword_of
keyword_found keyword.Void = refl
keyword_found keyword.Struct = refl
keyword_found keyword.Bool = refl
keyword_found keyword.Byte = refl
keyword_found keyword.Short = refl
keyword_found keyword.Int = refl
keyword_found keyword.Long = refl
keyword_found keyword.Float = refl
keyword_found keyword.Double = refl
keyword_found keyword.String = refl
keyword_found keyword.Vector = refl
keyword_found keyword.Map = refl
keyword_found keyword.Key = refl
keyword_found keyword.Routekey = refl
keyword_found keyword.Module = refl
keyword_found keyword.Interface = refl
keyword_found keyword.Out = refl
keyword_found keyword.Require = refl
keyword_found keyword.Optional = refl
keyword_found keyword.False = refl
keyword_found keyword.True = refl
keyword_found keyword.Enum = refl
keyword_found keyword.Const = refl
keyword_found keyword.Unsigned = refl

-- a word is the keyword that is found, or is none
pub keyword_spelled : (word : List ℕ) (found : Option Keyword) → found ≡ keyword_of word
    → MatchOption found ((k : Keyword) → word ≢ keyword_text k) (λ k. word ≡ keyword_text k)
keyword_spelled word None is = λ k same. absurd (cc (is, ap keyword_of same, keyword_found k))
keyword_spelled word (Some k) is = keyword_means word k (sym is)

-- what such a word is, is found
pub keyword_is : (word : List ℕ) (found : Option Keyword) → MatchOption found ((k : Keyword) → word ≢ keyword_text k) (λ k. word ≡ keyword_text k)
    → found ≡ keyword_of word
keyword_is word None none = by_keyword (keyword_of word) refl
  where
    by_keyword : (o : Option Keyword) → keyword_of word ≡ o → None ≡ o
    by_keyword None is = refl
    by_keyword (Some k) is = absurd (none k (keyword_means word k is))
keyword_is word (Some k) same = sym (ap keyword_of same ∙ keyword_found k)

pub keyword_is_word : (k : Keyword) → IsWord (keyword_text k)
keyword_is_word keyword.Void = (refl, refl)
keyword_is_word keyword.Struct = (refl, refl)
keyword_is_word keyword.Bool = (refl, refl)
keyword_is_word keyword.Byte = (refl, refl)
keyword_is_word keyword.Short = (refl, refl)
keyword_is_word keyword.Int = (refl, refl)
keyword_is_word keyword.Long = (refl, refl)
keyword_is_word keyword.Float = (refl, refl)
keyword_is_word keyword.Double = (refl, refl)
keyword_is_word keyword.String = (refl, refl)
keyword_is_word keyword.Vector = (refl, refl)
keyword_is_word keyword.Map = (refl, refl)
keyword_is_word keyword.Key = (refl, refl)
keyword_is_word keyword.Routekey = (refl, refl)
keyword_is_word keyword.Module = (refl, refl)
keyword_is_word keyword.Interface = (refl, refl)
keyword_is_word keyword.Out = (refl, refl)
keyword_is_word keyword.Require = (refl, refl)
keyword_is_word keyword.Optional = (refl, refl)
keyword_is_word keyword.False = (refl, refl)
keyword_is_word keyword.True = (refl, refl)
keyword_is_word keyword.Enum = (refl, refl)
keyword_is_word keyword.Const = (refl, refl)
keyword_is_word keyword.Unsigned = (refl, refl)

-- ---- words

pub letter_is_word : (b : ℕ) → is_ascii_alphabetic b ≡ true → is_word_byte b ≡ true
letter_is_word b letter = grind (arith, nat_tests)

-- the kind of a word is the one under which it has its form
pub word_form : (word : List ℕ) → IsWord word → IsForm (kind_of (keyword_of word)) word
word_form word is = by_keyword (keyword_of word) refl
  where
    by_keyword : (o : Option Keyword) → keyword_of word ≡ o → IsForm (kind_of o) word
    by_keyword None none = (is, λ k same. absurd (cc (none, ap keyword_of same, keyword_found k)))
    by_keyword (Some k) some = keyword_means word k some

-- the run at a letter is a word
pub run_word : (b : ℕ) (rest : List ℕ) → is_ascii_alphabetic b ≡ true → IsWord (run is_word_byte (b ∷ rest))
run_word b rest letter = (rw (letter_is_word b letter) letter, run_passes is_word_byte (b ∷ rest))

-- a word at the start is no longer than the token that is found
pub word_dominates : (kind : Kind) (word rest : List ℕ) → IsWord word → kind_of (keyword_of word) ≡ kind → Dominates (token_at (word ++ rest)) kind rest
unfolding token_at word_at
word_dominates kind [] rest is same = absurd (cc (is.0))
word_dominates kind (b ∷ word) rest is same =
    rw is.0 (
      rw (after_over is_word_byte (b ∷ word) rest is.1) (omega (arith, after_within is_word_byte rest)),
      λ all.
          let none : run is_word_byte rest ≡ [] = run_none is_word_byte rest (ap length (sym (after_over is_word_byte (b ∷ word) rest is.1)) ∙ all) in
          let whole : run is_word_byte (b ∷ (word ++ rest)) ≡ b ∷ word = run_over is_word_byte (b ∷ word) rest is.1 ∙ ap (λ (t : List ℕ). (b ∷ word) ++ t) none ∙ append-nil (b ∷ word) in
          ap (λ (w : List ℕ). kind_of (keyword_of w)) whole ∙ same,
    )
