-- Signs, and the token at the start of bytes that is no text.
use Rattle.std.proofs.Common.{◌≡◌, ◌≢◌, ◌⊎◌, ℕ, true, cond, eqb, ◌&&◌, ◌||◌, List, [], ◌∷◌, ◌++◌, length, take, Option, Some, None, refl, sym, ap, ◌∙◌, subst, inl, inr, codes, le_refl}
use Rattle.std.proofs.lemmas.Bool.{cases_Bool, and_parts, eqb-true}
use Rattle.std.proofs.lemmas.List.{take-append-drop}
use Rattle.std.proofs.lemmas.Slice.Eq.{bytes_eq-Decides}
use Rattle.std.specs.Option.{option_map}
use Rattle.std.specs.Str.{bytes_eq}
use Rattle.std.specs.Char.{is_ascii_alphabetic, is_digit}
use Rattle.idl_lex.specs.declared.kind.Kind.{Kind}
use Rattle.idl_lex.specs.declared.kind.Kind.TheVariants as kind
use Rattle.idl_lex.specs.declared.keyword.Keyword.{Keyword}
use Rattle.idl_lex.specs.declared.sign.Sign.{Sign}
use Rattle.idl_lex.specs.declared.sign.Sign.TheVariants as sign
use Rattle.idl_lex.specs.Bytes.{is_word_byte}
use Rattle.idl_lex.specs.Spellings.{keyword_text, sign_text}
use Rattle.idl_lex.specs.Forms.{IsForm, is_sound}
use Rattle.idl_lex.specs.LexSteps.{Candidate, sound_candidate, run, after_run, keyword_of, kind_of, word_at, include_at, sign_of, sign_candidate, sign_at, token_at}
use Rattle.idl_lex.proofs.Lexing.Lexemes.Dominating.{Dominates, Finds}
use Rattle.idl_lex.proofs.Lexing.Words.RunLaws.{run_whole}
use Rattle.idl_lex.proofs.Lexing.Words.WordLaws.{keyword_means, keyword_found, keyword_is_word, word_form, run_word, word_dominates}
use Rattle.idl_lex.proofs.Lexing.Numbers.NumberLaws.{number_finds}
use Rattle.idl_lex.proofs.Lexing.Numbers.NumberLengths.{number_dominates}

-- ---- signs

abbrev SignMeans : Option Sign → ℕ → Type 0
SignMeans None b = Unit {0}
SignMeans (Some s) b = sign_text s ≡ b ∷ []

sign_step : (b n : ℕ) (s : Sign) (others : Option Sign) → sign_text s ≡ n ∷ [] → SignMeans others b → SignMeans (cond (eqb b n) (Some s) others) b
sign_step b n s others text rest =
    elim (cases_Bool (eqb b n)) [
      | inl same ↦ rw same (text ∙ ap (λ (c : ℕ). c ∷ []) (sym (eqb-true b n same)))
      | inr other ↦ rw other rest
    ]

sign_means : (b : ℕ) → SignMeans (sign_of b) b
unfolding sign_of
sign_means b = (sign_step b 123 sign.OpenBrace _ refl (sign_step b 125 sign.CloseBrace _ refl (sign_step b 40 sign.OpenParen _ refl (sign_step b 41 sign.CloseParen _ refl (sign_step b 91 sign.OpenBracket _ refl (sign_step b 93 sign.CloseBracket _ refl (sign_step b 60 sign.Less _ refl (sign_step b 62 sign.Greater _ refl (sign_step b 44 sign.Comma _ refl (sign_step b 59 sign.Semicolon _ refl (sign_step b 61 sign.Equals _ refl tt)))))))))))

one_sign : (b : ℕ) (rest : List ℕ) (o : Option Sign) → SignMeans o b → Finds (option_map (sign_candidate rest) o) (b ∷ rest)
one_sign b rest None means = tt
one_sign b rest (Some s) means = record { word = b ∷ []; prefix = refl; form = sym means; sound = refl }

sign_finds : (b : ℕ) (rest : List ℕ) → Finds (sign_at (b ∷ rest)) (b ∷ rest)
unfolding sign_at
sign_finds b [] =
    elim (cases_Bool (eqb b 58)) [
      | inl colon ↦ rw colon (one_sign b [] (sign_of b) (sign_means b))
      | inr other ↦ rw other (one_sign b [] (sign_of b) (sign_means b))
    ]
sign_finds b (c ∷ rest) =
    elim (cases_Bool (eqb b 58 && eqb c 58)) [
      | inl both ↦
          let parts = and_parts (eqb b 58) (eqb c 58) both in
          let first = eqb-true b 58 parts.0 in
          let second = eqb-true c 58 parts.1 in
          rw both (record { word = 58 ∷ 58 ∷ []; prefix = cc; form = refl; sound = refl })
      | inr other ↦ rw other (one_sign b (c ∷ rest) (sign_of b) (sign_means b))
    ]

sign_dominates : (s : Sign) (rest : List ℕ) → Dominates (token_at (sign_text s ++ rest)) (kind.Sign s) rest
unfolding token_at sign_at sign_of
sign_dominates sign.OpenBrace rest = (le_refl (length rest), λ _. refl)
sign_dominates sign.CloseBrace rest = (le_refl (length rest), λ _. refl)
sign_dominates sign.OpenParen rest = (le_refl (length rest), λ _. refl)
sign_dominates sign.CloseParen rest = (le_refl (length rest), λ _. refl)
sign_dominates sign.OpenBracket rest = (le_refl (length rest), λ _. refl)
sign_dominates sign.CloseBracket rest = (le_refl (length rest), λ _. refl)
sign_dominates sign.Less rest = (le_refl (length rest), λ _. refl)
sign_dominates sign.Greater rest = (le_refl (length rest), λ _. refl)
sign_dominates sign.Comma rest = (le_refl (length rest), λ _. refl)
sign_dominates sign.Semicolon rest = (le_refl (length rest), λ _. refl)
sign_dominates sign.Equals rest = (le_refl (length rest), λ _. refl)
sign_dominates sign.PathSep rest = (le_refl (length rest), λ _. refl)

-- ---- the include word

include_finds : (bytes : List ℕ) → Finds (include_at bytes) bytes
unfolding include_at
include_finds bytes =
    elim (cases_Bool (bytes_eq (take 8 bytes) (codes "#include"))) [
      | inl same ↦
          let text : take 8 bytes ≡ codes "#include" = (bytes_eq-Decides (take 8 bytes) (codes "#include")).0 same in
          rw same (record { word = take 8 bytes; prefix = sym (take-append-drop 8 bytes); form = text; sound = refl })
      | inr other ↦ rw other tt
    ]

include_dominates : (rest : List ℕ) → Dominates (token_at (codes "#include" ++ rest)) kind.Include rest
unfolding token_at include_at
include_dominates rest = (le_refl (length rest), λ _. refl)

-- ---- any token but a text

word_sound : (o : Option Keyword) (word rest : List ℕ) → is_sound (kind_of o) word rest ≡ sound_candidate (kind_of o, true, rest)
word_sound None word rest = refl
word_sound (Some k) word rest = refl

word_finds : (b : ℕ) (rest : List ℕ) → is_ascii_alphabetic b ≡ true → Finds (Some (word_at (b ∷ rest))) (b ∷ rest)
unfolding word_at
word_finds b rest letter = record {
  word = run is_word_byte (b ∷ rest);
  prefix = sym (run_whole is_word_byte (b ∷ rest));
  form = word_form (run is_word_byte (b ∷ rest)) (run_word b rest letter);
  sound = word_sound (keyword_of (run is_word_byte (b ∷ rest))) (run is_word_byte (b ∷ rest)) (after_run is_word_byte (b ∷ rest));
}

pub token_finds : (bytes : List ℕ) → Finds (token_at bytes) bytes
unfolding token_at
token_finds [] = tt
token_finds (b ∷ rest) =
    elim (cases_Bool (is_ascii_alphabetic b)) [
      | inl letter ↦ rw letter (word_finds b rest letter)
      | inr other ↦
          elim (cases_Bool (eqb b 45 || is_digit b 10)) [
            | inl numeric ↦ rw (other, numeric) (number_finds (b ∷ rest))
            | inr none ↦
                elim (cases_Bool (eqb b 35)) [
                  | inl hash ↦ rw (other, none, hash) (include_finds (b ∷ rest))
                  | inr one ↦ rw (other, none, one) (sign_finds b rest)
                ]
          ]
    ]

-- ---- no longer token stands there

not_keyword : (word : List ℕ) → ((k : Keyword) → word ≢ keyword_text k) → keyword_of word ≡ None
not_keyword word none = by_keyword (keyword_of word) refl
  where
    by_keyword : (o : Option Keyword) → keyword_of word ≡ o → keyword_of word ≡ None
    by_keyword None is = is
    by_keyword (Some k) is = absurd (none k (keyword_means word k is))

-- a token is no longer than the one that is found, or it is a text and none is found
abbrev pub AnyDominates : Option Candidate → Kind → List ℕ → Type 0
AnyDominates o kind.Text rest = o ≡ None
AnyDominates o k rest = Dominates o k rest

pub any_dominates : (k : Kind) (word rest : List ℕ) → IsForm k word → AnyDominates (token_at (word ++ rest)) k rest
unfolding token_at sign_at sign_of
any_dominates kind.Ident word rest form = word_dominates kind.Ident word rest form.0 (ap kind_of (not_keyword word form.1))
any_dominates (kind.Keyword k) word rest form =
    subst (λ (t : List ℕ). Dominates (token_at (t ++ rest)) (kind.Keyword k) rest) (sym form) (word_dominates (kind.Keyword k) (keyword_text k) rest (keyword_is_word k) (ap kind_of (keyword_found k)))
any_dominates kind.Number word rest form = number_dominates kind.Number word rest form
any_dominates kind.Fraction word rest form = number_dominates kind.Fraction word rest form
any_dominates kind.Text word rest form = subst (λ (t : List ℕ). token_at (t ++ rest) ≡ None) (sym form.1.1) refl
any_dominates kind.Include word rest form = subst (λ (t : List ℕ). Dominates (token_at (t ++ rest)) kind.Include rest) (sym form) (include_dominates rest)
any_dominates (kind.Sign s) word rest form = subst (λ (t : List ℕ). Dominates (token_at (t ++ rest)) (kind.Sign s) rest) (sym form) (sign_dominates s rest)

-- which of the two it is
pub either_dominates : (o : Option Candidate) (k : Kind) (rest : List ℕ) → AnyDominates o k rest → ((k ≡ kind.Text) × (o ≡ None)) ⊎ Dominates o k rest
either_dominates o kind.Text rest h = inl (refl, h)
either_dominates o k rest h = inr h
