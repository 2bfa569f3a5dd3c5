-- Words, numbers, texts and signs lex to one token where what follows ends them.
use Rattle.std.proofs.Common.{◌≡◌, ◌<◌, ◌≤◌, ◌^◌, ◌-◌, ℕ, ℤ, pos, negsuc, suc, Bool, true, false, ◌==◌, ◌||◌, not, nat_le, Option, Some, None, List, [], ◌∷◌, ◌++◌, length, get_or, refl, sym, ap, ◌∙◌, subst, inl, arith, append_assoc, decimal}
use Rattle.std.proofs.lemmas.Bool.{and_parts}
use Rattle.std.proofs.lemmas.Bool.Decides.{nat_tests}
use Rattle.std.proofs.lemmas.Fmt.{digits_value-decimal, decimal_nonempty}
use Rattle.std.proofs.lemmas.List.{append-nil}
use Rattle.std.proofs.lemmas.Str.Parse.{numerals_by_value, tells_digits}
use Rattle.std.specs.Char.{is_digit}
use Rattle.std.specs.Fmt.{signed_decimal}
use Rattle.std.specs.List.{list_all}
use Rattle.std.specs.Str.Parse.{digits_value}
use Rattle.tars_model.specs.Names.{IsName}
use Rattle.idl_lex.specs.Bytes.{begins, is_word_byte, is_letter_or_low}
use Rattle.idl_lex.specs.Forms.{IsWord}
use Rattle.idl_lex.specs.LexSteps.{keyword_of, kind_of, run, after_run, word_at, is_at_most, decimal_at, begins_part, unsigned_at, number_at, sign_of, sign_at, token_at, sound_candidate}
use Rattle.idl_lex.specs.Spellings.{keyword_text, sign_text}
use Rattle.idl_lex.specs.Texts.{TextSpells}
use Rattle.idl_lex.specs.Tokens.{IsLexeme}
use Rattle.idl_lex.specs.declared.keyword.Keyword.{Keyword}
use Rattle.idl_lex.specs.declared.kind.Kind.{Kind}
use Rattle.idl_lex.specs.declared.kind.Kind.TheVariants as kinds
use Rattle.idl_lex.specs.declared.sign.Sign.{Sign}
use Rattle.idl_lex.specs.declared.sign.Sign.TheVariants as signs
use Rattle.idl_lex.proofs.CallerLemmas.{keyword_means, keyword_found}
use Rattle.idl_lex.proofs.Lexing.Lexemes.LexemeLaws.{found_lexeme, text_lexeme}
use Rattle.idl_lex.proofs.Lexing.Numbers.NumberLaws.{is_decimal, digit_no_letter, digit_is_not, no_hexadecimal}
use Rattle.idl_lex.proofs.Lexing.Strings.TextLaws.{units_split}
use Rattle.idl_lex.proofs.Lexing.Words.RunLaws.{run_over, after_over}
use Rattle.idl_lex.proofs.Lexing.Words.WordLaws.{keyword_is_word}
use Rattle.canonical_tree.proofs.Deriving.Words.{name_form, all_digits, pass_digits, IsLong}

-- a byte that ends a word or number before it
abbrev pub ends_word : ℕ → Bool
ends_word b = not (is_word_byte b || b == 46)

-- what follows a token of the kind ends it
abbrev pub EndsAfter : Kind → List ℕ → Type 0
EndsAfter kinds.Ident rest = begins ends_word rest ≡ true
EndsAfter (kinds.Keyword keyword) rest = begins ends_word rest ≡ true
EndsAfter kinds.Number rest = begins ends_word rest ≡ true
EndsAfter kind rest = Unit {0}

-- the bytes are a token of the kind, wherever what follows ends it
abbrev pub Lexes : Kind → List ℕ → Type 0
Lexes kind bytes = (rest : List ℕ) → EndsAfter kind rest → IsLexeme (bytes ++ rest) (Some kind) rest

-- ---- what ends words and numbers

no_word : (b : ℕ) → ends_word b ≡ true → is_word_byte b ≡ false
no_word b ends = grind (arith, nat_tests)

no_digit : (b : ℕ) → ends_word b ≡ true → is_digit b 10 ≡ false
no_digit b ends = grind (arith, nat_tests)

no_letter : (b : ℕ) → ends_word b ≡ true → is_letter_or_low b ≡ false
no_letter b ends = grind (arith, nat_tests)

no_point : (b : ℕ) → ends_word b ≡ true → (b == 46) ≡ false
no_point b ends = grind (arith, nat_tests)

no_x : (b : ℕ) → ends_word b ≡ true → (b == 120) ≡ false
no_x b ends = grind (arith, nat_tests)

run_ends : (test : ℕ → Bool) → ((b : ℕ) → ends_word b ≡ true → test b ≡ false) → (rest : List ℕ) → begins ends_word rest ≡ true → (run test rest ≡ []) × (after_run test rest ≡ rest)
run_ends test stops [] ends = absurd cc
run_ends test stops (b ∷ rest) ends = rw (stops b ends) (refl, refl)

-- ---- words

word_found : (kind : Kind) (bytes rest : List ℕ) → IsWord bytes → kind_of (keyword_of bytes) ≡ kind → begins ends_word rest ≡ true → token_at (bytes ++ rest) ≡ Some (kind, true, rest)
unfolding token_at word_at
word_found kind [] rest is same ends = absurd (cc (is.0))
word_found kind (b ∷ bytes) rest is same ends =
    let stop = run_ends is_word_byte no_word rest ends in
    let whole : run is_word_byte (b ∷ (bytes ++ rest)) ≡ b ∷ bytes = run_over is_word_byte (b ∷ bytes) rest is.1 ∙ ap (λ (t : List ℕ). (b ∷ bytes) ++ t) stop.0 ∙ append-nil (b ∷ bytes) in
    let left : after_run is_word_byte (b ∷ (bytes ++ rest)) ≡ rest = after_over is_word_byte (b ∷ bytes) rest is.1 ∙ stop.1 in
    rw is.0
    (ap (λ (run : List ℕ). Some (kind_of (keyword_of run), true, after_run is_word_byte (b ∷ (bytes ++ rest)))) whole
    ∙ ap (λ (left : List ℕ). Some (kind_of (keyword_of (b ∷ bytes)), true, left)) left
    ∙ ap (λ (k : Kind). Some (k, true, rest)) same)

word_sound : (o : Option Keyword) (rest : List ℕ) → sound_candidate (kind_of o, true, rest) ≡ true
word_sound None rest = refl
word_sound (Some keyword) rest = refl

pub keyword_lexes : (keyword : Keyword) → Lexes (kinds.Keyword keyword) (keyword_text keyword)
keyword_lexes keyword rest ends =
    found_lexeme (keyword_text keyword ++ rest) (kinds.Keyword keyword, true, rest)
    (word_found (kinds.Keyword keyword) (keyword_text keyword) rest (keyword_is_word keyword) (ap kind_of (keyword_found keyword)) ends) refl

pub name_lexes : (name : List ℕ) → IsName name → Lexes kinds.Ident name
name_lexes name is rest ends =
    found_lexeme (name ++ rest) (kinds.Ident, true, rest) (word_found kinds.Ident name rest (name_form name is).0 (by_keyword (keyword_of name) refl) ends) refl
  where
    by_keyword : (o : Option Keyword) → keyword_of name ≡ o → kind_of (keyword_of name) ≡ kinds.Ident
    by_keyword None none = ap kind_of none
    by_keyword (Some keyword) some = absurd ((name_form name is).1 keyword (keyword_means name keyword some))

-- ---- signs

sign_found : (sign : Sign) (rest : List ℕ) → token_at (sign_text sign ++ rest) ≡ Some (kinds.Sign sign, true, rest)
unfolding token_at sign_at sign_of
sign_found signs.OpenBrace rest = refl
sign_found signs.CloseBrace rest = refl
sign_found signs.OpenParen rest = refl
sign_found signs.CloseParen rest = refl
sign_found signs.OpenBracket rest = refl
sign_found signs.CloseBracket rest = refl
sign_found signs.Less rest = refl
sign_found signs.Greater rest = refl
sign_found signs.Comma rest = refl
sign_found signs.Semicolon rest = refl
sign_found signs.Equals rest = refl
sign_found signs.PathSep rest = refl

pub sign_lexes : (sign : Sign) → Lexes (kinds.Sign sign) (sign_text sign)
sign_lexes sign rest ends = found_lexeme (sign_text sign ++ rest) (kinds.Sign sign, true, rest) (sign_found sign rest) refl

-- ---- texts

pub text_lexes : (spelled bytes : List ℕ) → TextSpells spelled bytes [] → Lexes kinds.Text bytes
text_lexes spelled bytes (inside, quote, units) rest ends =
    let split = units_split units in
    let whole : bytes ++ rest ≡ 34 ∷ (split.0 ++ (34 ∷ rest)) =
    ap (λ (t : List ℕ). t ++ rest) quote ∙ ap (λ (t : List ℕ). 34 ∷ (t ++ rest)) split.1 ∙ ap (λ (t : List ℕ). 34 ∷ t) (append_assoc split.0 (34 ∷ []) rest) in
    text_lexeme (bytes ++ rest) rest (spelled, (split.0 ++ (34 ∷ rest), whole, split.2 (34 ∷ rest)))

-- ---- numbers

-- decimal digits, one or more, that stand for at most this
record IsDigits (most : ℕ) (digits : List ℕ) : Type 0 where
  some : 0 < length digits
  all : list_all is_decimal digits ≡ true
  within : digits_value 10 digits ≤ most

point_ends : (rest : List ℕ) → begins ends_word rest ≡ true → begins_part rest ≡ false
point_ends [] ends = absurd cc
point_ends (b ∷ rest) ends = rw (no_point b ends) refl

x_ends : (rest : List ℕ) → begins ends_word rest ≡ true → (get_or rest 0 0 == 120) ≡ false
x_ends [] ends = absurd cc
x_ends (b ∷ rest) ends = no_x b ends

letter_ends : (rest : List ℕ) → begins ends_word rest ≡ true → begins is_letter_or_low rest ≡ false
letter_ends [] ends = absurd cc
letter_ends (b ∷ rest) ends = no_letter b ends

decimal_found : (most : ℕ) (digits rest : List ℕ) → IsDigits most digits → begins ends_word rest ≡ true → decimal_at most (digits ++ rest) ≡ (kinds.Number, true, rest)
unfolding decimal_at is_at_most
decimal_found most digits rest is ends =
    let stop = run_ends is_decimal no_digit rest ends in
    let whole : run is_decimal (digits ++ rest) ≡ digits = run_over is_decimal digits rest is.all ∙ ap (λ (t : List ℕ). digits ++ t) stop.0 ∙ append-nil digits in
    let left : after_run is_decimal (digits ++ rest) ≡ rest = after_over is_decimal digits rest is.all ∙ stop.1 in
    let fits : nat_le (digits_value 10 digits) most ≡ true = at_most (digits_value 10 digits) most is.within in
    rw (left, whole, point_ends rest ends, is.all, fits) refl
  where
    at_most : (a b : ℕ) → a ≤ b → nat_le a b ≡ true
    at_most a b less = grind (arith, nat_tests)

unsigned_found : (most : ℕ) (digits rest : List ℕ) → IsDigits most digits → begins ends_word rest ≡ true → unsigned_at most (digits ++ rest) ≡ Some (kinds.Number, true, rest)
unfolding unsigned_at
unsigned_found most [] rest is ends = absurd (omega (arith, is.some))
unsigned_found most (d ∷ digits) rest is ends =
    let parts = and_parts (is_decimal d) (list_all is_decimal digits) is.all in
    rw (no_hexadecimal d digits rest parts.1 (x_ends rest ends), parts.0) (ap Some (decimal_found most (d ∷ digits) rest is ends))

number_sound : (rest : List ℕ) → begins ends_word rest ≡ true → sound_candidate (kinds.Number, true, rest) ≡ true
number_sound rest ends = rw (letter_ends rest ends) refl

positive_found : (digits rest : List ℕ) → IsDigits (2 ^ 63 - 1) digits → begins ends_word rest ≡ true → token_at (digits ++ rest) ≡ Some (kinds.Number, true, rest)
unfolding token_at number_at
positive_found [] rest is ends = absurd (omega (arith, is.some))
positive_found (d ∷ digits) rest is ends =
    let digit = (and_parts (is_decimal d) (list_all is_decimal digits) is.all).0 in
    rw (digit_no_letter d digit, digit_is_not d 45 digit (inl (omega arith)), digit) (unsigned_found (2 ^ 63 - 1) (d ∷ digits) rest is ends)

negative_found : (digits rest : List ℕ) → IsDigits (2 ^ 63) digits → begins ends_word rest ≡ true → token_at (45 ∷ (digits ++ rest)) ≡ Some (kinds.Number, true, rest)
unfolding token_at number_at
negative_found digits rest is ends = unsigned_found (2 ^ 63) digits rest is ends

digits_of : (most n : ℕ) → n ≤ most → n < 2 ^ 64 → IsDigits most (decimal n)
digits_of most n less small = record {
  some = decimal_nonempty n small;
  all = pass_digits (decimal n) (all_digits n small);
  within = subst (λ (m : ℕ). m ≤ most) (sym (digits_value-decimal (numerals_by_value _ tells_digits) n small)) less;
}

pub decimal_lexes : (n : ℕ) → n < 2 ^ 63 → Lexes kinds.Number (decimal n)
decimal_lexes n small rest ends =
    found_lexeme (decimal n ++ rest) (kinds.Number, true, rest) (positive_found (decimal n) rest (digits_of (2 ^ 63 - 1) n (omega arith) (omega arith)) ends) (number_sound rest ends)

pub number_lexes : (n : ℤ) → IsLong n → Lexes kinds.Number (signed_decimal n)
number_lexes (pos n) long rest ends = decimal_lexes n (grind (arith, nat_tests)) rest ends
number_lexes (negsuc n) long rest ends =
    let small : n < 2 ^ 63 = grind (arith, nat_tests) in
    found_lexeme (45 ∷ (decimal (suc n) ++ rest)) (kinds.Number, true, rest) (negative_found (decimal (suc n)) rest (digits_of (2 ^ 63) (suc n) (omega arith) (omega arith)) ends) (number_sound rest ends)
