-- How many bytes are written for a number, by how large it is and by its text.
use Rattle.std.proofs.Common.{◌≡◌, ◌≤◌, ◌<◌, ◌+◌, ℕ, suc, ℤ, pos, negsuc, Bool, true, false, ◌==◌, cond, nat_lt, List, [], ◌∷◌, length, refl, ap, ◌∙◌, subst, arith, lit<, lt-ltb, ltb-true, length-append}
use Rattle.std.proofs.lemmas.Bool.Decides.{nat_tests}
use Rattle.std.specs.Char.{digit_value, is_ascii_alphabetic}
use Rattle.std.specs.Str.Parse.{digits_value}
use Rattle.wire_words.specs.Tree.{WireNumber, zero_tag, int1, int2, int4}
use Rattle.wire_words.specs.Spelling.{fits_bits, shortest, spelled_number, two_complement}
use Rattle.idl_lex.specs.Bytes.{begins, is_word_byte}
use Rattle.idl_lex.specs.LexSteps.{run, after_run}
use Rattle.idl_lex.proofs.Lexing.Words.RunLaws.{after_within}
use Rattle.tars_model.specs.Declarations.{Declared}
use Rattle.tars_model.specs.Types.{TyLayer}
use Rattle.tars_model.specs.Values.{is_signed, is_number_of}
use Rattle.rpc_packet.proofs.FrameBytes.{head_length, number_length}
use Rattle.value_text.specs.Spelling.{is_decimal, NaturalSpells, SaysNumber}
use Rattle.value_text.specs.Spelling as spelling
use Rattle.value_text.proofs.NumberLaws.{more_is}
use Rattle.value_lengths.specs.SaidCalls.{IsBounded}

-- a number under a tag
abbrev pub number_spelling : ℕ → ℤ → List ℕ
number_spelling tag n = spelled_number tag (shortest n)

-- ---- by size

-- a number below 128 takes a byte after its head, and an int four
module _ (tag : ℕ) (n : ℤ) where
  abbrev IsWithin : ℕ → WireNumber → Type 0
  IsWithin most number = length (spelled_number tag number) ≤ most

  nothing_length : IsWithin 2 zero_tag
  unfolding spelled_number
  nothing_length = head_length tag 12

  byte_length : IsWithin 3 (int1 n)
  unfolding spelled_number two_complement
  byte_length = simp length-append (omega (arith, head_length tag 0))

  small_by_test : (zero : Bool) → IsWithin 3 (cond zero zero_tag (int1 n))
  small_by_test true = omega (arith, nothing_length)
  small_by_test false = byte_length

  int_by_tests : (zero one two : Bool) → IsWithin 6 (cond zero zero_tag (cond one (int1 n) (cond two (int2 n) (int4 n))))
  unfolding spelled_number two_complement
  int_by_tests true one two = omega (arith, nothing_length)
  int_by_tests false true two = omega (arith, byte_length)
  int_by_tests false false true = simp length-append (omega (arith, head_length tag 1))
  int_by_tests false false false = simp length-append (omega (arith, head_length tag 2))

small_length : (tag n : ℕ) → n < 128 → length (number_spelling tag (pos n)) ≤ 3
unfolding shortest fits_bits
small_length tag n small = rw (lt-ltb n 128 small) (small_by_test tag (pos n) (n == 0))

int_length : (tag : ℕ) (n : ℤ) → is_signed 31 n ≡ true → length (number_spelling tag n) ≤ 6
unfolding shortest fits_bits
int_length tag (pos n) int = rw int (int_by_tests tag (pos n) (n == 0) (nat_lt n 128) (nat_lt n 32768))
int_length tag (negsuc n) int = rw int (int_by_tests tag (negsuc n) false (nat_lt n 128) (nat_lt n 32768))

-- ---- by text

-- one digit says a small number
data HasDigits (n : ℕ) (text rest : List ℕ) : Type 0 where
  one_digit : n < 128 → length rest < length text → HasDigits n text rest
  more_digits : length rest + 2 ≤ length text → HasDigits n text rest

digits_from : (n b : ℕ) (text rest : List ℕ) → is_decimal b ≡ true → n ≡ digits_value 10 (run is_decimal (b ∷ text)) → rest ≡ after_run is_decimal (b ∷ text)
    → HasDigits n (b ∷ text) rest
digits_from n b text rest passes value after = by_run (run is_decimal text) refl
  where
    by_run : (digits : List ℕ) → run is_decimal text ≡ digits → HasDigits n (b ∷ text) rest
    by_run [] is =
        let digit : digit_value b < 10 = ltb-true (digit_value b) 10 passes in
        let one : n ≡ digits_value 10 (b ∷ []) = value ∙ rw (passes, is) refl in
        let left : rest ≡ after_run is_decimal text = after ∙ rw passes refl in
        one_digit (omega (arith, one, digit)) (rw left (omega (arith, after_within is_decimal text)))
    by_run (c ∷ digits) is =
        let left : rest ≡ after_run is_decimal text = after ∙ rw passes refl in
        let more : length (run is_decimal text) ≡ suc (length digits) = ap length is in
        more_digits (rw left (omega (arith, more, after_within is_decimal text)))

natural_digits : (n : ℕ) (text rest : List ℕ) → NaturalSpells n text rest → HasDigits n text rest
natural_digits n text rest (spelling.nought none is) = one_digit (rw none (lit< tt)) (rw is (omega arith))
natural_digits n [] rest (spelling.positive begins value after) = absurd cc
natural_digits n (b ∷ text) rest (spelling.positive begins value after) = digits_from n b text rest (more_is b begins).0 value after

natural_short : (tag n : ℕ) (text rest : List ℕ) → HasDigits n text rest → IsBounded (number_spelling tag (pos n)) text rest
natural_short tag n text rest (one_digit small less) = omega (arith, small_length tag n small, less)
natural_short tag n text rest (more_digits less) = omega (arith, number_length tag (shortest (pos n)), less)

digits_less : {n : ℕ} {text rest : List ℕ} → HasDigits n text rest → length rest < length text
digits_less (one_digit small less) = less
digits_less (more_digits less) = omega (arith, less)

name_less : (text rest : List ℕ) → begins is_ascii_alphabetic text ≡ true → rest ≡ after_run is_word_byte text → length rest < length text
name_less [] rest letter after = absurd cc
name_less (b ∷ text) rest letter after =
    let left : rest ≡ after_run is_word_byte text = after ∙ rw (letter_passes b letter) refl in
    rw left (omega (arith, after_within is_word_byte text))
  where
    letter_passes : (b : ℕ) → is_ascii_alphabetic b ≡ true → is_word_byte b ≡ true
    letter_passes b letter = grind (arith, nat_tests)

-- a number that a text says under a type
pub number_short : (tag : ℕ) (d : Declared) (l : TyLayer) (n : ℤ) (text rest : List ℕ) → is_number_of l n ≡ true → SaysNumber d l n text rest → IsBounded (number_spelling tag n) text rest
number_short tag d l n text rest fits (spelling.digits_of (spelling.natural m is says)) =
    rw is (natural_short tag m text rest (natural_digits m text rest says))
number_short tag d l n text rest fits (spelling.digits_of (spelling.negative m inside is sign says)) =
    let less = digits_less (natural_digits (suc m) inside rest says) in
    rw sign (omega (arith, number_length tag (shortest n), less))
number_short tag d l n text rest fits (spelling.name k enum says) =
    let less = name_less text rest says.letter says.after in
    let most = int_length tag n (subst (λ (l : TyLayer). is_number_of l n ≡ true) enum fits) in
    omega (arith, most, less)
