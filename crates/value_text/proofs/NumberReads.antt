-- Each number that is spelled is read.
use Rattle.std.proofs.Common.{◌≡◌, ◌<◌, ◌+◌, ◌-◌, ℕ, suc, ℤ, pos, negsuc, true, false, ◌==◌, List, [], ◌∷◌, length, take, drop, Ok, refl, sym, ap, ◌∙◌, subst, arith}
use Rattle.std.proofs.lemmas.Bool.Decides.{nat_tests}
use Rattle.std.specs.List.{prefix_len}
use Rattle.std.specs.Str.Parse.{digits_value}
use Rattle.idl_lex.specs.Bytes.{begins}
use Rattle.idl_lex.specs.Forms.{is_in_range}
use Rattle.idl_lex.specs.LexSteps.{run, after_run}
use Rattle.idl_lex.specs.Meanings.{whole_number}
use Rattle.idl_lex.proofs.Lexing.Words.RunLaws.{take_is_run, drop_is_after, run_passes, run_some}
use Rattle.tars_model.specs.Values.{is_signed}
use Rattle.value_text.specs.ReadSteps.{natural_len, positive_len, word_of, number_word_at, out_of_range, integer_at}
use Rattle.value_text.specs.Spelling.{is_decimal, is_positive, NaturalSpells, NumberSpells}
use Rattle.value_text.specs.Spelling as spelling
use Rattle.value_text.proofs.NumberLaws.{Digits, more_is, plain_means, minus_means}
use Rattle.value_text.proofs.Signs.{read_ok}

above : (n : ℕ) → 0 < n → (n == 0) ≡ false
above n some = grind (arith, nat_tests)

-- how many digits stand at the start
record Counted (len n : ℕ) (bytes rest : List ℕ) : Type 0 where
  some : 0 < len
  digits : Digits (take len bytes)
  value : digits_value 10 (take len bytes) ≡ n
  after : drop len bytes ≡ rest

run_counted : (b : ℕ) (bytes rest : List ℕ) (n len : ℕ) → is_positive b ≡ true → n ≡ digits_value 10 (run is_decimal (b ∷ bytes)) → rest ≡ after_run is_decimal (b ∷ bytes) → len ≡ prefix_len is_decimal (b ∷ bytes) → Counted len n (b ∷ bytes) rest
run_counted b bytes rest n len more value after is = rw is (record {
  some = rw (more_is b more).0 (omega arith);
  digits = rw (take_is_run is_decimal (b ∷ bytes)) (record { some = run_some is_decimal (b ∷ bytes) (more_is b more).0; passes = run_passes is_decimal (b ∷ bytes) });
  value = ap (digits_value 10) (take_is_run is_decimal (b ∷ bytes)) ∙ sym value;
  after = drop_is_after is_decimal (b ∷ bytes) ∙ sym after;
})

natural_counted : (n : ℕ) (bytes rest : List ℕ) → NaturalSpells n bytes rest → Counted (natural_len bytes) n bytes rest
natural_counted n bytes rest (spelling.nought none text) = rw (text, none) (record { some = omega arith; digits = record { some = omega arith; passes = refl }; value = refl; after = refl })
natural_counted n [] rest (spelling.positive more value after) = absurd cc
natural_counted n (b ∷ bytes) rest (spelling.positive more value after) = run_counted b bytes rest n (natural_len (b ∷ bytes)) more value after (rw (more_is b more).1 refl)

positive_counted : (n : ℕ) (bytes rest : List ℕ) → NaturalSpells (suc n) bytes rest → Counted (positive_len bytes) (suc n) bytes rest
positive_counted n bytes rest (spelling.nought none text) = absurd cc
positive_counted n [] rest (spelling.positive more value after) = absurd cc
positive_counted n (b ∷ bytes) rest (spelling.positive more value after) = run_counted b bytes rest (suc n) (positive_len (b ∷ bytes)) more value after (rw (more_is b more).1 refl)

-- no minus stands before it
no_minus : (n : ℕ) (bytes rest : List ℕ) → NaturalSpells n bytes rest → begins (λ b. b == 45) bytes ≡ false
no_minus n bytes rest (spelling.nought none text) = ap (begins (λ b. b == 45)) text
no_minus n [] rest (spelling.positive more value after) = refl
no_minus n (b ∷ bytes) rest (spelling.positive more value after) = apart b more
  where
    apart : (b : ℕ) → is_positive b ≡ true → (b == 45) ≡ false
    apart b more = grind (arith, nat_tests)

word_is : (k len : ℕ) (bytes rest : List ℕ) → k ≡ len → drop len bytes ≡ rest → word_of k bytes ≡ Ok (take len bytes, rest)
word_is k len bytes rest is after = rw (is, after) refl

-- the word that is read of a number, and what it stands for
pub record Word (n : ℤ) (bytes rest : List ℕ) : Type 0 where
  pub word : List ℕ
  pub read : number_word_at bytes ≡ Ok (word, rest)
  pub value : whole_number word ≡ n
  pub range : is_in_range word ≡ is_signed 63 n

plain_word_at : (b : ℕ) (bytes rest : List ℕ) (n : ℕ) → begins (λ c. c == 45) (b ∷ bytes) ≡ false → Counted (natural_len (b ∷ bytes)) n (b ∷ bytes) rest → number_word_at (b ∷ bytes) ≡ Ok (take (natural_len (b ∷ bytes)) (b ∷ bytes), rest)
unfolding number_word_at
plain_word_at b bytes rest n other is =
    rw (other, above (natural_len (b ∷ bytes)) is.some) (word_is (length (b ∷ bytes) - length (b ∷ bytes) + natural_len (b ∷ bytes)) (natural_len (b ∷ bytes)) (b ∷ bytes) rest (omega arith) is.after)

plain_word : (n : ℕ) (bytes rest : List ℕ) → NaturalSpells n bytes rest → Word (pos n) bytes rest
plain_word n [] rest s = absurd (omega (arith, (natural_counted n [] rest s).some))
plain_word n (b ∷ bytes) rest s =
    let is = natural_counted n (b ∷ bytes) rest s in
    let means = plain_means (take (natural_len (b ∷ bytes)) (b ∷ bytes)) n is.digits is.value in
    record { word = take (natural_len (b ∷ bytes)) (b ∷ bytes); read = plain_word_at b bytes rest n (no_minus n (b ∷ bytes) rest s) is; value = means.0; range = means.1 }

minus_word_at : (inside rest : List ℕ) (n : ℕ) → Counted (positive_len inside) n inside rest → number_word_at (45 ∷ inside) ≡ Ok (45 ∷ take (positive_len inside) inside, rest)
unfolding number_word_at
minus_word_at inside rest n is =
    rw (above (positive_len inside) is.some) (word_is (length (45 ∷ inside) - length inside + positive_len inside) (suc (positive_len inside)) (45 ∷ inside) rest (omega arith) is.after)

minus_word : (n : ℕ) (inside rest : List ℕ) → NaturalSpells (suc n) inside rest → Word (negsuc n) (45 ∷ inside) rest
minus_word n inside rest s =
    let is = positive_counted n inside rest s in
    let means = minus_means (take (positive_len inside) inside) n is.digits is.value in
    record { word = 45 ∷ take (positive_len inside) inside; read = minus_word_at inside rest (suc n) is; value = means.0; range = means.1 }

pub word_is_read : (n : ℤ) (bytes rest : List ℕ) → NumberSpells n bytes rest → Word n bytes rest
word_is_read n bytes rest (spelling.natural m is s) = subst (λ (k : ℤ). Word k bytes rest) (sym is) (plain_word m bytes rest s)
word_is_read n bytes rest (spelling.negative m inside is text s) = subst (λ (k : ℤ). Word k bytes rest) (sym is) (subst (λ (b : List ℕ). Word (negsuc m) b rest) (sym text) (minus_word m inside rest s))

pub number_is_read : (n : ℤ) (bytes rest : List ℕ) → is_signed 63 n ≡ true → NumberSpells n bytes rest → integer_at bytes ≡ Ok (n, rest)
unfolding integer_at
number_is_read n bytes rest long s =
    let is = word_is_read n bytes rest s in
    rw (is.read, is.range, long) (ap (λ (m : ℤ). read_ok m rest) is.value)

-- a number of more than 64 bits is out of every range
pub wide_is_out : (n : ℤ) (bytes rest : List ℕ) → is_signed 63 n ≡ false → NumberSpells n bytes rest → integer_at bytes ≡ out_of_range bytes
unfolding integer_at
wide_is_out n bytes rest wide s =
    let is = word_is_read n bytes rest s in
    rw (is.read, is.range, wide) refl
