-- What keeps no rule stops at a byte that does not continue it, and for no other reason.
use Rattle.std.proofs.Common.{◌≡◌, ℕ, zero, suc, ◌+◌, ◌==◌, Bool, true, false, ◌&&◌, ◌||◌, nat_le, cond, Option, Some, None, ℤ, List, [], ◌∷◌, length, take, Result, Ok, Err, refl, subst}
use Rattle.std.specs.Char.{is_digit, digit_value}
use Rattle.canonical_text.specs.Canonical.{truth_word}
use Rattle.facts.specs.ResultSteps.{◌>>=◌}
use Rattle.idl_lex.specs.Bytes.{begins}
use Rattle.tars_model.specs.declared.enum_desc.Item.{Item}
use Rattle.tars_model.specs.declared.member.Member.{Member}
use Rattle.tars_model.specs.declared.value.Value.TheVariants as values
use Rattle.value_text.specs.ReadSteps.{Stop, unexpected, byte_at, sign_at, word_at, turn_after, turn_at, truth_at, body_of, digits_of, number_word_at, word_len, named, name_at, digit_at, pair_at, escape_at, text_unit_at, blob_unit_at, unit_at, unit_then, units_at, text_at, blob_at}
use Rattle.value_text.specs.ValueSteps.{comma_at}
use Rattle.value_text.specs.Spelling.{past_gap, number_named}
use Rattle.value_text.specs.declared.cursor.Form.{Form}
use Rattle.value_text.specs.declared.cursor.Form.TheVariants as forms
use Rattle.value_text.specs.declared.value_fault.ValueWhy.{ValueWhy}
use Rattle.value_text.specs.declared.value_fault.ValueWhy.TheVariants.{Unexpected}
use Rattle.value_text.proofs.Signs.{read_ok}
use Rattle.value_text.proofs.Stopping.Signs.{stop}

abbrev pub Plain : {A : Type 0} → Result A Stop → Type 0
Plain (Ok x) = Unit {0}
Plain (Err s) = s.why ≡ Unexpected

pub plain_stop : {A : Type 0} (read : Result A Stop) (left : List ℕ) (why : ValueWhy) → Plain read → read ≡ Err (stop left why) → why ≡ Unexpected
plain_stop read left why plain e = subst Plain e plain

plain_bind : {A B : Type 0} (read : Result A Stop) (f : A → Result B Stop) → Plain read → ((x : A) → Plain (f x)) → Plain (read >>= f)
plain_bind (Ok x) f one more = more x
plain_bind (Err s) f one more = one

either_plain : {A : Type 0} (b : Bool) (read other : Result A Stop) → Plain read → Plain other → Plain (cond b read other)
either_plain true read other one two = one
either_plain false read other one two = two

abbrev ok : {A : Type 0} → A → Result A Stop
ok x = Ok x

-- ---- signs and words

byte_plain : (c : ℕ) (bytes : List ℕ) → Plain (byte_at c bytes)
unfolding byte_at
byte_plain c [] = refl
byte_plain c (b ∷ bytes) = either_plain (b == c) (ok bytes) (unexpected (b ∷ bytes)) tt refl

pub last_byte_plain : {A : Type 0} (c : ℕ) (bytes : List ℕ) (f : List ℕ → A) → Plain (byte_at c bytes >>= λ rest. ok (f rest))
last_byte_plain c bytes f = plain_bind (byte_at c bytes) (λ rest. ok (f rest)) (byte_plain c bytes) (λ rest. tt)

pub sign_plain : (c : ℕ) (bytes : List ℕ) → Plain (sign_at c bytes)
unfolding sign_at
sign_plain c bytes = last_byte_plain c bytes past_gap

pub word_plain : (word bytes : List ℕ) → Plain (word_at word bytes)
unfolding word_at
word_plain [] bytes = tt
word_plain (c ∷ word) bytes = plain_bind (byte_at c bytes) (word_at word) (byte_plain c bytes) (λ rest. word_plain word rest)

pub comma_plain : (ms : List Member) (bytes : List ℕ) → Plain (comma_at ms bytes)
comma_plain [] bytes = tt
comma_plain (m ∷ ms) bytes = sign_plain 44 bytes

pub turn_plain : (close : ℕ) (bytes : List ℕ) → Plain (turn_at close bytes)
unfolding turn_after
turn_plain close bytes = after_plain (past_gap bytes)
  where
    after_plain : (bytes : List ℕ) → Plain (turn_after close bytes)
    after_plain [] = refl
    after_plain (b ∷ rest) =
        either_plain (b == close) (read_ok true rest) (cond (b == 44) (read_ok false (past_gap rest)) (unexpected (b ∷ rest))) tt
        (either_plain (b == 44) (read_ok false (past_gap rest)) (unexpected (b ∷ rest)) tt refl)

pub truth_plain : (bytes : List ℕ) → Plain (truth_at bytes)
unfolding truth_at
truth_plain bytes = either_plain (begins (λ b. b == 116) bytes) _ _ (said true) (said false)
  where
    said : (b : Bool) → Plain (word_at (truth_word b) bytes >>= λ rest. read_ok (values.Bool b) rest)
    said b = plain_bind (word_at (truth_word b) bytes) (λ rest. read_ok (values.Bool b) rest) (word_plain (truth_word b) bytes) (λ rest. tt)

-- ---- numbers

pub number_word_plain : (bytes : List ℕ) → Plain (number_word_at bytes)
unfolding number_word_at
number_word_plain bytes = either_plain (digits_of bytes == 0) (unexpected (body_of bytes)) _ refl tt

pub name_plain : (items : List Item) (bytes : List ℕ) → Plain (name_at items bytes)
unfolding name_at
name_plain items bytes = by_found (number_named items (take (word_len bytes) bytes))
  where
    by_found : (o : Option ℤ) → Plain (named o items (word_len bytes) bytes)
    by_found (Some n) = tt
    by_found None = refl

-- ---- texts and blobs

digit_plain : (bytes : List ℕ) → Plain (digit_at bytes)
unfolding digit_at
digit_plain [] = refl
digit_plain (b ∷ rest) = either_plain (is_digit b 16) (read_ok (digit_value b) rest) (unexpected (b ∷ rest)) tt refl

pair_plain : (bytes : List ℕ) → Plain (pair_at bytes)
unfolding pair_at
pair_plain bytes = plain_bind (digit_at bytes) _ (digit_plain bytes) (λ high. plain_bind (digit_at high.1) _ (digit_plain high.1) (λ low. tt))

escape_plain : (bytes : List ℕ) → Plain (escape_at bytes)
unfolding escape_at
escape_plain [] = refl
escape_plain (b ∷ rest) = either_plain (b == 120) (pair_at rest) _ (pair_plain rest) (either_plain (b == 34 || b == 92) _ (unexpected (b ∷ rest)) tt refl)

text_unit_plain : (bytes : List ℕ) → Plain (text_unit_at bytes)
unfolding text_unit_at
text_unit_plain [] = refl
text_unit_plain (b ∷ rest) = either_plain (b == 34) _ _ tt (either_plain (b == 92) (escape_at rest) _ (escape_plain rest) (either_plain (nat_le 32 b && nat_le b 126) _ (unexpected (b ∷ rest)) tt refl))

unit_plain : (form : Form) (bytes : List ℕ) → Plain (unit_at form bytes)
unfolding blob_unit_at
unit_plain forms.Quoted bytes = text_unit_plain bytes
unit_plain forms.Hexadecimal bytes = either_plain (begins (λ b. is_digit b 16) bytes) (pair_at bytes) _ (pair_plain bytes) tt

units_plain : (form : Form) (count : ℕ) (bytes : List ℕ) → Plain (units_at form count bytes)
unfolding units_at
units_plain form zero bytes = refl
units_plain form (suc count) bytes = plain_bind (unit_at form bytes) _ (unit_plain form bytes) (λ unit. then_plain unit.0 unit.1 (units_at form count unit.1) (units_plain form count unit.1))
  where
    then_plain : (o : Option ℕ) (rest : List ℕ) (others : Result (List ℕ × List ℕ) Stop) → Plain others → Plain (unit_then o rest others)
    then_plain None rest others plain = tt
    then_plain (Some b) rest others plain = plain_bind others _ plain (λ o. tt)

pub text_plain : (bytes : List ℕ) → Plain (text_at bytes)
unfolding text_at
text_plain bytes = plain_bind (byte_at 34 bytes) _ (byte_plain 34 bytes) (λ inside. plain_bind (units_at forms.Quoted (length inside + 1) inside) _ (units_plain forms.Quoted (length inside + 1) inside) (λ s. tt))

pub blob_plain : (bytes : List ℕ) → Plain (blob_at bytes)
unfolding blob_at
blob_plain bytes = plain_bind (byte_at 35 bytes) _ (byte_plain 35 bytes) (λ inside. plain_bind (units_at forms.Hexadecimal (length inside + 1) inside) _ (units_plain forms.Hexadecimal (length inside + 1) inside) (λ s. tt))
