-- Printed texts and blobs spell their bytes.
use Rattle.std.proofs.Common.{◌≡◌, ◌<◌, ◌+◌, ◌*◌, ◌/◌, ◌%◌, ℕ, zero, suc, Bool, true, false, ◌==◌, ◌&&◌, ◌||◌, nat_le, cond, List, [], ◌∷◌, ◌++◌, codes, refl, sym, ap, ◌∙◌, subst, inl, inr, arith, append_assoc, slice_index, nat_lt, ltb-true}
use Rattle.std.proofs.lemmas.Bool.{and_parts, eqb-true, cases_lt}
use Rattle.std.proofs.lemmas.Bool.Decides.{nat_tests}
use Rattle.std.specs.Char.{digit_value}
use Rattle.std.specs.List.{flat_map}
use Rattle.canonical_text.specs.Canonical.{byte_text, quoted}
use Rattle.hex.specs.Hex.{upper_digits, encode_with, encode_upper}
use Rattle.idl_lex.specs.Bytes.{begins, is_word_byte}
use Rattle.value_text.specs.Printed.{are_bytes, blob_text}
use Rattle.value_text.specs.Spelling.{is_hexadecimal, PairSpells, UnitSpells, plain, marked, digits, TextSpells, ends_text, more_text, BlobSpells, ends_blob, more_blob}

-- ---- the digits of a byte

-- a place of the table of digits
abbrev stands : ℕ → Bool
stands n = is_hexadecimal (slice_index upper_digits n) && digit_value (slice_index upper_digits n) == n

abbrev all_stand : ℕ → Bool
all_stand zero = true
all_stand (suc n) = stands n && all_stand n

stands_at : (n k : ℕ) → all_stand n ≡ true → k < n → stands k ≡ true
stands_at zero k all less = absurd (omega arith)
stands_at (suc n) k all less =
    let parts = and_parts (stands n) (all_stand n) all in
    elim (cases_lt k n) [
      | inl below ↦ stands_at n k parts.1 below
      | inr top ↦ let e : k ≡ n = omega arith in rw e parts.0
    ]

digit_stands : (k : ℕ) → k < 16 → (is_hexadecimal (slice_index upper_digits k) ≡ true) × (digit_value (slice_index upper_digits k) ≡ k)
digit_stands k less =
    let parts = and_parts (is_hexadecimal (slice_index upper_digits k)) _ (stands_at 16 k refl less) in
    (parts.0, eqb-true (digit_value (slice_index upper_digits k)) k parts.1)

pair_spells : (b : ℕ) (rest : List ℕ) → b < 256 → PairSpells b (slice_index upper_digits (b / 16) ∷ slice_index upper_digits (b % 16) ∷ rest) rest
pair_spells b rest small =
    let high = digit_stands (b / 16) (omega arith) in
    let low = digit_stands (b % 16) (omega arith) in
    let parts : b ≡ 16 * (b / 16) + b % 16 = omega arith in
    record {
      high = slice_index upper_digits (b / 16);
      low = slice_index upper_digits (b % 16);
      text = refl;
      high_digit = high.0;
      low_digit = low.0;
      value = parts ∙ rw (high.1, low.1) refl;
    }

octet : (b : ℕ) (bytes : List ℕ) → are_bytes (b ∷ bytes) ≡ true → (b < 256) × (are_bytes bytes ≡ true)
octet b bytes all = let parts = and_parts (nat_lt b 256) (are_bytes bytes) all in (ltb-true b 256 parts.0, parts.1)

-- ---- texts

unit_spells : (b : ℕ) (rest : List ℕ) → b < 256 → UnitSpells b (byte_text b ++ rest) rest
unfolding byte_text encode_with
unit_spells b rest small = by_mark (b == 34 || b == 92) refl
  where
    by_range : (t : Bool) → (nat_le 32 b && nat_le b 126) ≡ t → (b == 34 || b == 92) ≡ false → UnitSpells b (cond t (b ∷ []) (codes "\\x" ++ encode_upper (b ∷ [])) ++ rest) rest
    by_range true range other = plain (rw (range, other) refl) refl
    by_range false range other = digits (slice_index upper_digits (b / 16) ∷ slice_index upper_digits (b % 16) ∷ rest) refl (pair_spells b rest small)

    by_mark : (t : Bool) → (b == 34 || b == 92) ≡ t → UnitSpells b (cond t (codes "\\" ++ b ∷ []) (cond (nat_le 32 b && nat_le b 126) (b ∷ []) (codes "\\x" ++ encode_upper (b ∷ []))) ++ rest) rest
    by_mark true is = marked is refl
    by_mark false is = by_range (nat_le 32 b && nat_le b 126) refl is

text_spells : (s rest : List ℕ) → are_bytes s ≡ true → TextSpells s (flat_map byte_text s ++ 34 ∷ rest) rest
text_spells [] rest all = ends_text refl
text_spells (b ∷ s) rest all =
    let parts = octet b s all in
    let next = flat_map byte_text s ++ 34 ∷ rest in
    subst (λ (t : List ℕ). TextSpells (b ∷ s) t rest) (sym (append_assoc (byte_text b) (flat_map byte_text s) (34 ∷ rest)))
    (more_text (unit_spells b next parts.0) (text_spells s rest parts.1))

pub quoted_spells : (s rest : List ℕ) → are_bytes s ≡ true → (inside : List ℕ) × (quoted s ++ rest ≡ codes "\"" ++ inside) × TextSpells s inside rest
unfolding quoted
quoted_spells s rest all =
    (flat_map byte_text s ++ 34 ∷ rest, ap (λ (t : List ℕ). 34 ∷ t) (append_assoc (flat_map byte_text s) (34 ∷ []) rest), text_spells s rest all)

-- ---- blobs

pub digit_is_word : (b : ℕ) → is_word_byte b ≡ false → is_hexadecimal b ≡ false
digit_is_word b h = grind (arith, nat_tests)

pub no_digit : (rest : List ℕ) → begins is_word_byte rest ≡ false → begins is_hexadecimal rest ≡ false
no_digit [] h = refl
no_digit (b ∷ rest) h = digit_is_word b h

digits_spell : (s rest : List ℕ) → are_bytes s ≡ true → begins is_hexadecimal rest ≡ false → BlobSpells s (encode_upper s ++ rest) rest
unfolding encode_with
digits_spell [] rest all other = ends_blob other refl
digits_spell (b ∷ s) rest all other = let parts = octet b s all in more_blob (pair_spells b (encode_upper s ++ rest) parts.0) (digits_spell s rest parts.1 other)

pub blob_spells : (s rest : List ℕ) → are_bytes s ≡ true → begins is_word_byte rest ≡ false → (inside : List ℕ) × (blob_text s ++ rest ≡ codes "#" ++ inside) × BlobSpells s inside rest
unfolding blob_text
blob_spells s rest all ends = (encode_upper s ++ rest, refl, digits_spell s rest all (no_digit rest ends))
