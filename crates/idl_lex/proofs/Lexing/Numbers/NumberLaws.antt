-- Numbers and fractions: what is found has its form.
use Rattle.std.proofs.Common.{◌≡◌, ℕ, ◌-◌, ◌^◌, ◌<◌, ◌≤◌, Bool, true, false, leb, eqb, ◌&&◌, not, List, [], ◌∷◌, ◌++◌, length, drop, get_or, Option, Some, None, refl, sym, ap, ◌∙◌, subst, inl, inr, ◌⊎◌, arith, append_assoc, length-drop}
use Rattle.std.proofs.lemmas.Bool.{cases_Bool, and_parts, and_left, and_right, eqb-true, ne_eqb}
use Rattle.std.proofs.lemmas.Bool.Decides.{nat_tests}
use Rattle.std.specs.List.{list_all}
use Rattle.std.specs.Char.{is_ascii_alphabetic, is_digit}
use Rattle.idl_lex.specs.declared.kind.Kind.{Kind}
use Rattle.idl_lex.specs.declared.kind.Kind.TheVariants as kind
use Rattle.idl_lex.specs.Bytes.{begins, is_letter_or_low}
use Rattle.idl_lex.specs.Forms.{AreDigits, IsWhole, IsPointed, magnitude}
use Rattle.idl_lex.specs.LexSteps.{Candidate, run, after_run, is_at_most, hexadecimal_at, begins_part, decimal_at, begins_hexadecimal, unsigned_at, number_at}
use Rattle.idl_lex.proofs.Lexing.Lexemes.Dominating.{Finds}
use Rattle.idl_lex.proofs.Lexing.Words.RunLaws.{run_whole, run_passes, run_some}

abbrev pub is_decimal : ℕ → Bool
is_decimal c = is_digit c 10

abbrev pub is_hex : ℕ → Bool
is_hex c = is_digit c 16

-- where decimal digits lie
digit_bounds : (c : ℕ) → is_decimal c ≡ true → (48 ≤ c) × (c ≤ 57)
digit_bounds c digit = (grind (arith, nat_tests), grind (arith, nat_tests))

pub digit_is_not : (c n : ℕ) → is_decimal c ≡ true → (n < 48) ⊎ (57 < n) → eqb c n ≡ false
digit_is_not c n digit (inl below) = let bounds = digit_bounds c digit in ne_eqb c n (λ same. omega arith)
digit_is_not c n digit (inr above) = let bounds = digit_bounds c digit in ne_eqb c n (λ same. omega arith)

pub digit_no_letter : (c : ℕ) → is_decimal c ≡ true → is_ascii_alphabetic c ≡ false
digit_no_letter c digit = let bounds = digit_bounds c digit in grind (arith, nat_tests)

-- ---- what begins a hexadecimal number or the part of a fraction

pub hexadecimal_prefix : (body : List ℕ) → begins_hexadecimal body ≡ true → (body ≡ 48 ∷ 120 ∷ drop 2 body) × (begins is_hex (drop 2 body) ≡ true)
hexadecimal_prefix [] h = absurd (cc)
hexadecimal_prefix (a ∷ []) h = absurd (cc ((and_parts (eqb a 48) false (and_parts (eqb a 48 && false) false h).0).1))
hexadecimal_prefix (a ∷ b ∷ rest) h =
    let parts = and_parts (eqb a 48 && eqb b 120) (begins is_hex rest) h in
    let both = and_parts (eqb a 48) (eqb b 120) parts.0 in
    let first = eqb-true a 48 both.0 in
    let second = eqb-true b 120 both.1 in
    (cc, parts.1)

pub part_prefix : (rest : List ℕ) → begins_part rest ≡ true → (rest ≡ 46 ∷ drop 1 rest) × (begins is_decimal (drop 1 rest) ≡ true)
part_prefix [] h = absurd (cc)
part_prefix (a ∷ rest) h =
    let parts = and_parts (eqb a 46) (begins is_decimal rest) h in
    let first = eqb-true a 46 parts.0 in
    (cc, parts.1)

-- after a digit stands no `x`
pub no_hexadecimal : (d : ℕ) (digits rest : List ℕ) → list_all is_decimal digits ≡ true → eqb (get_or rest 0 0) 120 ≡ false → begins_hexadecimal (d ∷ (digits ++ rest)) ≡ false
no_hexadecimal d [] rest all other =
    and_left (eqb d 48 && eqb (get_or rest 0 0) 120) _ (and_right (eqb d 48) _ other)
no_hexadecimal d (e ∷ digits) rest all other =
    let digit = (and_parts (is_decimal e) (list_all is_decimal digits) all).0 in
    and_left (eqb d 48 && eqb e 120) _ (and_right (eqb d 48) _ (digit_is_not e 120 digit (inr (omega arith))))

-- a hexadecimal number that begins with decimal digits begins with one alone
pub hexadecimal_short : (d : ℕ) (digits rest : List ℕ) → list_all is_decimal digits ≡ true → begins_hexadecimal (d ∷ (digits ++ rest)) ≡ true → length (drop 2 (d ∷ (digits ++ rest))) ≤ length rest
hexadecimal_short d [] rest all h = omega (arith, length-drop 1 rest)
hexadecimal_short d (e ∷ digits) rest all h =
    let digit = (and_parts (is_decimal e) (list_all is_decimal digits) all).0 in
    let parts = and_parts (eqb d 48 && eqb e 120) (begins is_hex (digits ++ rest)) h in
    let both = and_parts (eqb d 48) (eqb e 120) parts.0 in
    absurd (cc (both.1, digit_is_not e 120 digit (inr (omega arith))))

-- ---- what is found has its form

-- a number or fraction without its minus
abbrev UnsignedForm : ℕ → Kind → Bool → List ℕ → Type 0
UnsignedForm most kind.Number in_range word = IsWhole word × (in_range ≡ leb (magnitude word) most)
UnsignedForm most kind.Fraction in_range word = IsPointed word × (in_range ≡ true)
UnsignedForm most _ in_range word = ⊥

abbrev FindsUnsigned : ℕ → Option Candidate → List ℕ → Type 0
FindsUnsigned most None body = Unit {0}
FindsUnsigned most (Some found) body = (word : List ℕ) × (body ≡ word ++ found.2) × UnsignedForm most found.0 found.1 word

hexadecimal_form : (most : ℕ) (digits : List ℕ) → begins is_hex digits ≡ true → FindsUnsigned most (Some (hexadecimal_at most digits)) (48 ∷ 120 ∷ digits)
unfolding hexadecimal_at is_at_most
hexadecimal_form most digits some = (
  48 ∷ 120 ∷ run is_hex digits,
  ap (λ (t : List ℕ). 48 ∷ 120 ∷ t) (sym (run_whole is_hex digits)),
  (inr (run is_hex digits, refl, (run_some is_hex digits some, run_passes is_hex digits)), rw (run_passes is_hex digits) refl),
)

-- the second byte of decimal digits
digits_no_x : (digits : List ℕ) → list_all is_decimal digits ≡ true → eqb (get_or digits 1 0) 120 ≡ false
digits_no_x [] all = refl
digits_no_x (d ∷ []) all = refl
digits_no_x (d ∷ e ∷ digits) all =
    let rest = (and_parts (is_decimal d) (list_all is_decimal (e ∷ digits)) all).1 in
    digit_is_not e 120 (and_parts (is_decimal e) (list_all is_decimal digits) rest).0 (inr (omega arith))

decimal_form : (most : ℕ) (body : List ℕ) → begins is_decimal body ≡ true → FindsUnsigned most (Some (decimal_at most body)) body
unfolding decimal_at is_at_most
decimal_form most body some =
    let whole = run is_decimal body in
    let rest = after_run is_decimal body in
    elim (cases_Bool (begins_part rest)) [
      | inl part ↦
          let prefix = part_prefix rest part in
          let digits = drop 1 rest in
          rw part (
            whole ++ (46 ∷ run is_decimal digits),
            sym (append_assoc whole (46 ∷ run is_decimal digits) (after_run is_decimal digits)
                ∙ ap (λ (t : List ℕ). whole ++ (46 ∷ t)) (run_whole is_decimal digits)
                ∙ ap (λ (t : List ℕ). whole ++ t) (sym prefix.0) ∙ run_whole is_decimal body),
            ((whole, run is_decimal digits, refl, (run_some is_decimal body some, run_passes is_decimal body), (run_some is_decimal digits prefix.1, run_passes is_decimal digits)), refl),
          )
      | inr other ↦
          rw other (
            whole,
            sym (run_whole is_decimal body),
            (inl (run_some is_decimal body some, run_passes is_decimal body), rw (run_passes is_decimal body, digits_no_x whole (run_passes is_decimal body)) refl),
          )
    ]

unsigned_form : (most : ℕ) (body : List ℕ) → FindsUnsigned most (unsigned_at most body) body
unfolding unsigned_at
unsigned_form most body =
    elim (cases_Bool (begins_hexadecimal body)) [
      | inl hex ↦
          let prefix = hexadecimal_prefix body hex in
          rw hex (subst (λ (t : List ℕ). FindsUnsigned most (Some (hexadecimal_at most (drop 2 body))) t) (sym prefix.0) (hexadecimal_form most (drop 2 body) prefix.1))
      | inr other ↦
          elim (cases_Bool (begins is_decimal body)) [
            | inl digit ↦ rw (other, digit) (decimal_form most body digit)
            | inr none ↦ rw (other, none) tt
          ]
    ]

-- the first byte of a number without a minus is none
digits_no_minus : (digits : List ℕ) → AreDigits 10 digits → eqb (get_or digits 0 0) 45 ≡ false
digits_no_minus [] is = absurd (omega (arith, is.0))
digits_no_minus (d ∷ digits) is = digit_is_not d 45 (and_parts (is_decimal d) (list_all is_decimal digits) is.1).0 (inl (omega arith))

whole_no_minus : (word : List ℕ) → IsWhole word → eqb (get_or word 0 0) 45 ≡ false
whole_no_minus word (inl digits) = digits_no_minus word digits
whole_no_minus word (inr hex) = rw hex.1 refl

minus_finds : (found : Option Candidate) (body : List ℕ) → FindsUnsigned (2 ^ 63) found body → Finds found (45 ∷ body)
minus_finds None body h = tt
minus_finds (Some (kind.Number, in_range, rest)) body h = record {
  word = 45 ∷ h.0;
  prefix = ap (λ (t : List ℕ). 45 ∷ t) h.1;
  form = inr (h.0, refl, h.2.0);
  sound = ap (λ (b : Bool). b && not (begins is_letter_or_low rest)) (sym h.2.1);
}
minus_finds (Some (kind.Fraction, in_range, rest)) body h = record {
  word = 45 ∷ h.0;
  prefix = ap (λ (t : List ℕ). 45 ∷ t) h.1;
  form = inr (h.0, refl, h.2.0);
  sound = ap (λ (b : Bool). b && not (begins is_letter_or_low rest)) (sym h.2.1);
}
minus_finds (Some (_, in_range, rest)) body h = absurd h.2

plain_finds : (found : Option Candidate) (body : List ℕ) → FindsUnsigned (2 ^ 63 - 1) found body → Finds found body
plain_finds None body h = tt
plain_finds (Some (kind.Number, in_range, rest)) body h = record {
  word = h.0;
  prefix = h.1;
  form = inl h.2.0;
  sound = rw (whole_no_minus h.0 h.2.0) (ap (λ (b : Bool). b && not (begins is_letter_or_low rest)) (sym h.2.1));
}
plain_finds (Some (kind.Fraction, in_range, rest)) body h = record {
  word = h.0;
  prefix = h.1;
  form = inl h.2.0;
  sound = ap (λ (b : Bool). b && not (begins is_letter_or_low rest)) (sym h.2.1);
}
plain_finds (Some (_, in_range, rest)) body h = absurd h.2

minus_prefix : (bytes : List ℕ) → eqb (get_or bytes 0 0) 45 ≡ true → bytes ≡ 45 ∷ drop 1 bytes
minus_prefix [] h = absurd (cc)
minus_prefix (b ∷ rest) h = ap (λ (c : ℕ). c ∷ rest) (eqb-true b 45 h)

pub number_finds : (bytes : List ℕ) → Finds (number_at bytes) bytes
unfolding number_at
number_finds bytes =
    elim (cases_Bool (eqb (get_or bytes 0 0) 45)) [
      | inl minus ↦
          rw minus (subst (λ (t : List ℕ). Finds (unsigned_at (2 ^ 63) (drop 1 bytes)) t) (sym (minus_prefix bytes minus)) (minus_finds _ (drop 1 bytes) (unsigned_form (2 ^ 63) (drop 1 bytes))))
      | inr other ↦ rw other (plain_finds _ bytes (unsigned_form (2 ^ 63 - 1) bytes))
    ]
