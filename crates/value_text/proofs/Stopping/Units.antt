-- Pairs of digits and the bytes of texts, in which reading gets stuck.
use Rattle.std.proofs.Common.{◌≡◌, ◌+◌, ◌*◌, ℕ, Bool, true, false, ◌==◌, ◌||◌, ◌&&◌, nat_le, cond, Option, Some, None, List, [], ◌∷◌, ◌++◌, drop, Ok, Err, refl, sym, ap, ◌∙◌, subst, arith}
use Rattle.std.proofs.lemmas.Bool.{eqb-true}
use Rattle.std.proofs.lemmas.Bool.Decides.{nat_tests}
use Rattle.std.specs.Char.{digit_value}
use Rattle.facts.specs.ResultSteps.{◌>>=◌}
use Rattle.idl_lex.specs.Bytes.{begins}
use Rattle.value_text.specs.ReadSteps.{unexpected, digit_at, pair_at, escape_at, text_unit_at}
use Rattle.value_text.specs.Spelling.{is_hexadecimal, PairSpells, is_marked, is_plain, UnitSpells, plain, marked, digits}
use Rattle.value_text.specs.declared.value_fault.ValueWhy.{ValueWhy}
use Rattle.value_text.specs.declared.value_fault.ValueWhy.TheVariants.{Unexpected}
use Rattle.value_text.proofs.Signs.{read_ok, gives, false_is_not_true}
use Rattle.value_text.proofs.TextLaws.{digit_stands, unit_is_read}
use Rattle.value_text.proofs.Stopping.Languages.{none_of, Language, Anything, Agrees, Stuck, Passes, begins_alike}
use Rattle.value_text.proofs.Stopping.Signs.{stop, stops_so, Stops, before, after, step_stops}

-- ---- pairs of digits

abbrev pub PairText : Language
PairText bytes rest = (n : ℕ) × PairSpells n bytes rest

-- no digit comes
digit_refused : (bytes left : List ℕ) (why : ValueWhy) → digit_at bytes ≡ Err (stop left why) → (left ≡ bytes) × (begins is_hexadecimal bytes ≡ false)
unfolding digit_at
digit_refused [] left why e = (sym (stops_so {A = ℕ × List ℕ} [] left Unexpected why e).0, refl)
digit_refused (b ∷ bytes) left why e = by_test (is_hexadecimal b) refl e
  where
    by_test : (t : Bool) → is_hexadecimal b ≡ t → cond t (read_ok (digit_value b) bytes) (unexpected (b ∷ bytes)) ≡ Err (stop left why) → (left ≡ b ∷ bytes) × (is_hexadecimal b ≡ false)
    by_test true is e = absurd cc
    by_test false is e = (sym (stops_so {A = ℕ × List ℕ} (b ∷ bytes) left Unexpected why e).0, is)

-- a byte that is no digit comes after these
no_digit : (left other more : List ℕ) (digit : ℕ) → begins is_hexadecimal left ≡ false → Agrees left other → other ≡ digit ∷ more → is_hexadecimal digit ≡ true → ⊥
no_digit left other more digit none agree is passes =
    false_is_not_true (sym none ∙ sym (begins_alike is_hexadecimal [] left other agree) ∙ ap (begins is_hexadecimal) is ∙ passes)

pair_of : (high low : ℕ) (rest : List ℕ) → is_hexadecimal high ≡ true → is_hexadecimal low ≡ true → PairText (high ∷ low ∷ rest) rest
pair_of high low rest one two = (16 * digit_value high + digit_value low, record { high = high; low = low; text = refl; high_digit = one; low_digit = two; value = refl })

pub stuck_in_pair : (bytes left : List ℕ) (why : ValueWhy) → pair_at bytes ≡ Err (stop left why) → Stuck Anything PairText bytes left
unfolding pair_at
stuck_in_pair bytes left why e = in_high (step_stops (digit_at bytes) (λ high. digit_at high.1 >>= λ low. Ok (Some (16 * high.0 + low.0), low.1)) (stop left why) e)
  where
    in_low : (high : ℕ × List ℕ) → digit_at bytes ≡ Ok high → Stops (digit_at high.1) (λ low. read_ok (Some (16 * high.0 + low.0)) low.1) (stop left why) → Stuck Anything PairText bytes left
    in_low high first (before e) =
        let is = digit_refused high.1 left why e in
        let h = digit_stands high.0 bytes high.1 first in
        record {
          front = h.digit ∷ [];
          is = h.text ∙ ap (λ (l : List ℕ). h.digit ∷ l) (sym is.0);
          more = 48 ∷ [];
          goes_on = λ tail any. pair_of h.digit 48 tail h.passes refl;
          blocked = λ other rest agree p. no_digit left other rest p.1.low (ap (begins is_hexadecimal) is.0 ∙ is.1) agree (ap (drop 1) p.1.text) p.1.low_digit;
        }
    in_low high first (after low is e) = absurd cc

    in_high : Stops (digit_at bytes) (λ high. digit_at high.1 >>= λ low. read_ok (Some (16 * high.0 + low.0)) low.1) (stop left why) → Stuck Anything PairText bytes left
    in_high (before e) =
        let is = digit_refused bytes left why e in
        record {
          front = [];
          is = sym is.0;
          more = 48 ∷ 48 ∷ [];
          goes_on = λ tail any. pair_of 48 48 tail refl refl;
          blocked = λ other rest agree p. no_digit left other (p.1.low ∷ rest) p.1.high (ap (begins is_hexadecimal) is.0 ∙ is.1) agree p.1.text p.1.high_digit;
        }
    in_high (after high is e) = in_low high is (step_stops (digit_at high.1) (λ low. read_ok (Some (16 * high.0 + low.0)) low.1) (stop left why) e)

pub pair_passes : (b : ℕ) (bytes next : List ℕ) → PairSpells b bytes next → Passes Anything PairText bytes next
pair_passes b bytes next p = record {
  front = p.high ∷ p.low ∷ [];
  is = p.text;
  goes = λ other any. pair_of p.high p.low other p.high_digit p.low_digit;
  alone = λ other rest any q. sym (ap (drop 2) q.1.text);
}

-- ---- units of texts

abbrev pub UnitText : Language
UnitText bytes rest = (b : ℕ) × UnitSpells b bytes rest

-- a unit begins with none but these
pub unit_begins : (b : ℕ) (bytes rest : List ℕ) → UnitSpells b bytes rest → begins (λ c. is_plain c || c == 92) bytes ≡ true
unit_begins b bytes rest (plain is text) = ap (begins (λ c. is_plain c || c == 92)) text ∙ rw is refl
unit_begins b bytes rest (marked is text) = ap (begins (λ c. is_plain c || c == 92)) text
unit_begins b bytes rest (digits inside text pair) = ap (begins (λ c. is_plain c || c == 92)) text

-- after a backslash
escape_begins : (b : ℕ) (bytes rest : List ℕ) → UnitSpells b (92 ∷ bytes) rest → begins (λ c. is_marked c || c == 120) bytes ≡ true
escape_begins b bytes rest (plain is text) = absurd (no_plain b is (ap (begins (λ c. c == b)) text))
  where
    no_plain : (b : ℕ) → is_plain b ≡ true → (92 == b) ≡ (b == b) → ⊥
    no_plain b is same = grind (arith, nat_tests)
escape_begins b bytes rest (marked is text) = ap (begins (λ c. is_marked c || c == 120)) (ap (drop 1) text) ∙ rw is refl
escape_begins b bytes rest (digits inside text pair) = ap (begins (λ c. is_marked c || c == 120)) (ap (drop 1) text)

-- after `\x` two digits stand
after_x : (b : ℕ) (bytes rest : List ℕ) → UnitSpells b (92 ∷ 120 ∷ bytes) rest → PairText bytes rest
after_x b bytes rest (plain is text) = absurd (no_plain b is (ap (begins (λ c. c == b)) text))
  where
    no_plain : (b : ℕ) → is_plain b ≡ true → (92 == b) ≡ (b == b) → ⊥
    no_plain b is same = grind (arith, nat_tests)
after_x b bytes rest (marked is text) = absurd (no_mark b is (ap (λ (l : List ℕ). begins (λ c. c == b) (drop 1 l)) text))
  where
    no_mark : (b : ℕ) → is_marked b ≡ true → (120 == b) ≡ (b == b) → ⊥
    no_mark b is same = grind (arith, nat_tests)
after_x b bytes rest (digits inside text pair) = (b, subst (λ (l : List ℕ). PairSpells b l rest) (sym (ap (drop 2) text)) pair)

stuck_at_unit : (bytes : List ℕ) → begins (λ c. is_plain c || c == 92) bytes ≡ false → Stuck Anything UnitText bytes bytes
stuck_at_unit bytes none = record {
  front = [];
  is = refl;
  more = 48 ∷ [];
  goes_on = λ tail any. (48, plain refl refl);
  blocked = λ other rest agree u. none_of (λ c. is_plain c || c == 92) bytes other none agree (unit_begins u.0 other rest u.1);
}

stuck_at_escape : (bytes : List ℕ) → begins (λ c. is_marked c || c == 120) bytes ≡ false → Stuck Anything UnitText (92 ∷ bytes) bytes
stuck_at_escape bytes none = record {
  front = 92 ∷ [];
  is = refl;
  more = 34 ∷ [];
  goes_on = λ tail any. (34, marked refl refl);
  blocked = λ other rest agree u. none_of (λ c. is_marked c || c == 120) bytes other none agree (escape_begins u.0 other rest u.1);
}

stuck_in_digits : (bytes left : List ℕ) → Stuck Anything PairText bytes left → Stuck Anything UnitText (92 ∷ 120 ∷ bytes) left
stuck_in_digits bytes left s = record {
  front = 92 ∷ 120 ∷ s.front;
  is = ap (λ (l : List ℕ). 92 ∷ 120 ∷ l) s.is;
  more = s.more;
  goes_on = λ tail any. let p = s.goes_on tail tt in (p.0, digits (s.front ++ (s.more ++ tail)) refl p.1);
  blocked = λ other rest agree u. s.blocked other rest agree (after_x u.0 (s.front ++ other) rest u.1);
}

stuck_in_escape : (bytes left : List ℕ) (why : ValueWhy) → escape_at bytes ≡ Err (stop left why) → Stuck Anything UnitText (92 ∷ bytes) left
unfolding escape_at
stuck_in_escape [] left why e = subst (Stuck Anything UnitText (92 ∷ [])) (stops_so {A = Option ℕ × List ℕ} [] left Unexpected why e).0 (stuck_at_escape [] refl)
stuck_in_escape (b ∷ bytes) left why e = by_x (b == 120) refl (eqb-true b 120) e
  where
    by_mark : (t : Bool) → (b == 120) ≡ false → is_marked b ≡ t → cond t (read_ok (Some b) bytes) (unexpected (b ∷ bytes)) ≡ Err (stop left why) → Stuck Anything UnitText (92 ∷ b ∷ bytes) left
    by_mark true no_x is e = absurd cc
    by_mark false no_x is e = subst (Stuck Anything UnitText (92 ∷ b ∷ bytes)) (stops_so {A = Option ℕ × List ℕ} (b ∷ bytes) left Unexpected why e).0 (stuck_at_escape (b ∷ bytes) (rw (is, no_x) refl))

    by_x : (t : Bool) → (b == 120) ≡ t → (t ≡ true → b ≡ 120) → cond t (pair_at bytes) (cond (is_marked b) (read_ok (Some b) bytes) (unexpected (b ∷ bytes))) ≡ Err (stop left why) → Stuck Anything UnitText (92 ∷ b ∷ bytes) left
    by_x true test is e = subst (λ (c : ℕ). Stuck Anything UnitText (92 ∷ c ∷ bytes) left) (sym (is refl)) (stuck_in_digits bytes left (stuck_in_pair bytes left why e))
    by_x false test is e = by_mark (is_marked b) test refl e

pub stuck_in_unit : (bytes left : List ℕ) (why : ValueWhy) → text_unit_at bytes ≡ Err (stop left why) → Stuck Anything UnitText bytes left
unfolding text_unit_at
stuck_in_unit [] left why e = subst (Stuck Anything UnitText []) (stops_so {A = Option ℕ × List ℕ} [] left Unexpected why e).0 (stuck_at_unit [] refl)
stuck_in_unit (b ∷ bytes) left why e = by_quote (b == 34) refl e
  where
    by_range : (t : Bool) → (b == 92) ≡ false → (nat_le 32 b && nat_le b 126) ≡ t → cond t (read_ok (Some b) bytes) (unexpected (b ∷ bytes)) ≡ Err (stop left why) → Stuck Anything UnitText (b ∷ bytes) left
    by_range true no_slash is e = absurd cc
    by_range false no_slash is e = subst (Stuck Anything UnitText (b ∷ bytes)) (stops_so {A = Option ℕ × List ℕ} (b ∷ bytes) left Unexpected why e).0 (stuck_at_unit (b ∷ bytes) (outside b is no_slash))
      where
        outside : (b : ℕ) → (nat_le 32 b && nat_le b 126) ≡ false → (b == 92) ≡ false → (is_plain b || b == 92) ≡ false
        outside b is no_slash = grind (arith, nat_tests)

    by_slash : (t : Bool) → (b == 92) ≡ t → (t ≡ true → b ≡ 92) → cond t (escape_at bytes) (cond (nat_le 32 b && nat_le b 126) (read_ok (Some b) bytes) (unexpected (b ∷ bytes))) ≡ Err (stop left why) → Stuck Anything UnitText (b ∷ bytes) left
    by_slash true test is e = subst (λ (c : ℕ). Stuck Anything UnitText (c ∷ bytes) left) (sym (is refl)) (stuck_in_escape bytes left why e)
    by_slash false test is e = by_range (nat_le 32 b && nat_le b 126) test refl e

    by_quote : (t : Bool) → (b == 34) ≡ t → cond t (read_ok None bytes) (cond (b == 92) (escape_at bytes) (cond (nat_le 32 b && nat_le b 126) (read_ok (Some b) bytes) (unexpected (b ∷ bytes)))) ≡ Err (stop left why) → Stuck Anything UnitText (b ∷ bytes) left
    by_quote true test e = absurd cc
    by_quote false test e = by_slash (b == 92) refl (eqb-true b 92) e

-- the bytes of a unit, which are one before whatever follows
record Unit (b : ℕ) (bytes next : List ℕ) : Type 0 where
  front : List ℕ
  is : bytes ≡ front ++ next
  goes : (other : List ℕ) → UnitSpells b (front ++ other) other

unit_of : (b : ℕ) (bytes next : List ℕ) → UnitSpells b bytes next → Unit b bytes next
unit_of b bytes next (plain is text) = record { front = b ∷ []; is = text; goes = λ other. plain is refl }
unit_of b bytes next (marked is text) = record { front = 92 ∷ b ∷ []; is = text; goes = λ other. marked is refl }
unit_of b bytes next (digits inside text p) = record {
  front = 92 ∷ 120 ∷ p.high ∷ p.low ∷ [];
  is = text ∙ ap (λ (l : List ℕ). 92 ∷ 120 ∷ l) p.text;
  goes = λ other. digits (p.high ∷ p.low ∷ other) refl (record { high = p.high; low = p.low; text = refl; high_digit = p.high_digit; low_digit = p.low_digit; value = p.value });
}

pub unit_passes : (b : ℕ) (bytes next : List ℕ) → UnitSpells b bytes next → Passes Anything UnitText bytes next
unit_passes b bytes next s =
    let u = unit_of b bytes next s in
    record {
      front = u.front;
      is = u.is;
      goes = λ other any. (b, u.goes other);
      alone = λ other rest any v. sym (gives (Some b) (Some v.0) other rest (sym (unit_is_read b (u.front ++ other) other (u.goes other)) ∙ unit_is_read v.0 (u.front ++ other) rest v.1)).1;
    }
