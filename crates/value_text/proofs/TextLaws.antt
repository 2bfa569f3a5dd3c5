-- Texts and blobs: what is read of them is spelled, and what is spelled is read.
use Rattle.std.proofs.Common.{◌≡◌, ◌<◌, ◌+◌, ◌*◌, ℕ, zero, suc, Bool, true, false, ◌==◌, ◌||◌, ◌&&◌, not, nat_le, cond, Option, Some, None, List, [], ◌∷◌, length, Ok, refl, sym, ap, ◌∙◌, subst, arith}
use Rattle.std.proofs.lemmas.Bool.{eqb-true, and_parts}
use Rattle.std.proofs.lemmas.Bool.Decides.{nat_tests}
use Rattle.std.specs.Char.{digit_value}
use Rattle.facts.specs.ResultSteps.{◌>>=◌}
use Rattle.facts.proofs.ResultLaws.{bind_gave}
use Rattle.idl_lex.specs.Bytes.{begins}
use Rattle.value_text.specs.ReadSteps.{unexpected, digit_at, pair_at, escape_at, text_unit_at, blob_unit_at, unit_then, units_at}
use Rattle.value_text.specs.Spelling.{is_hexadecimal, PairSpells, is_marked, is_plain, UnitSpells, plain, marked, digits, TextSpells, BlobSpells}
use Rattle.value_text.specs.Spelling as spelling
use Rattle.value_text.specs.declared.cursor.Form.TheVariants as forms
use Rattle.value_text.proofs.Signs.{okay, read_ok, gives}

-- ---- pairs of digits

-- a digit with its value
pub record DigitStands (n : ℕ) (bytes rest : List ℕ) : Type 0 where
  pub digit : ℕ
  pub text : bytes ≡ digit ∷ rest
  pub passes : is_hexadecimal digit ≡ true
  pub value : n ≡ digit_value digit

pub digit_stands : (n : ℕ) (bytes rest : List ℕ) → digit_at bytes ≡ Ok (n, rest) → DigitStands n bytes rest
unfolding digit_at
digit_stands n [] rest e = absurd cc
digit_stands n (b ∷ bytes) rest e = by_test (is_hexadecimal b) refl e
  where
    by_test : (t : Bool) → is_hexadecimal b ≡ t → cond t (read_ok (digit_value b) (bytes)) (unexpected (b ∷ bytes)) ≡ read_ok n rest → DigitStands n (b ∷ bytes) rest
    by_test true is e =
        let same = gives (digit_value b) n bytes rest e in
        record { digit = b; text = ap (λ (l : List ℕ). b ∷ l) same.1; passes = is; value = sym same.0 }
    by_test false is e = absurd cc

digit_is_read : (b : ℕ) (rest : List ℕ) → is_hexadecimal b ≡ true → digit_at (b ∷ rest) ≡ Ok (digit_value b, rest)
unfolding digit_at
digit_is_read b rest is = rw is refl

-- the byte that a reader found, or none
abbrev found : {A : Type 0} → A → Option A
found x = Some x

found_is : {A : Type 0} (x y : A) → found x ≡ found y → x ≡ y
found_is x y e = cc

found_none : {A : Type 0} (x : A) → found x ≡ None → ⊥
found_none x e = cc

none_found : {A : Type 0} (x : A) → None ≡ found x → ⊥
none_found x e = cc

pair_is : (a b c d : ℕ) → a ≡ c → b ≡ d → 16 * a + b ≡ 16 * c + d
pair_is a b c d one two = rw (one, two) refl

pair_stands : (b : ℕ) (bytes rest : List ℕ) → pair_at bytes ≡ Ok (Some b, rest) → PairSpells b bytes rest
unfolding pair_at
pair_stands b bytes rest e =
    let high = bind_gave (digit_at bytes) (λ high. digit_at high.1 >>= λ low. Ok (Some (16 * high.0 + low.0), low.1)) (Some b, rest) e in
    let low = bind_gave (digit_at high.0.1) (λ low. Ok (Some (16 * high.0.0 + low.0), low.1)) (Some b, rest) high.2 in
    let same = gives (Some (16 * high.0.0 + low.0.0)) (Some b) low.0.1 rest low.2 in
    let h = digit_stands high.0.0 bytes high.0.1 high.1 in
    let l = digit_stands low.0.0 high.0.1 low.0.1 low.1 in
    let n = found_is (16 * high.0.0 + low.0.0) b same.0 in
    record {
      high = h.digit;
      low = l.digit;
      text = h.text ∙ ap (λ (t : List ℕ). h.digit ∷ t) (l.text ∙ ap (λ (t : List ℕ). l.digit ∷ t) same.1);
      high_digit = h.passes;
      low_digit = l.passes;
      value = sym n ∙ pair_is high.0.0 low.0.0 (digit_value h.digit) (digit_value l.digit) h.value l.value;
    }

no_none : (bytes rest : List ℕ) → pair_at bytes ≡ Ok (None, rest) → ⊥
unfolding pair_at
no_none bytes rest e =
    let high = bind_gave (digit_at bytes) (λ high. digit_at high.1 >>= λ low. Ok (Some (16 * high.0 + low.0), low.1)) (None, rest) e in
    let low = bind_gave (digit_at high.0.1) (λ low. Ok (Some (16 * high.0.0 + low.0), low.1)) (None, rest) high.2 in
    let same = gives (Some (16 * high.0.0 + low.0.0)) None low.0.1 rest low.2 in
    found_none (16 * high.0.0 + low.0.0) same.0

pair_is_read : (b : ℕ) (bytes rest : List ℕ) → PairSpells b bytes rest → pair_at bytes ≡ Ok (Some b, rest)
unfolding pair_at
pair_is_read b bytes rest p =
    ap pair_at p.text ∙ rw (digit_is_read p.high (p.low ∷ rest) p.high_digit, digit_is_read p.low rest p.low_digit) (ap (λ (n : ℕ). okay (found n, rest)) (sym p.value))

-- ---- units of texts

-- what a reader of units found: a byte, or the quote
abbrev pub TextUnit : Option ℕ → List ℕ → List ℕ → Type 0
TextUnit None bytes rest = bytes ≡ 34 ∷ rest
TextUnit (Some b) bytes rest = UnitSpells b bytes rest

pub text_unit_stands : (u : Option ℕ) (bytes rest : List ℕ) → text_unit_at bytes ≡ Ok (u, rest) → TextUnit u bytes rest
unfolding text_unit_at escape_at
text_unit_stands u [] rest e = absurd cc
text_unit_stands u (b ∷ bytes) rest e = quote u (b == 34) (eqb-true b 34) refl e
  where
    escaped : (u : Option ℕ) (bytes : List ℕ) → escape_at bytes ≡ Ok (u, rest) → TextUnit u (92 ∷ bytes) rest
    escaped u [] e = absurd cc
    escaped u (c ∷ inside) e = by_x u (c == 120) (eqb-true c 120) e
      where
        by_mark : (u : Option ℕ) (t : Bool) → (c == 34 || c == 92) ≡ t → cond t (read_ok (Some c) (inside)) (unexpected (c ∷ inside)) ≡ read_ok u rest → TextUnit u (92 ∷ c ∷ inside) rest
        by_mark None true is e = absurd (found_none c (gives (found c) None inside rest e).0)
        by_mark (Some x) true is e =
            let same = gives (found c) (found x) inside rest e in
            let n = found_is c x same.0 in
            marked (subst (λ (y : ℕ). is_marked y ≡ true) n is) (ap (λ (y : ℕ). 92 ∷ y ∷ inside) n ∙ ap (λ (l : List ℕ). 92 ∷ x ∷ l) same.1)
        by_mark u false is e = absurd cc

        by_x : (u : Option ℕ) (t : Bool) → (t ≡ true → c ≡ 120) → cond t (pair_at inside) (cond (c == 34 || c == 92) (read_ok (Some c) (inside)) (unexpected (c ∷ inside))) ≡ read_ok u rest → TextUnit u (92 ∷ c ∷ inside) rest
        by_x None true is e = absurd (no_none inside rest e)
        by_x (Some x) true is e = digits inside (ap (λ (y : ℕ). 92 ∷ y ∷ inside) (is refl)) (pair_stands x inside rest e)
        by_x u false is e = by_mark u (c == 34 || c == 92) refl e

    by_range : (u : Option ℕ) (t : Bool) → (t ≡ true → is_plain b ≡ true) → cond t (read_ok (Some b) (bytes)) (unexpected (b ∷ bytes)) ≡ read_ok u rest → TextUnit u (b ∷ bytes) rest
    by_range None true is e = absurd (found_none b (gives (found b) None bytes rest e).0)
    by_range (Some x) true is e =
        let same = gives (found b) (found x) bytes rest e in
        let n = found_is b x same.0 in
        plain (subst (λ (y : ℕ). is_plain y ≡ true) n (is refl)) (ap (λ (y : ℕ). y ∷ bytes) n ∙ ap (λ (l : List ℕ). x ∷ l) same.1)
    by_range u false is e = absurd cc

    slash : (u : Option ℕ) (t : Bool) → (b == 34) ≡ false → (t ≡ true → b ≡ 92) → (b == 92) ≡ t → cond t (escape_at bytes) (cond (nat_le 32 b && nat_le b 126) (read_ok (Some b) (bytes)) (unexpected (b ∷ bytes))) ≡ read_ok u rest → TextUnit u (b ∷ bytes) rest
    slash u true no_quote is same e = subst (λ (y : ℕ). TextUnit u (y ∷ bytes) rest) (sym (is refl)) (escaped u bytes e)
    slash u false no_quote is same e = by_range u (nat_le 32 b && nat_le b 126) (λ range. rw (range, no_quote, same) refl) e

    quote : (u : Option ℕ) (t : Bool) → (t ≡ true → b ≡ 34) → (b == 34) ≡ t → cond t (read_ok (None) (bytes)) (cond (b == 92) (escape_at bytes) (cond (nat_le 32 b && nat_le b 126) (read_ok (Some b) (bytes)) (unexpected (b ∷ bytes)))) ≡ read_ok u rest → TextUnit u (b ∷ bytes) rest
    quote None true is same e = ap (λ (y : ℕ). y ∷ bytes) (is refl) ∙ ap (λ (l : List ℕ). 34 ∷ l) (gives {A = Option ℕ} None None bytes rest e).1
    quote (Some x) true is same e = absurd (none_found x (gives None (found x) bytes rest e).0)
    quote u false is same e = slash u (b == 92) same (eqb-true b 92) refl e

plain_read : (b : ℕ) (rest : List ℕ) → is_plain b ≡ true → text_unit_at (b ∷ rest) ≡ Ok (Some b, rest)
unfolding text_unit_at
plain_read b rest is =
    let parts = and_parts (nat_le 32 b && nat_le b 126) (not (is_marked b)) is in
    let no_quote : (b == 34) ≡ false = unmarked (b == 34) (b == 92) parts.1 in
    let no_slash : (b == 92) ≡ false = unmarked_second (b == 34) (b == 92) parts.1 in
    rw (no_quote, no_slash, parts.0) refl
  where
    unmarked : (s t : Bool) → not (s || t) ≡ true → s ≡ false
    unmarked true t h = absurd cc
    unmarked false t h = refl

    unmarked_second : (s t : Bool) → not (s || t) ≡ true → t ≡ false
    unmarked_second true t h = absurd cc
    unmarked_second false true h = absurd cc
    unmarked_second false false h = refl

marked_read : (b : ℕ) (rest : List ℕ) → is_marked b ≡ true → text_unit_at (92 ∷ b ∷ rest) ≡ Ok (Some b, rest)
unfolding text_unit_at escape_at
marked_read b rest is = let no_x : (b == 120) ≡ false = apart b is in rw (no_x, is) refl
  where
    apart : (b : ℕ) → (b == 34 || b == 92) ≡ true → (b == 120) ≡ false
    apart b is = grind (arith, nat_tests)

digits_read : (b : ℕ) (inside rest : List ℕ) → PairSpells b inside rest → text_unit_at (92 ∷ 120 ∷ inside) ≡ Ok (Some b, rest)
unfolding text_unit_at escape_at
digits_read b inside rest p = pair_is_read b inside rest p

pub unit_is_read : (b : ℕ) (bytes rest : List ℕ) → UnitSpells b bytes rest → text_unit_at bytes ≡ Ok (Some b, rest)
unit_is_read b bytes rest (plain is text) = ap text_unit_at text ∙ plain_read b rest is
unit_is_read b bytes rest (marked is text) = ap text_unit_at text ∙ marked_read b rest is
unit_is_read b bytes rest (digits inside text pair) = ap text_unit_at text ∙ digits_read b inside rest pair

quote_is_read : (bytes rest : List ℕ) → bytes ≡ 34 ∷ rest → text_unit_at bytes ≡ Ok (None, rest)
unfolding text_unit_at
quote_is_read bytes rest is = ap text_unit_at is

-- ---- whole texts

pub text_stands : (count : ℕ) (text bytes rest : List ℕ) → units_at forms.Quoted count bytes ≡ Ok (text, rest) → TextSpells text bytes rest
unfolding units_at
text_stands zero text bytes rest e = absurd cc
text_stands (suc count) text bytes rest e =
    let unit = bind_gave (text_unit_at bytes) (λ u. unit_then u.0 u.1 (units_at forms.Quoted count u.1)) (text, rest) e in
    by_unit unit.0.0 unit.0.1 text (text_unit_stands unit.0.0 bytes unit.0.1 unit.1) (λ others next after is. text_stands count others next after is) unit.2
  where
    by_unit : (u : Option ℕ) (next text : List ℕ) → TextUnit u bytes next
        → ((others next after : List ℕ) → units_at forms.Quoted count next ≡ Ok (others, after) → TextSpells others next after)
        → unit_then u next (units_at forms.Quoted count next) ≡ Ok (text, rest) → TextSpells text bytes rest
    by_unit None next text is deeper e =
        let same = gives [] text next rest e in
        subst (λ (t : List ℕ). TextSpells t bytes rest) same.0 (spelling.ends_text (is ∙ ap (λ (l : List ℕ). 34 ∷ l) same.1))
    by_unit (Some b) next text is deeper e =
        let others = bind_gave (units_at forms.Quoted count next) (λ o. Ok (b ∷ o.0, o.1)) (text, rest) e in
        let same = gives (b ∷ others.0.0) text others.0.1 rest others.2 in
        subst (λ (t : List ℕ). TextSpells t bytes rest) same.0
        (spelling.more_text is (deeper others.0.0 next rest (others.1 ∙ ap (read_ok others.0.0) same.1)))

-- ---- whole blobs

abbrev pub BlobUnit : Option ℕ → List ℕ → List ℕ → Type 0
BlobUnit None bytes rest = (bytes ≡ rest) × (begins is_hexadecimal bytes ≡ false)
BlobUnit (Some b) bytes rest = PairSpells b bytes rest

pub blob_unit_stands : (u : Option ℕ) (bytes rest : List ℕ) → blob_unit_at bytes ≡ Ok (u, rest) → BlobUnit u bytes rest
unfolding blob_unit_at
blob_unit_stands u bytes rest e = by_test u (begins is_hexadecimal bytes) refl e
  where
    by_test : (u : Option ℕ) (t : Bool) → begins is_hexadecimal bytes ≡ t → cond t (pair_at bytes) (read_ok None bytes) ≡ read_ok u rest → BlobUnit u bytes rest
    by_test None true is e = absurd (no_none bytes rest e)
    by_test (Some b) true is e = pair_stands b bytes rest e
    by_test None false is e = ((gives {A = Option ℕ} None None bytes rest e).1, is)
    by_test (Some b) false is e = absurd (none_found b (gives None (found b) bytes rest e).0)

pub blob_stands : (count : ℕ) (blob bytes rest : List ℕ) → units_at forms.Hexadecimal count bytes ≡ Ok (blob, rest) → BlobSpells blob bytes rest
unfolding units_at
blob_stands zero blob bytes rest e = absurd cc
blob_stands (suc count) blob bytes rest e =
    let unit = bind_gave (blob_unit_at bytes) (λ u. unit_then u.0 u.1 (units_at forms.Hexadecimal count u.1)) (blob, rest) e in
    by_unit unit.0.0 unit.0.1 blob (blob_unit_stands unit.0.0 bytes unit.0.1 unit.1) (λ others next after is. blob_stands count others next after is) unit.2
  where
    by_unit : (u : Option ℕ) (next blob : List ℕ) → BlobUnit u bytes next
        → ((others next after : List ℕ) → units_at forms.Hexadecimal count next ≡ Ok (others, after) → BlobSpells others next after)
        → unit_then u next (units_at forms.Hexadecimal count next) ≡ Ok (blob, rest) → BlobSpells blob bytes rest
    by_unit None next blob is deeper e =
        let same = gives [] blob next rest e in
        let all = is.0 ∙ same.1 in
        subst (λ (t : List ℕ). BlobSpells t bytes rest) same.0 (spelling.ends_blob (subst (λ (r : List ℕ). begins is_hexadecimal r ≡ false) all is.1) all)
    by_unit (Some b) next blob is deeper e =
        let others = bind_gave (units_at forms.Hexadecimal count next) (λ o. Ok (b ∷ o.0, o.1)) (blob, rest) e in
        let same = gives (b ∷ others.0.0) blob others.0.1 rest others.2 in
        subst (λ (t : List ℕ). BlobSpells t bytes rest) same.0
        (spelling.more_blob is (deeper others.0.0 next rest (others.1 ∙ ap (read_ok others.0.0) same.1)))

-- ---- what is spelled is read

pub pair_shorter : (b : ℕ) (bytes rest : List ℕ) → PairSpells b bytes rest → length rest + 2 ≡ length bytes
pair_shorter b bytes rest p = rw p.text (omega arith)

pub unit_shorter : (b : ℕ) (bytes rest : List ℕ) → UnitSpells b bytes rest → length rest < length bytes
unit_shorter b bytes rest (plain is text) = rw text (omega arith)
unit_shorter b bytes rest (marked is text) = rw text (omega arith)
unit_shorter b bytes rest (digits inside text pair) = let two = pair_shorter b inside rest pair in rw text (omega arith)

pub text_is_read : (count : ℕ) {text bytes rest : List ℕ} → TextSpells text bytes rest → length bytes < count → units_at forms.Quoted count bytes ≡ Ok (text, rest)
unfolding units_at
text_is_read zero t short = absurd (omega arith)
text_is_read (suc count) {rest = rest} (spelling.ends_text {bytes = bytes} is) short = rw (quote_is_read bytes rest is) refl
text_is_read (suc count) {rest = rest} (spelling.more_text {b = b} {text = text} {bytes = bytes} {next = next} unit others) short =
    let shorter = unit_shorter b bytes next unit in
    rw (unit_is_read b bytes next unit, text_is_read count others (omega arith)) refl

pub blob_is_read : (count : ℕ) {blob bytes rest : List ℕ} → BlobSpells blob bytes rest → length bytes < count → units_at forms.Hexadecimal count bytes ≡ Ok (blob, rest)
unfolding units_at blob_unit_at
blob_is_read zero t short = absurd (omega arith)
blob_is_read (suc count) {rest = rest} (spelling.ends_blob {bytes = bytes} other is) short =
    let none : begins is_hexadecimal bytes ≡ false = subst (λ (r : List ℕ). begins is_hexadecimal r ≡ false) (sym is) other in
    rw none (ap (read_ok []) is)
blob_is_read (suc count) {rest = rest} (spelling.more_blob {b = b} {blob = blob} {bytes = bytes} {next = next} pair others) short =
    let shorter = pair_shorter b bytes next pair in
    rw (starts pair, pair_is_read b bytes next pair, blob_is_read count others (omega arith)) refl
  where
    starts : PairSpells b bytes next → begins is_hexadecimal bytes ≡ true
    starts pair = rw pair.text pair.high_digit

-- ---- lengths

pub text_length : {text bytes rest : List ℕ} → TextSpells text bytes rest → length text + length rest < length bytes
text_length (spelling.ends_text is) = rw is (omega arith)
text_length {rest = rest} (spelling.more_text {b = b} {text = text} {bytes = bytes} {next = next} unit others) =
    let shorter = unit_shorter b bytes next unit in
    let deeper = text_length others in
    omega arith

pub blob_length : {blob bytes rest : List ℕ} → BlobSpells blob bytes rest → 2 * length blob + length rest ≡ length bytes
blob_length (spelling.ends_blob other is) = rw is (omega arith)
blob_length {rest = rest} (spelling.more_blob {b = b} {blob = blob} {bytes = bytes} {next = next} pair others) =
    let shorter = pair_shorter b bytes next pair in
    let deeper = blob_length others in
    omega arith
