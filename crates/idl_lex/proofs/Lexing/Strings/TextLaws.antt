-- Texts: the walk from the quote on is the only one.
use Rattle.std.proofs.Common.{◌≡◌, ℕ, ◌<◌, true, false, cond, eqb, ◌||◌, List, [], ◌∷◌, ◌++◌, length, take, drop, Result, Ok, Err, refl, sym, ap, ◌∙◌, subst, inl, inr, arith, append_assoc}
use Rattle.std.proofs.lemmas.Bool.{cases_Bool, eqb-true, or_parts, not-true}
use Rattle.std.specs.Char.{is_digit}
use Rattle.idl_lex.specs.declared.texts.Stop.{Stop}
use Rattle.idl_lex.specs.declared.texts.Stop.TheVariants.{Quote, Cut, Spoilt}
use Rattle.std.specs.Str.Parse.{digits_value}
use Rattle.idl_lex.specs.Bytes.{begins, is_feed, is_quote, is_backslash, is_plain, is_escaped, escaped, IsCutOff}
use Rattle.idl_lex.specs.Texts.{UnitSpells, UnitsSpell, TextSpells, IsCut, IsSpoilt}
use Rattle.idl_lex.specs.Texts.UnitSpells.{plain, short, hex}
use Rattle.idl_lex.specs.Texts.UnitsSpell.{none, more}
use Rattle.idl_lex.specs.Texts.IsCut.{here, after_backslash, after_x, after_digit}
use Rattle.idl_lex.specs.LexSteps.{spoilt_by, digit_at, and_then, escape_at, unit_at}

-- ---- what stands at the start is found

pub plain_tests : (b : ℕ) → is_plain b ≡ true → (eqb b 34 ≡ false) × (eqb b 92 ≡ false) × (is_feed b ≡ false)
plain_tests b p =
    let parts = or_parts (eqb b 34 || eqb b 92) (eqb b 10) (not-true _ p) in
    let both = or_parts (eqb b 34) (eqb b 92) parts.0 in
    (both.0, both.1, parts.1)

pub unit_found : {byte : ℕ} {bytes rest : List ℕ} → UnitSpells byte bytes rest → unit_at bytes ≡ Ok rest
unfolding unit_at escape_at digit_at
unit_found (plain {b = b} p) = let tests = plain_tests b p in rw (tests.0, tests.1, tests.2) refl
unit_found (short backslash c) = rw (backslash, c) refl
unit_found (hex backslash x h l) = rw (backslash, x, h, l) refl

-- a line feed or the end, after a backslash or at a digit
escape_cut : (rest : List ℕ) → IsCutOff rest → escape_at rest ≡ Err Cut
unfolding escape_at
escape_cut [] off = refl
escape_cut (b ∷ rest) (inl nil) = absurd (cc)
escape_cut (b ∷ rest) (inr feed) = rw (eqb-true b 10 feed) refl

digit_cut : (rest : List ℕ) → IsCutOff rest → digit_at rest ≡ Err Cut
unfolding digit_at
digit_cut [] off = refl
digit_cut (b ∷ rest) (inl nil) = absurd (cc)
digit_cut (b ∷ rest) (inr feed) = rw (eqb-true b 10 feed) refl

cut_here : (bytes : List ℕ) → IsCutOff bytes → unit_at bytes ≡ Err Cut
unfolding unit_at
cut_here [] off = refl
cut_here (b ∷ rest) (inl nil) = absurd (cc)
cut_here (b ∷ rest) (inr feed) = rw (eqb-true b 10 feed) refl

cut_found : {bytes : List ℕ} → IsCut bytes → unit_at bytes ≡ Err Cut
unfolding unit_at escape_at digit_at
cut_found (here {bytes = bytes} off) = cut_here bytes off
cut_found (after_backslash {rest = rest} backslash off) = rw backslash (escape_cut rest off)
cut_found (after_x {rest = rest} backslash x off) = rw (backslash, x) (ap (λ (r : Result (List ℕ) Stop). and_then r digit_at) (digit_cut rest off))
cut_found (after_digit {rest = rest} backslash x h off) = rw (backslash, x, h) (digit_cut rest off)

-- ---- what is found stands at the start

-- what each outcome says of the bytes
abbrev Shape : Result (List ℕ) Stop → List ℕ → Type 0
Shape (Ok rest) bytes = (byte : ℕ) × UnitSpells byte bytes rest
Shape (Err Quote) bytes = bytes ≡ 34 ∷ drop 1 bytes
Shape (Err Cut) bytes = IsCut bytes
Shape (Err Spoilt) bytes = begins is_backslash bytes ≡ true

-- a byte that ends an escape before its time
spoilt_shape : (c : ℕ) (bytes : List ℕ) → begins is_backslash bytes ≡ true → (is_feed c ≡ true → IsCut bytes) → Shape (Err (spoilt_by c)) bytes
spoilt_shape c bytes backslash cut =
    elim (cases_Bool (is_feed c)) [
      | inl feed ↦ rw feed (cut feed)
      | inr other ↦ rw other backslash
    ]

last_shape : (h : ℕ) (rest : List ℕ) → is_digit h 16 ≡ true → Shape (digit_at rest) (92 ∷ 120 ∷ h ∷ rest)
unfolding digit_at
last_shape h [] digit = after_digit refl refl digit (inl refl)
last_shape h (l ∷ rest) digit =
    elim (cases_Bool (is_digit l 16)) [
      | inl last ↦ rw last (_, hex refl refl digit last)
      | inr other ↦ rw other (spoilt_shape l (92 ∷ 120 ∷ h ∷ l ∷ rest) refl (λ feed. after_digit refl refl digit (inr feed)))
    ]

digits_shape : (rest : List ℕ) → Shape (and_then (digit_at rest) digit_at) (92 ∷ 120 ∷ rest)
unfolding digit_at
digits_shape [] = after_x refl refl (inl refl)
digits_shape (h ∷ rest) =
    elim (cases_Bool (is_digit h 16)) [
      | inl digit ↦ rw digit (last_shape h rest digit)
      | inr other ↦ rw other (spoilt_shape h (92 ∷ 120 ∷ h ∷ rest) refl (λ feed. after_x refl refl (inr feed)))
    ]

escape_shape : (rest : List ℕ) → Shape (escape_at rest) (92 ∷ rest)
unfolding escape_at
escape_shape [] = after_backslash refl (inl refl)
escape_shape (c ∷ rest) =
    elim (cases_Bool (is_escaped c)) [
      | inl is ↦ rw is (_, short {c = c} refl is)
      | inr other ↦
          elim (cases_Bool (eqb c 120)) [
            | inl x ↦ rw (other, x) (subst (λ (d : ℕ). Shape (and_then (digit_at rest) digit_at) (92 ∷ d ∷ rest)) (sym (eqb-true c 120 x)) (digits_shape rest))
            | inr no_x ↦ rw (other, no_x) (spoilt_shape c (92 ∷ c ∷ rest) refl (λ feed. after_backslash refl (inr feed)))
          ]
    ]

unit_shape : (bytes : List ℕ) → Shape (unit_at bytes) bytes
unfolding unit_at
unit_shape [] = here (inl refl)
unit_shape (b ∷ rest) =
    elim (cases_Bool (eqb b 34)) [
      | inl quote ↦ rw quote (ap (λ (c : ℕ). c ∷ rest) (eqb-true b 34 quote))
      | inr no_quote ↦
          elim (cases_Bool (eqb b 92)) [
            | inl backslash ↦ rw (no_quote, backslash) (subst (λ (c : ℕ). Shape (escape_at rest) (c ∷ rest)) (sym (eqb-true b 92 backslash)) (escape_shape rest))
            | inr no_backslash ↦
                elim (cases_Bool (is_feed b)) [
                  | inl feed ↦ rw (no_quote, no_backslash, feed) (here (inr feed))
                  | inr no_feed ↦ rw (no_quote, no_backslash, no_feed) (b, plain {b = b} (rw (no_quote, no_backslash, no_feed) refl))
                ]
          ]
    ]

-- the four outcomes
pub unit_is : (bytes rest : List ℕ) → unit_at bytes ≡ Ok rest → (byte : ℕ) × UnitSpells byte bytes rest
unit_is bytes rest found = subst (λ (o : Result (List ℕ) Stop). Shape o bytes) found (unit_shape bytes)

pub quote_is : (bytes : List ℕ) → unit_at bytes ≡ Err Quote → bytes ≡ 34 ∷ drop 1 bytes
quote_is bytes found = subst (λ (o : Result (List ℕ) Stop). Shape o bytes) found (unit_shape bytes)

pub cut_is : (bytes : List ℕ) → unit_at bytes ≡ Err Cut → IsCut bytes
cut_is bytes found = subst (λ (o : Result (List ℕ) Stop). Shape o bytes) found (unit_shape bytes)

pub spoilt_is : (bytes : List ℕ) → unit_at bytes ≡ Err Spoilt → IsSpoilt bytes
spoilt_is bytes found = record {
  backslash = subst (λ (o : Result (List ℕ) Stop). Shape o bytes) found (unit_shape bytes);
  whole = λ byte rest unit. cc (found, unit_found unit);
  cut = λ is. cc (found, cut_found is);
}

-- ---- the walk

pub unit_shorter : {byte : ℕ} {bytes rest : List ℕ} → UnitSpells byte bytes rest → length rest < length bytes
unit_shorter (plain p) = omega arith
unit_shorter (short b c) = omega arith
unit_shorter (hex b x h l) = omega arith

pub units_last : {byte : ℕ} {spelled bytes next rest : List ℕ} → UnitsSpell spelled bytes next → UnitSpells byte next rest → UnitsSpell (spelled ++ byte ∷ []) bytes rest
units_last none last = more last none
units_last (more first others) last = more first (units_last others last)

-- neither a byte nor an escape of a text stands there
abbrev pub IsStop : List ℕ → Type 0
IsStop bytes = (byte : ℕ) (rest : List ℕ) → UnitSpells byte bytes rest → ⊥

-- the byte that the unit at the start spells
spelled_after : List ℕ → ℕ
spelled_after [] = 0
spelled_after (c ∷ rest) = cond (eqb c 120) (digits_value 16 (take 2 rest)) (escaped c)

spelled_by : List ℕ → ℕ
spelled_by [] = 0
spelled_by (b ∷ rest) = cond (eqb b 92) (spelled_after rest) b

-- `\x` is no short escape
pub no_x : (c : ℕ) → is_escaped c ≡ true → eqb c 120 ≡ false
no_x c is =
    elim (cases_Bool (eqb c 120)) [
      | inl x ↦ absurd (cc (ap is_escaped (eqb-true c 120 x), is))
      | inr other ↦ other
    ]

unit_spells : {byte : ℕ} {bytes rest : List ℕ} → UnitSpells byte bytes rest → spelled_by bytes ≡ byte
unfolding spelled_by spelled_after
unit_spells (plain {b = b} p) = rw ((plain_tests b p).1) refl
unit_spells (short {c = c} backslash is) = rw (backslash, no_x c is) refl
unit_spells (hex backslash x h l) = rw (backslash, x) refl

-- the walk stops at one offset, and spells one thing
pub units_same : {s t bytes a b : List ℕ} → UnitsSpell s bytes a → UnitsSpell t bytes b → IsStop a → IsStop b → (a ≡ b) × (s ≡ t)
units_same none none stop_a stop_b = (refl, refl)
units_same none (more first others) stop_a stop_b = absurd (stop_a _ _ first)
units_same (more first others) none stop_a stop_b = absurd (stop_b _ _ first)
units_same {b = b} (more {byte = x} {spelled = xs} {next = m} first others) (more {byte = y} {spelled = ys} {next = n} second rest) stop_a stop_b =
    let found : ◌≡◌ {A = Result (List ℕ) Stop} (Ok m) (Ok n) = sym (unit_found first) ∙ unit_found second in
    let same : n ≡ m = cc in
    let byte = sym (unit_spells first) ∙ unit_spells second in
    let tail = units_same others (subst (λ (t : List ℕ). UnitsSpell ys t b) same rest) stop_a stop_b in
    (tail.0, ap (λ (z : ℕ). z ∷ xs) byte ∙ ap (λ (zs : List ℕ). y ∷ zs) tail.1)

pub quote_stops : (rest : List ℕ) → IsStop (34 ∷ rest)
unfolding unit_at
quote_stops rest byte next unit = absurd (cc (unit_found unit))

pub cut_stops : {bytes : List ℕ} → IsCut bytes → IsStop bytes
cut_stops cut byte next unit = cc (cut_found cut, unit_found unit)

-- a quote is neither cut nor spoilt
pub quote_no_cut : (rest : List ℕ) → IsCut (34 ∷ rest) → ⊥
unfolding unit_at
quote_no_cut rest cut = cc (cut_found cut)

-- what a walk went over, whatever follows it
pub unit_split : {byte : ℕ} {bytes rest : List ℕ} → UnitSpells byte bytes rest → (prefix : List ℕ) × (bytes ≡ prefix ++ rest) × ((other : List ℕ) → UnitSpells byte (prefix ++ other) other)
unit_split (plain {b = b} p) = (b ∷ [], refl, λ other. plain p)
unit_split (short {b = b} {c = c} e f) = (b ∷ c ∷ [], refl, λ other. short e f)
unit_split (hex {b = b} {x = x} {h = h} {l = l} e f g i) = (b ∷ x ∷ h ∷ l ∷ [], refl, λ other. hex e f g i)

pub units_split : {spelled bytes rest : List ℕ} → UnitsSpell spelled bytes rest → (prefix : List ℕ) × (bytes ≡ prefix ++ rest) × ((other : List ℕ) → UnitsSpell spelled (prefix ++ other) other)
units_split none = ([], refl, λ other. none)
units_split {spelled = spelled} {rest = rest} (more first others) =
    let one = unit_split first in
    let all = units_split others in (
      one.0 ++ all.0,
      one.1 ∙ ap (λ (t : List ℕ). one.0 ++ t) all.1 ∙ sym (append_assoc one.0 all.0 rest),
      λ other. subst (λ (t : List ℕ). UnitsSpell spelled t other) (sym (append_assoc one.0 all.0 other)) (more (one.2 (all.0 ++ other)) (all.2 other)),
    )

pub quote_prefix : (bytes : List ℕ) → begins is_quote bytes ≡ true → bytes ≡ 34 ∷ drop 1 bytes
quote_prefix [] quote = absurd (cc)
quote_prefix (b ∷ rest) quote = ap (λ (c : ℕ). c ∷ rest) (eqb-true b 34 quote)

-- ---- a text spells one thing

tails : {a b : ℕ} {x y : List ℕ} → a ∷ x ≡ b ∷ y → x ≡ y
tails e = cc

pub one_spelling : (a b bytes r s : List ℕ) → TextSpells a bytes r → TextSpells b bytes s → (a ≡ b) × (r ≡ s)
one_spelling a b bytes r s first second =
    let same : second.0 ≡ first.0 = tails (sym second.1 ∙ first.1) in
    let both = units_same first.2 (subst (λ (t : List ℕ). UnitsSpell b t (34 ∷ s)) same second.2) (quote_stops r) (quote_stops s) in
    (both.1, tails both.0)
