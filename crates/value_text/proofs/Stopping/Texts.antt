-- Texts and blobs in which reading gets stuck.
use Rattle.std.proofs.Common.{◌≡◌, ◌<◌, ◌+◌, ℕ, zero, suc, Bool, true, false, ◌==◌, ◌||◌, ◌&&◌, nat_le, cond, Option, Some, None, List, [], ◌∷◌, length, Ok, Err, refl, sym, ap, ◌∙◌, arith}
use Rattle.std.proofs.lemmas.Bool.Decides.{nat_tests}
use Rattle.facts.specs.ResultSteps.{◌>>=◌}
use Rattle.idl_lex.specs.Bytes.{begins}
use Rattle.value_text.specs.ReadSteps.{byte_at, text_at, unexpected, escape_at, text_unit_at, unit_then, units_at}
use Rattle.value_text.specs.Spelling.{is_hexadecimal, PairSpells, is_marked, is_plain, UnitSpells, plain, marked, digits, TextSpells, BlobSpells}
use Rattle.value_text.specs.Spelling as spelling
use Rattle.value_text.specs.declared.cursor.Form.TheVariants as forms
use Rattle.value_text.specs.declared.value_fault.ValueWhy.{ValueWhy}
use Rattle.value_text.proofs.Signs.{byte_stands, read_ok, false_is_not_true}
use Rattle.value_text.proofs.TextLaws.{unit_shorter, TextUnit, text_unit_stands}
use Rattle.tars_model.specs.declared.value.Value.TheVariants as values
use Rattle.value_text.proofs.Stopping.Languages.{Either, this, that, stuck_in_other, word_passes, Language, Anything, Stuck, Filled, Then, Word, stuck_in_first, stuck_after, stuck_as}
use Rattle.value_text.proofs.Stopping.Units.{UnitText, unit_begins, unit_passes, stuck_in_unit}
use Rattle.value_text.proofs.Stopping.Signs.{byte_refused, stuck_at_sign, others_stop, stop, Stops, before, after, step_stops}

abbrev pub Texts : Language
Texts bytes rest = (s : List ℕ) × TextSpells s bytes rest

-- the quote that ends a text, or a unit and those after it
abbrev TextParts : Language
TextParts = Either (Word (34 ∷ [])) (Then UnitText Texts)

text_whole : (bytes rest : List ℕ) → TextParts bytes rest → Texts bytes rest
text_whole bytes rest (this is) = ([], spelling.ends_text is)
text_whole bytes rest (that t) = (t.first.0 ∷ t.second.0, spelling.more_text t.first.1 t.second.1)

text_parts : {s bytes rest : List ℕ} → TextSpells s bytes rest → TextParts bytes rest
text_parts (spelling.ends_text is) = this is
text_parts (spelling.more_text {b = b} {text = s} {next = next} unit others) = that (record { between = next; first = (b, unit); second = (s, others) })

texts_filled : Filled Anything Texts
texts_filled = record { filling = 34 ∷ []; fills = λ tail any. ([], spelling.ends_text refl) }

-- it goes on in a unit, which no quote begins
text_goes_on : (bytes left : List ℕ) → begins (λ b. b == 34) bytes ≡ false → Stuck Anything (Then UnitText Texts) bytes left → Stuck Anything Texts bytes left
text_goes_on bytes left no_quote s =
    stuck_as TextParts Texts (λ tail any. tt) text_whole (λ b r t. text_parts t.1)
    (stuck_in_other (Word (34 ∷ [])) (Then UnitText Texts) (λ b. b == 34) (λ b r is same. false_is_not_true (sym no_quote ∙ sym same ∙ ap (begins (λ b. b == 34)) is)) s)

quote_ends : (bytes left : List ℕ) (why : ValueWhy) → text_unit_at bytes ≡ Err (stop left why) → begins (λ b. b == 34) bytes ≡ false
unfolding text_unit_at
quote_ends [] left why e = refl
quote_ends (b ∷ bytes) left why e = by_test (b == 34) e
  where
    by_test : (t : Bool) → cond t (read_ok None bytes) (cond (b == 92) (escape_at bytes) (cond (nat_le 32 b && nat_le b 126) (read_ok (Some b) bytes) (unexpected (b ∷ bytes)))) ≡ Err (stop left why) → t ≡ false
    by_test true e = absurd cc
    by_test false e = refl

unit_no_quote : (b : ℕ) (bytes rest : List ℕ) → UnitSpells b bytes rest → begins (λ c. c == 34) bytes ≡ false
unit_no_quote b bytes rest u = apart bytes (unit_begins b bytes rest u)
  where
    no_quote : (b : ℕ) → (is_plain b || b == 92) ≡ true → (b == 34) ≡ false
    no_quote b is = grind (arith, nat_tests)

    apart : (bytes : List ℕ) → begins (λ c. is_plain c || c == 92) bytes ≡ true → begins (λ c. c == 34) bytes ≡ false
    apart [] h = refl
    apart (b ∷ bytes) h = no_quote b h

stuck_in_units : (count : ℕ) (bytes left : List ℕ) (why : ValueWhy) → length bytes < count → units_at forms.Quoted count bytes ≡ Err (stop left why) → Stuck Anything Texts bytes left
unfolding units_at
stuck_in_units zero bytes left why few e = absurd (omega arith)
stuck_in_units (suc count) bytes left why few e =
    by_step (step_stops (text_unit_at bytes) (λ u. unit_then u.0 u.1 (units_at forms.Quoted count u.1)) (stop left why) e) (λ next fewer. stuck_in_units count next left why fewer)
  where
    Deeper : Type 0
    Deeper = (next : List ℕ) → length next < count → units_at forms.Quoted count next ≡ Err (stop left why) → Stuck Anything Texts next left

    by_unit : (u : Option ℕ) (next : List ℕ) → TextUnit u bytes next → Deeper → unit_then u next (units_at forms.Quoted count next) ≡ Err (stop left why) → Stuck Anything Texts bytes left
    by_unit None next is deeper e = absurd cc
    by_unit (Some b) next is deeper e =
        let shorter = unit_shorter b bytes next is in
        text_goes_on bytes left (unit_no_quote b bytes next is)
        (stuck_after UnitText Texts (unit_passes b bytes next is) (deeper next (omega arith) (others_stop (units_at forms.Quoted count next) (λ o. b ∷ o) left why e)))

    by_step : Stops (text_unit_at bytes) (λ u. unit_then u.0 u.1 (units_at forms.Quoted count u.1)) (stop left why) → Deeper → Stuck Anything Texts bytes left
    by_step (before e) deeper = text_goes_on bytes left (quote_ends bytes left why e) (stuck_in_first UnitText Texts texts_filled (λ tail any. tt) (stuck_in_unit bytes left why e))
    by_step (after u is e) deeper = by_unit u.0 u.1 (text_unit_stands u.0 bytes u.1 is) deeper e

pub stuck_in_text : (bytes left : List ℕ) (why : ValueWhy) → text_at bytes ≡ Err (stop left why) → Stuck Anything (Then (Word (34 ∷ [])) Texts) bytes left
unfolding text_at
stuck_in_text bytes left why e = by_quote (step_stops (byte_at 34 bytes) (λ inside. units_at forms.Quoted (length inside + 1) inside >>= λ s. read_ok (values.Text s.0) s.1) (stop left why) e)
  where
    by_units : (inside : List ℕ) → byte_at 34 bytes ≡ Ok inside → Stops (units_at forms.Quoted (length inside + 1) inside) (λ s. read_ok (values.Text s.0) s.1) (stop left why) → Stuck Anything (Then (Word (34 ∷ [])) Texts) bytes left
    by_units inside is (before e) = stuck_after (Word (34 ∷ [])) Texts (word_passes (34 ∷ []) bytes inside (byte_stands 34 bytes inside is)) (stuck_in_units (length inside + 1) inside left why (omega arith) e)
    by_units inside is (after s read e) = absurd cc

    by_quote : Stops (byte_at 34 bytes) (λ inside. units_at forms.Quoted (length inside + 1) inside >>= λ s. read_ok (values.Text s.0) s.1) (stop left why) → Stuck Anything (Then (Word (34 ∷ [])) Texts) bytes left
    by_quote (before e) = stuck_in_first (Word (34 ∷ [])) Texts texts_filled (λ tail any. tt) (stuck_at_sign 34 bytes left (byte_refused 34 bytes left why e))
    by_quote (after inside is e) = by_units inside is (step_stops (units_at forms.Quoted (length inside + 1) inside) (λ s. read_ok (values.Text s.0) s.1) (stop left why) e)
