-- Blobs in which reading gets stuck.
use Rattle.std.proofs.Common.{◌≡◌, ◌<◌, ◌+◌, ℕ, zero, suc, Bool, true, false, cond, Option, Some, None, List, [], ◌∷◌, length, Ok, Err, refl, sym, ap, ◌∙◌, arith}
use Rattle.facts.specs.ResultSteps.{◌>>=◌}
use Rattle.idl_lex.specs.Bytes.{begins}
use Rattle.value_text.specs.Answers.{IsEnd}
use Rattle.value_text.specs.ReadSteps.{blob_at, byte_at, pair_at, blob_unit_at, unit_then, units_at}
use Rattle.value_text.specs.Spelling.{is_hexadecimal, PairSpells, is_marked, is_plain, UnitSpells, plain, marked, digits, TextSpells, BlobSpells}
use Rattle.value_text.specs.Spelling as spelling
use Rattle.value_text.specs.declared.cursor.Form.TheVariants as forms
use Rattle.value_text.specs.declared.value_fault.ValueWhy.{ValueWhy}
use Rattle.value_text.proofs.PrintedTexts.{no_digit}
use Rattle.value_text.proofs.Signs.{byte_stands, read_ok, false_is_not_true}
use Rattle.value_text.proofs.TextLaws.{pair_shorter, BlobUnit, blob_unit_stands}
use Rattle.tars_model.specs.declared.value.Value.TheVariants as values
use Rattle.value_text.proofs.Stopping.Languages.{Either, this, that, stuck_in_other, word_passes, Language, Stuck, Filled, Then, Word, stuck_in_first, stuck_after, stuck_as}
use Rattle.value_text.proofs.Stopping.Units.{PairText, pair_passes, stuck_in_pair}
use Rattle.value_text.proofs.Stopping.Signs.{byte_refused, stuck_at_sign, others_stop, stop, Stops, before, after, step_stops}

abbrev pub Blobs : Language
Blobs bytes rest = (s : List ℕ) × BlobSpells s bytes rest

-- no digit follows
abbrev BlobEnd : Language
BlobEnd bytes rest = (begins is_hexadecimal rest ≡ false) × (bytes ≡ rest)

-- the end of a blob, or a pair of digits and those after it
abbrev BlobParts : Language
BlobParts = Either BlobEnd (Then PairText Blobs)

blob_whole : (bytes rest : List ℕ) → BlobParts bytes rest → Blobs bytes rest
blob_whole bytes rest (this e) = ([], spelling.ends_blob e.0 e.1)
blob_whole bytes rest (that t) = (t.first.0 ∷ t.second.0, spelling.more_blob t.first.1 t.second.1)

blob_parts : {s bytes rest : List ℕ} → BlobSpells s bytes rest → BlobParts bytes rest
blob_parts (spelling.ends_blob end is) = this (end, is)
blob_parts (spelling.more_blob {b = b} {blob = s} {next = next} pair others) = that (record { between = next; first = (b, pair); second = (s, others) })

blobs_filled : Filled IsEnd Blobs
blobs_filled = record { filling = []; fills = λ tail ends. ([], spelling.ends_blob (no_digit tail ends) refl) }

-- it goes on in a pair of digits
blob_goes_on : (bytes left : List ℕ) → begins is_hexadecimal bytes ≡ true → Stuck IsEnd (Then PairText Blobs) bytes left → Stuck IsEnd Blobs bytes left
blob_goes_on bytes left digit s =
    stuck_as BlobParts Blobs (λ tail ends. ends) blob_whole (λ b r t. blob_parts t.1)
    (stuck_in_other BlobEnd (Then PairText Blobs) is_hexadecimal (λ b r end same. false_is_not_true (sym end.0 ∙ ap (begins is_hexadecimal) (sym end.1) ∙ same ∙ digit)) s)

-- a digit stands there, and the pair of it stops
pair_stops : (bytes left : List ℕ) (why : ValueWhy) → blob_unit_at bytes ≡ Err (stop left why) → (begins is_hexadecimal bytes ≡ true) × (pair_at bytes ≡ Err (stop left why))
unfolding blob_unit_at
pair_stops bytes left why e = by_test (begins is_hexadecimal bytes) e
  where
    by_test : (t : Bool) → cond t (pair_at bytes) (read_ok None bytes) ≡ Err (stop left why) → (t ≡ true) × (pair_at bytes ≡ Err (stop left why))
    by_test true e = (refl, e)
    by_test false e = absurd cc

stuck_in_pairs : (count : ℕ) (bytes left : List ℕ) (why : ValueWhy) → length bytes < count → units_at forms.Hexadecimal count bytes ≡ Err (stop left why) → Stuck IsEnd Blobs bytes left
unfolding units_at
stuck_in_pairs zero bytes left why few e = absurd (omega arith)
stuck_in_pairs (suc count) bytes left why few e =
    by_step (step_stops (blob_unit_at bytes) (λ u. unit_then u.0 u.1 (units_at forms.Hexadecimal count u.1)) (stop left why) e) (λ next fewer. stuck_in_pairs count next left why fewer)
  where
    Deeper : Type 0
    Deeper = (next : List ℕ) → length next < count → units_at forms.Hexadecimal count next ≡ Err (stop left why) → Stuck IsEnd Blobs next left

    by_unit : (u : Option ℕ) (next : List ℕ) → BlobUnit u bytes next → Deeper → unit_then u next (units_at forms.Hexadecimal count next) ≡ Err (stop left why) → Stuck IsEnd Blobs bytes left
    by_unit None next is deeper e = absurd cc
    by_unit (Some b) next is deeper e =
        let shorter = pair_shorter b bytes next is in
        blob_goes_on bytes left (ap (begins is_hexadecimal) is.text ∙ is.high_digit)
        (stuck_after PairText Blobs (pair_passes b bytes next is) (deeper next (omega arith) (others_stop (units_at forms.Hexadecimal count next) (λ o. b ∷ o) left why e)))

    by_step : Stops (blob_unit_at bytes) (λ u. unit_then u.0 u.1 (units_at forms.Hexadecimal count u.1)) (stop left why) → Deeper → Stuck IsEnd Blobs bytes left
    by_step (before e) deeper = let pair = pair_stops bytes left why e in blob_goes_on bytes left pair.0 (stuck_in_first PairText Blobs blobs_filled (λ tail ends. tt) (stuck_in_pair bytes left why pair.1))
    by_step (after u is e) deeper = by_unit u.0 u.1 (blob_unit_stands u.0 bytes u.1 is) deeper e

pub stuck_in_blob : (bytes left : List ℕ) (why : ValueWhy) → blob_at bytes ≡ Err (stop left why) → Stuck IsEnd (Then (Word (35 ∷ [])) Blobs) bytes left
unfolding blob_at
stuck_in_blob bytes left why e = by_mark (step_stops (byte_at 35 bytes) (λ inside. units_at forms.Hexadecimal (length inside + 1) inside >>= λ s. read_ok (values.Blob s.0) s.1) (stop left why) e)
  where
    by_pairs : (inside : List ℕ) → byte_at 35 bytes ≡ Ok inside → Stops (units_at forms.Hexadecimal (length inside + 1) inside) (λ s. read_ok (values.Blob s.0) s.1) (stop left why) → Stuck IsEnd (Then (Word (35 ∷ [])) Blobs) bytes left
    by_pairs inside is (before e) = stuck_after (Word (35 ∷ [])) Blobs (word_passes (35 ∷ []) bytes inside (byte_stands 35 bytes inside is)) (stuck_in_pairs (length inside + 1) inside left why (omega arith) e)
    by_pairs inside is (after s read e) = absurd cc

    by_mark : Stops (byte_at 35 bytes) (λ inside. units_at forms.Hexadecimal (length inside + 1) inside >>= λ s. read_ok (values.Blob s.0) s.1) (stop left why) → Stuck IsEnd (Then (Word (35 ∷ [])) Blobs) bytes left
    by_mark (before e) = stuck_in_first (Word (35 ∷ [])) Blobs blobs_filled (λ tail ends. tt) (stuck_at_sign 35 bytes left (byte_refused 35 bytes left why e))
    by_mark (after inside is e) = by_pairs inside is (step_stops (units_at forms.Hexadecimal (length inside + 1) inside) (λ s. read_ok (values.Blob s.0) s.1) (stop left why) e)
