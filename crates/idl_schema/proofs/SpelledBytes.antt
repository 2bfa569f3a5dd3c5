-- A text of bytes spells bytes.
use Rattle.std.proofs.Common.{◌≡◌, ◌<◌, ◌+◌, ◌*◌, ◌-◌, ◌==◌, ℕ, Bool, true, false, cond, List, [], get_or, sym, subst, arith}
use Rattle.std.proofs.lemmas.Bool.Decides.{nat_tests}
use Rattle.std.proofs.lemmas.List.Elements.{All-take, All-drop, All-from_get_or, All-from_recursion, recursion_from_All}
use Rattle.std.specs.Char.{digit_value}
use Rattle.std.specs.List.{AllByRecursion}
use Rattle.std.specs.Prelude.{slice_range, nat_lt}
use Rattle.idl_lex.specs.Bytes.{escaped}
use Rattle.idl_lex.specs.Meanings.{plain_text}
use Rattle.idl_lex.specs.Texts.{UnitSpells, UnitsSpell, TextSpells, IsTextPrefix}
use Rattle.idl_lex.specs.Texts.UnitSpells.{plain, short, hex}
use Rattle.idl_lex.specs.Texts.UnitsSpell.{none, more}
use Rattle.idl_lex.specs.declared.span.Span.{Span}
use Rattle.idl_lex.proofs.CallerLemmas.{text_read}
use Rattle.idl_scene.specs.Items.{word}
use Rattle.idl_schema.specs.Faultless.{AreBytes}

abbrev Each : List ℕ → Type 0
Each bytes = AllByRecursion (λ b. b < 256) bytes

by_test : (test : Bool) (a b : ℕ) → a < 256 → b < 256 → cond test a b < 256
by_test true a b is_a is_b = is_a
by_test false a b is_a is_b = is_b

escaped_small : (b : ℕ) → b < 256 → escaped b < 256
escaped_small b is = by_test (b == 110) 10 _ (omega arith) (by_test (b == 116) 9 b (omega arith) is)

digits_small : (high low : ℕ) → nat_lt high 16 ≡ true → nat_lt low 16 ≡ true → (0 * 16 + high) * 16 + low < 256
digits_small high low is_high is_low = grind (arith, nat_tests)

-- the byte that a unit of bytes spells, and the bytes after it
unit_bytes : {byte : ℕ} {bytes rest : List ℕ} → UnitSpells byte bytes rest → Each bytes → (byte < 256) × Each rest
unit_bytes (plain is) are = are
unit_bytes (short {c = c} backslash is) are = (escaped_small c are.1.0, are.1.1)
unit_bytes (hex {h = h} {l = l} backslash x high low) are = (digits_small (digit_value h) (digit_value l) high low, are.1.1.1.1)

units_bytes : {spelled bytes rest : List ℕ} → UnitsSpell spelled bytes rest → Each bytes → Each spelled
units_bytes none are = tt
units_bytes (more first others) are = let one = unit_bytes first are in (one.0, units_bytes others one.1)

text_bytes : (spelled word : List ℕ) → TextSpells spelled word [] → Each word → Each spelled
text_bytes spelled word (inside, quote, units) are = units_bytes units (subst Each quote are).1

slice_bytes : (bytes : List ℕ) (start end : ℕ) → AreBytes bytes → AreBytes (slice_range bytes start end)
slice_bytes bytes start end are = All-take (λ b. b < 256) (end - start) _ (All-drop (λ b. b < 256) start bytes are)

-- the bytes of a slice
pub slice_of_bytes : (text : List ℕ) → ((i : ℕ) → get_or text i 0 < 256) → AreBytes text
slice_of_bytes text fits = All-from_get_or (λ b. b < 256) text 0 (λ i within. fits i)

pub spelled_bytes : (text : List ℕ) (span : Span) → IsTextPrefix (word text span) [] → AreBytes text → AreBytes (plain_text (word text span))
spelled_bytes text span (spelled, is) are =
    let w = word text span in
    let whole = recursion_from_All (λ b. b < 256) w (slice_bytes text span.start span.end are) in
    subst AreBytes (sym (text_read spelled w is)) (All-from_recursion (λ b. b < 256) spelled (text_bytes spelled w is whole))
