-- What is read of a text is what it spells.
use Rattle.std.proofs.Common.{◌≡◌, ℕ, ◌+◌, ◌*◌, true, List, [], ◌∷◌, Option, Some, None, Result, Ok, Err, refl, sym, ap, subst, ◌∙◌}
use Rattle.std.specs.Char.{digit_value}
use Rattle.hex_text.specs.HexText.{is_hexadecimal, HexSpells, nothing, blank, pair}
use Rattle.hex_text.specs.HexSteps.{part_of, waits, later, with_byte, goes_on, read_of}
use Rattle.hex_text.specs.declared.part.Part.{Part}
use Rattle.hex_text.specs.declared.part.Part.TheVariants.{Blank, High, Byte}
use Rattle.hex_text.proofs.Parts.{blank_outside, digit_outside, digit_inside, Sees, sees_blank, sees_high, sees_byte, sees_none, sees}

abbrev pub Read : Type 0
Read = Result (List ℕ) ℕ

abbrev read : List ℕ → Read
read bytes = Ok bytes

-- a byte that is some part leads on
leads_on : (high : Option ℕ) (c : ℕ) (text : List ℕ) (t : Part) → part_of high c ≡ Some t → read_of high (c ∷ text) ≡ goes_on t (read_of (waits t) text)
leads_on high c text t is = ap (λ (o : Option Part). elim o [ None ↦ Err 0 | Some t ↦ goes_on t (read_of (waits t) text) ]) is

same_bytes : (a b : List ℕ) → read a ≡ read b → a ≡ b
same_bytes a b e = cc

later_ok : (r : Read) (bytes : List ℕ) → later r ≡ read bytes → r ≡ read bytes
later_ok (Ok own) bytes e = e
later_ok (Err at) bytes e = absurd cc

-- the second digit of a pair, and what stands after it
record Finishes (high : ℕ) (bytes text : List ℕ) : Type 0 where
  low : ℕ
  rest : List ℕ
  left : List ℕ
  text_is : text ≡ low ∷ rest
  digit : is_hexadecimal low ≡ true
  bytes_are : bytes ≡ (16 * high + digit_value low) ∷ left
  spells : HexSpells left rest

abbrev Spelt : Option ℕ → List ℕ → List ℕ → Type 0
Spelt None bytes text = HexSpells bytes text
Spelt (Some high) bytes text = Finishes high bytes text

finished : (c : ℕ) (bytes text : List ℕ) → is_hexadecimal c ≡ true → Finishes (digit_value c) bytes text → HexSpells bytes (c ∷ text)
finished c bytes text is f =
    subst (λ (t : List ℕ). HexSpells bytes (c ∷ t)) (sym f.text_is)
    (subst (λ (b : List ℕ). HexSpells b (c ∷ f.low ∷ f.rest)) (sym f.bytes_are) (pair is f.digit refl f.spells))

begun : (high c : ℕ) (bytes text : List ℕ) (r : Read) → is_hexadecimal c ≡ true → with_byte (16 * high + digit_value c) r ≡ read bytes → ((left : List ℕ) → r ≡ read left → HexSpells left text) → Finishes high bytes (c ∷ text)
begun high c bytes text (Ok left) is e rest =
    record { low = c; rest = text; left = left; text_is = refl; digit = is; bytes_are = sym (same_bytes _ bytes e); spells = rest left refl }
begun high c bytes text (Err at) is e rest = absurd cc

spelt : (high : Option ℕ) (text bytes : List ℕ) → read_of high text ≡ read bytes → Spelt high bytes text
spelt None [] bytes e = subst (λ (b : List ℕ). HexSpells b []) (same_bytes [] bytes e) nothing
spelt (Some high) [] bytes e = absurd cc
spelt high (c ∷ text) bytes e = by_part high (part_of high c) (sees high c) e (λ t left. spelt (waits t) text left)
  where
    by_part : (high : Option ℕ) (o : Option Part) → Sees high c o → elim o [ None ↦ Err 0 | Some t ↦ goes_on t (read_of (waits t) text) ] ≡ read bytes
        → ((t : Part) (left : List ℕ) → read_of (waits t) text ≡ read left → Spelt (waits t) left text) → Spelt high bytes (c ∷ text)
    by_part high o (sees_blank is) e rest = blank is (rest Blank bytes (later_ok (read_of None text) bytes e))
    by_part high o (sees_high is) e rest =
        finished c bytes text is (rest (High (digit_value c)) bytes (later_ok (read_of (Some (digit_value c)) text) bytes e))
    by_part high o (sees_byte {high = own} is) e rest =
        begun own c bytes text (read_of None text) is e (rest (Byte (16 * own + digit_value c)))
    by_part high o sees_none e rest = absurd cc

pub read_spells : (text bytes : List ℕ) → read_of None text ≡ Ok bytes → HexSpells bytes text
read_spells text bytes e = spelt None text bytes e

pub spelt_is_read : (bytes text : List ℕ) → HexSpells bytes text → read_of None text ≡ Ok bytes
spelt_is_read bytes text nothing = refl
spelt_is_read bytes text (blank {c = c} {text = rest} is spells) = leads_on None c rest Blank (blank_outside c is) ∙ ap later (spelt_is_read bytes rest spells)
spelt_is_read bytes text (pair {byte = byte} {high = high} {low = low} {bytes = left} {text = rest} first second value spells) =
    leads_on None high (low ∷ rest) (High (digit_value high)) (digit_outside high first)
    ∙ ap later (leads_on (Some (digit_value high)) low rest (Byte (16 * digit_value high + digit_value low)) (digit_inside (digit_value high) low second))
    ∙ ap (λ (r : Read). later (with_byte (16 * digit_value high + digit_value low) r)) (spelt_is_read left rest spells)
    ∙ ap (λ (b : ℕ). read (b ∷ left)) (sym value)

pub one_spelling : (text a b : List ℕ) → HexSpells a text → HexSpells b text → a ≡ b
one_spelling text a b first second = same_bytes a b (sym (spelt_is_read a text first) ∙ spelt_is_read b text second)
