-- Where reading stops is the fault of the text.
use Rattle.std.proofs.Common.{◌≡◌, ◌⊎◌, inl, inr, ℕ, Bool, true, false, List, [], ◌∷◌, Option, Some, None, Result, Ok, Err, refl, sym, ap, ◌∙◌, arith}
use Rattle.std.specs.List.{AllByRecursion}
use Rattle.longest_prefix.specs.Machine.{Course, taken, stopped, one_later, run, Goes, Ends, Reads}
use Rattle.longest_prefix.proofs.Verdicts.{verdict_of, fault_from_stopped, one_offset}
use Rattle.hex_text.specs.HexText.{is_hexadecimal, HexSpells, nothing, blank, pair, IsHexText, IsHexFault, HasHexFault}
use Rattle.hex_text.specs.HexSteps.{part_of, waits, goes_on, read_of}
use Rattle.hex_text.specs.declared.part.Part.{Part}
use Rattle.hex_text.specs.declared.part.Part.TheVariants.{Blank, High, Byte}
use Rattle.hex_text.proofs.Parts.{blank_outside, digit_outside, digit_inside, Sees, sees_blank, sees_high, sees_byte, sees_none, sees}
use Rattle.hex_text.proofs.Readings.{Read, read_spells, one_spelling}

-- ---- the machine

abbrev Next : Type 0
Next = Result (Option ℕ) (Unit {0})

abbrev moved : Option Part → Next
moved None = Err tt
moved (Some t) = Ok (waits t)

abbrev step : Option ℕ → ℕ → Next
step high c = moved (part_of high c)

abbrev may_end : Option ℕ → Bool
may_end None = true
may_end (Some high) = false

-- what goes on from a state
abbrev Left : Option ℕ → List ℕ → Type 0
Left None text = IsHexText text
Left (Some high) [] = ⊥
Left (Some high) (low ∷ rest) = (is_hexadecimal low ≡ true) × IsHexText rest

abbrev Any : ℕ → Type 0
Any c = Unit {0}

there : (high : Option ℕ) (c : ℕ) (text : List ℕ) → Left high (c ∷ text) → Goes Left (step high c) text
there None c text (bytes, spells) = outside text bytes spells
  where
    outside : (text bytes : List ℕ) → HexSpells bytes (c ∷ text) → Goes Left (step None c) text
    outside text bytes (blank is rest) = rw (blank_outside c is) (bytes, rest)
    outside text bytes (pair {bytes = left} first second value rest) = rw (digit_outside c first) (second, (left, rest))
there (Some high) c text (digit, rest) = rw (digit_inside high c digit) rest

back : (high : Option ℕ) (c : ℕ) (text : List ℕ) → Any c → Goes Left (step high c) text → Left high (c ∷ text)
back high c text any goes = by_part high (part_of high c) (sees high c) text goes
  where
    by_part : (high : Option ℕ) (o : Option Part) → Sees high c o → (text : List ℕ) → Goes Left (moved o) text → Left high (c ∷ text)
    by_part high o (sees_blank is) text goes = (goes.0, blank is goes.1)
    by_part high o (sees_high is) [] goes = absurd goes
    by_part high o (sees_high is) (low ∷ rest) goes = (_, pair is goes.0 refl goes.1.1)
    by_part high o (sees_byte is) text goes = (is, goes)
    by_part high o sees_none text goes = absurd goes

fill : (high : Option ℕ) → (text : List ℕ) × Left high text
fill None = ([], ([], nothing))
fill (Some high) = (48 ∷ [], (refl, ([], nothing)))

ends : (high : Option ℕ) → Ends (Left high) (may_end high)
ends None = ([], nothing)
ends (Some high) = λ none. none

reads : Reads step may_end Any Left
reads = record { there = there; back = back; fill = fill; ends = ends }

any : (text : List ℕ) → AllByRecursion Any text
any [] = tt
any (c ∷ text) = (tt, any text)

-- ---- what is read is how it goes

abbrev Way : Type 0
Way = Course (Unit {0})

abbrev way : Read → Way
way (Ok bytes) = taken
way (Err at) = stopped at tt

way_on : (t : Part) (r : Read) → way (goes_on t r) ≡ one_later (way r)
way_on Blank (Ok bytes) = refl
way_on Blank (Err at) = ap (λ (k : ℕ). stopped k tt) (omega arith)
way_on (High digit) (Ok bytes) = refl
way_on (High digit) (Err at) = ap (λ (k : ℕ). stopped k tt) (omega arith)
way_on (Byte byte) (Ok bytes) = refl
way_on (Byte byte) (Err at) = ap (λ (k : ℕ). stopped k tt) (omega arith)

runs : (high : Option ℕ) (text : List ℕ) → way (read_of high text) ≡ run step may_end tt high text
runs None [] = refl
runs (Some high) [] = refl
runs high (c ∷ text) = by_part (part_of high c) (λ t. runs (waits t) text)
  where
    by_part : (o : Option Part) → ((t : Part) → way (read_of (waits t) text) ≡ run step may_end tt (waits t) text)
        → way (elim o [ None ↦ Err 0 | Some t ↦ goes_on t (read_of (waits t) text) ])
        ≡ elim (moved o) [ Ok to ↦ one_later (run step may_end tt to text) | Err why ↦ stopped 0 why ]
    by_part None rest = refl
    by_part (Some t) rest = way_on t (read_of (waits t) text) ∙ ap (λ (w : Way). one_later w) (rest t)

-- ---- the fault

pub read_fault : (text : List ℕ) (at : ℕ) → read_of None text ≡ Err at → IsHexFault text at
read_fault text at e =
    let verdict = verdict_of step may_end tt Any Left reads None text (any text) in
    let fault = fault_from_stopped (Left None) text (run step may_end tt None text) at tt verdict (sym (runs None text) ∙ ap way e) in
    record { no_text = fault.1; place = fault.0 }

pub one_fault : (text : List ℕ) (a b : ℕ) → IsHexFault text a → IsHexFault text b → a ≡ b
one_fault text a b first second = one_offset IsHexText text a b first.place second.place

pub some_outcome : (text : List ℕ) → IsHexText text ⊎ HasHexFault text
some_outcome text = by_read (read_of None text) refl
  where
    by_read : (r : Read) → read_of None text ≡ r → IsHexText text ⊎ HasHexFault text
    by_read (Ok bytes) e = inl (bytes, read_spells text bytes e)
    by_read (Err at) e = inr (at, read_fault text at e)

-- ---- what is returned

pub all_of_fault : (text : List ℕ) (at : ℕ) → read_of None text ≡ Err at
    → IsHexFault text at × ((bytes : List ℕ) → HexSpells bytes text → ⊥) × ((other : ℕ) → IsHexFault text other → at ≡ other)
all_of_fault text at e =
    let fault = read_fault text at e in (fault, (λ bytes spells. fault.no_text (bytes, spells)), λ other also. one_fault text at other fault also)

pub all_of_bytes : (text bytes : List ℕ) → read_of None text ≡ Ok bytes
    → HexSpells bytes text × ((other : List ℕ) → HexSpells other text → bytes ≡ other) × ((at : ℕ) → IsHexFault text at → ⊥)
all_of_bytes text bytes e =
    let spells = read_spells text bytes e in (spells, (λ other also. one_spelling text bytes other spells also), λ at fault. fault.no_text (bytes, spells))
