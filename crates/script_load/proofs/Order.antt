-- The lines of a script stand at rising offsets, headers before events.
use Rattle.std.proofs.Common.{◌≡◌, ◌<◌, ◌≤◌, ◌⊎◌, inl, inr, ℕ, zero, suc, ◌+◌, Bool, true, false, ◌||◌, List, [], ◌∷◌, ◌++◌, length, Option, Some, None, slice_get, refl, sym, ap, subst, ◌∙◌, arith}
use Rattle.std.specs.List.{list_any}
use Rattle.std.proofs.lemmas.List.Folds.{list_any-append}
use Rattle.script_lines.specs.Faults.{Line, HasNoFault, is_event}
use Rattle.script_lines.specs.Forms.{Said, Says, HeaderForm, header, event, skipped}
use Rattle.script_lines.specs.Lines.{TextLine, placed}
use Rattle.script_lines.specs.Scripts.{AreRead, said_by}
use Rattle.script_lines.specs.declared.fault.ScriptWhy.TheVariants.{Order}
use Rattle.script_rules.proofs.Names.{some_is}

-- ---- items at rising offsets

module _ {X : Type 0} (at_of : X → ℕ) where
  -- each from an offset on, and after the one before it
  abbrev pub Rise : ℕ → List X → Type 0
  Rise low [] = Unit {0}
  Rise low (x ∷ xs) = (low ≤ at_of x) × Rise (at_of x + 1) xs

  rise_from : (low high : ℕ) (xs : List X) → low ≤ high → Rise high xs → Rise low xs
  rise_from low high [] le rise = tt
  rise_from low high (x ∷ xs) le rise = (omega (arith, le, rise.0), rise.1)

  rise_low : (low : ℕ) (xs : List X) (k : ℕ) (x : X) → Rise low xs → slice_get xs k ≡ Some x → low ≤ at_of x
  rise_low low [] k x rise found = absurd cc
  rise_low low (y ∷ xs) zero x rise found = subst (λ (z : X). low ≤ at_of z) (some_is found) rise.0
  rise_low low (y ∷ xs) (suc k) x rise found = omega (arith, rise.0, rise_low (at_of y + 1) xs k x rise.1 found)

  -- an item comes before the next ones
  pub rise_lt : (low : ℕ) (xs : List X) (i j : ℕ) (x y : X) → Rise low xs → i < j → slice_get xs i ≡ Some x → slice_get xs j ≡ Some y → at_of x < at_of y
  rise_lt low [] i j x y rise lt at_i at_j = absurd cc
  rise_lt low (z ∷ xs) i zero x y rise lt at_i at_j = absurd (omega (arith, lt))
  rise_lt low (z ∷ xs) zero (suc j) x y rise lt at_i at_j =
      let next = rise_low (at_of z + 1) xs j y rise.1 at_j in
      let same = ap at_of (some_is at_i) in
      omega (arith, next, same)
  rise_lt low (z ∷ xs) (suc i) (suc j) x y rise lt at_i at_j = rise_lt (at_of z + 1) xs i j x y rise.1 (omega (arith, lt)) at_i at_j

  -- two items at one offset are one
  pub one_item : (low : ℕ) (xs : List X) (i j : ℕ) (x y : X) → Rise low xs → slice_get xs i ≡ Some x → slice_get xs j ≡ Some y → at_of x ≡ at_of y → x ≡ y
  one_item low [] i j x y rise at_i at_j same = absurd cc
  one_item low (z ∷ xs) zero zero x y rise at_i at_j same = sym (some_is at_i) ∙ some_is at_j
  one_item low (z ∷ xs) zero (suc j) x y rise at_i at_j same =
      absurd (let next = rise_low (at_of z + 1) xs j y rise.1 at_j in let first = ap at_of (some_is at_i) in omega (arith, next, first, same))
  one_item low (z ∷ xs) (suc i) zero x y rise at_i at_j same =
      absurd (let next = rise_low (at_of z + 1) xs i x rise.1 at_i in let first = ap at_of (some_is at_j) in omega (arith, next, first, same))
  one_item low (z ∷ xs) (suc i) (suc j) x y rise at_i at_j same = one_item (at_of z + 1) xs i j x y rise.1 at_i at_j same

-- ---- lines

abbrev pub line_at : Line → ℕ
line_at line = line.at

pub lines_rise : (at low : ℕ) (earlier : List Line) (texts : List (List ℕ)) (lines : List Line) → low ≤ at → AreRead earlier (placed at texts) lines → Rise line_at low lines
lines_rise at low earlier [] [] le read = tt
lines_rise at low earlier [] (line ∷ lines) le read = absurd read
lines_rise at low earlier (t ∷ texts) [] le read = absurd read
lines_rise at low earlier (t ∷ texts) (line ∷ lines) le (is, says, none, more) = (
  omega (arith, is, le),
  lines_rise (at + length t + 1) (line.at + 1) (earlier ++ line ∷ []) texts lines (omega (arith, is)) more,
)

abbrev pub is_header : Said → Bool
is_header (header form) = true
is_header _ = false

any_last : (earlier : List Line) (line : Line) → (list_any (λ (l : Line). is_event l.said) earlier || is_event line.said) ≡ true
    → list_any (λ (l : Line). is_event l.said) (earlier ++ line ∷ []) ≡ true
any_last earlier line any = list_any-append (λ (l : Line). is_event l.said) earlier (line ∷ []) ∙ by_last (list_any (λ (l : Line). is_event l.said) earlier) (is_event line.said) any
  where
    by_last : (a b : Bool) → (a || b) ≡ true → (a || (b || false)) ≡ true
    by_last true b e = refl
    by_last false true e = refl
    by_last false false e = e

or_first : (a b : Bool) → a ≡ true → (a || b) ≡ true
or_first true b e = refl
or_first false b e = absurd cc

or_second : (a b : Bool) → b ≡ true → (a || b) ≡ true
or_second true b e = refl
or_second false b e = e

-- after an event no header comes
no_header : (earlier : List Line) (texts : List TextLine) (lines : List Line) → AreRead earlier texts lines → list_any (λ (l : Line). is_event l.said) earlier ≡ true
    → (k : ℕ) (line : Line) → slice_get lines k ≡ Some line → is_header line.said ≡ true → ⊥
no_header earlier [] [] read any k line found head = cc
no_header earlier (t ∷ texts) [] read any k line found head = absurd read
no_header earlier [] (l ∷ lines) read any k line found head = absurd read
no_header earlier (t ∷ texts) (l ∷ lines) (is, says, none, more) any zero line found head =
    by_said l.said says (subst (λ (x : Line). is_header x.said ≡ true) (sym (some_is found)) head)
  where
    by_said : (said : Said) → Says t.bytes said → is_header said ≡ true → ⊥
    by_said (header form) says head = none Order (form, says, any)
    by_said (event form) says head = cc
    by_said skipped says head = cc
no_header earlier (t ∷ texts) (l ∷ lines) (is, says, none, more) any (suc k) line found head =
    no_header (earlier ++ l ∷ []) texts lines more (any_last earlier l (or_first _ _ any)) k line found head

-- an event does not come before a header
not_before : (earlier : List Line) (texts : List TextLine) (lines : List Line) → AreRead earlier texts lines → (i j : ℕ) (e h : Line) → i < j
    → slice_get lines i ≡ Some e → slice_get lines j ≡ Some h → is_event e.said ≡ true → is_header h.said ≡ true → ⊥
not_before earlier texts [] read i j e h lt at_i at_j is_e is_h = cc
not_before earlier [] (l ∷ lines) read i j e h lt at_i at_j is_e is_h = absurd read
not_before earlier (t ∷ texts) (l ∷ lines) read i zero e h lt at_i at_j is_e is_h = omega (arith, lt)
not_before earlier (t ∷ texts) (l ∷ lines) (is, says, none, more) zero (suc j) e h lt at_i at_j is_e is_h =
    no_header (earlier ++ l ∷ []) texts lines more (any_last earlier l (or_second _ _ (subst (λ (x : Line). is_event x.said ≡ true) (sym (some_is at_i)) is_e))) j h at_j is_h
not_before earlier (t ∷ texts) (l ∷ lines) (is, says, none, more) (suc i) (suc j) e h lt at_i at_j is_e is_h =
    not_before (earlier ++ l ∷ []) texts lines more i j e h (omega (arith, lt)) at_i at_j is_e is_h

pub less_or_more : (i j : ℕ) → (i < j) ⊎ ((i ≡ j) ⊎ (j < i))
less_or_more zero zero = inr (inl refl)
less_or_more zero (suc j) = inl (omega arith)
less_or_more (suc i) zero = inr (inr (omega arith))
less_or_more (suc i) (suc j) = by_less (less_or_more i j)
  where
    by_less : (i < j) ⊎ ((i ≡ j) ⊎ (j < i)) → (suc i < suc j) ⊎ ((suc i ≡ suc j) ⊎ (suc j < suc i))
    by_less (inl lt) = inl (omega (arith, lt))
    by_less (inr (inl same)) = inr (inl (ap suc same))
    by_less (inr (inr gt)) = inr (inr (omega (arith, gt)))

-- a header stands at a lower offset than an event
pub header_first : (low : ℕ) (texts : List TextLine) (lines : List Line) → AreRead [] texts lines → Rise line_at low lines → (i j : ℕ) (h e : Line)
    → slice_get lines i ≡ Some h → slice_get lines j ≡ Some e → is_header h.said ≡ true → is_event e.said ≡ true → h.at < e.at
header_first low texts lines read rise i j h e at_i at_j is_h is_e = by_place (less_or_more i j)
  where
    both : (said : Said) → is_header said ≡ true → is_event said ≡ true → ⊥
    both (header form) head ev = cc
    both (event form) head ev = cc
    both skipped head ev = cc

    by_place : (i < j) ⊎ ((i ≡ j) ⊎ (j < i)) → h.at < e.at
    by_place (inl lt) = rise_lt line_at low lines i j h e rise lt at_i at_j
    by_place (inr (inl same)) =
        let one : h ≡ e = some_is (sym at_i ∙ ap (slice_get lines) same ∙ at_j) in
        absurd (both e.said (subst (λ (l : Line). is_header l.said ≡ true) one is_h) is_e)
    by_place (inr (inr gt)) = absurd (not_before [] texts lines read j i e h gt at_j at_i is_e is_h)

-- ---- what lines say

module _ {X : Type 0} (at_of : X → ℕ) (what : ℕ → Said → List X) where
  -- one thing at most, at the line's offset
  abbrev pub IsOneAt : ℕ → List X → Type 0
  IsOneAt at [] = Unit {0}
  IsOneAt at (x ∷ []) = at_of x ≡ at
  IsOneAt at (x ∷ y ∷ xs) = ⊥

  module _ (one : (at : ℕ) (said : Said) → IsOneAt at (what at said)) where
    pub items_rise : (low : ℕ) (lines : List Line) → Rise line_at low lines → Rise at_of low (said_by what lines)
    items_rise low [] rise = tt
    items_rise low (line ∷ lines) rise = by_found (what line.at line.said) (one line.at line.said) (items_rise (line.at + 1) lines rise.1)
      where
        by_found : (found : List X) → IsOneAt line.at found → Rise at_of (line.at + 1) (said_by what lines) → Rise at_of low (found ++ said_by what lines)
        by_found [] is later = rise_from at_of low (line.at + 1) (said_by what lines) (omega (arith, rise.0)) later
        by_found (x ∷ []) is later = (omega (arith, is, rise.0), subst (λ (n : ℕ). Rise at_of (n + 1) (said_by what lines)) (sym is) later)
        by_found (x ∷ y ∷ xs) is later = absurd is

    -- the line that says a thing
    pub record IsFrom (lines : List Line) (x : X) : Type 0 where
      pub place : ℕ
      pub line : Line
      pub found : slice_get lines place ≡ Some line
      pub is : what line.at line.said ≡ x ∷ []
      pub at : at_of x ≡ line.at

    next_from : (first : Line) (lines : List Line) (x : X) → IsFrom lines x → IsFrom (first ∷ lines) x
    next_from first lines x from = record { place = suc from.place; line = from.line; found = from.found; is = from.is; at = from.at }

    pub is_from : (lines : List Line) (k : ℕ) (x : X) → slice_get (said_by what lines) k ≡ Some x → IsFrom lines x
    is_from [] k x found = absurd cc
    is_from (line ∷ lines) k x found =
        by_found (what line.at line.said) refl (one line.at line.said) (λ j later. next_from line lines x (is_from lines j x later)) k found
      where
        by_found : (all : List X) → what line.at line.said ≡ all → IsOneAt line.at all
            → ((j : ℕ) → slice_get (said_by what lines) j ≡ Some x → IsFrom (line ∷ lines) x)
            → (k : ℕ) → slice_get (all ++ said_by what lines) k ≡ Some x → IsFrom (line ∷ lines) x
        by_found [] is at later k found = later k found
        by_found (y ∷ []) is at later zero found =
            let same = some_is found in
            record { place = zero; line = line; found = refl; is = is ∙ ap (λ (z : X). z ∷ []) same; at = ap at_of (sym same) ∙ at }
        by_found (y ∷ []) is at later (suc k) found = later k found
        by_found (y ∷ z ∷ xs) is at later k found = absurd at
