-- A script has few events, and its queue holds a request.
use Rattle.std.proofs.Common.{◌≡◌, ◌≤◌, ℕ, suc, ◌+◌, Bool, true, false, cond, ◌&&◌, ◌==◌, nat_le, List, [], ◌∷◌, ◌++◌, length, Option, Some, None, refl, sym, ap, subst, arith, lit≤, leb-true}
use Rattle.std.specs.List.{All, onto_first}
use Rattle.std.specs.Str.Parse.{digits_value}
use Rattle.std.proofs.lemmas.Bool.{and_parts}
use Rattle.std.proofs.lemmas.List.Elements.{All-cons, All-nil}
use Rattle.facts.specs.OptionSteps.{◌>>=◌}
use Rattle.script_lines.specs.Faults.{Line}
use Rattle.script_lines.specs.Forms.{Said, Says, header, event, skipped}
use Rattle.script_lines.specs.Forms as form
use Rattle.script_lines.specs.Lines.{TextLine, lines_of, placed, text_lines}
use Rattle.script_lines.specs.Meanings.{Queue, queue_meant}
use Rattle.script_lines.specs.Numbers.{is_natural, within}
use Rattle.script_lines.specs.Scripts.{Script, IsScript, EventLine, AreRead, said_by, events, queues, one_of}
use Rattle.script_lines.specs.TextLimits.{MAX_LINE, MAX_CAPACITY, MAX_TIME}
use Rattle.script_rules.proofs.Names.{some_is, all_at}
use Rattle.script_rules.proofs.ScriptRules.{each_said}
use Rattle.script_load.specs.Sessions.{capacity_of}
use Rattle.script_load.proofs.Order.{IsOneAt}
use Rattle.script_load.proofs.ScriptOrder.{event_at, one_event}

-- ---- how many lines there are

more_lines : (c : ℕ) (lines : List (List ℕ)) → length (onto_first c lines) ≤ suc (length lines)
more_lines c [] = lit≤ tt
more_lines c (line ∷ lines) = omega arith

few_lines : (text : List ℕ) → length (lines_of text) ≤ length text
few_lines [] = lit≤ tt
few_lines (c ∷ cs) = by_feed (c == 10) (few_lines cs)
  where
    by_feed : (b : Bool) → length (lines_of cs) ≤ length cs → length (cond b ([] ∷ lines_of cs) (onto_first c (lines_of cs))) ≤ suc (length cs)
    by_feed true few = omega (arith, few)
    by_feed false few = let more = more_lines c (lines_of cs) in omega (arith, few, more)

as_placed : (at : ℕ) (lines : List (List ℕ)) → length (placed at lines) ≡ length lines
as_placed at [] = refl
as_placed at (line ∷ lines) = ap suc (as_placed (at + length line + 1) lines)

as_read : (earlier : List Line) (texts : List TextLine) (lines : List Line) → AreRead earlier texts lines → length lines ≡ length texts
as_read earlier [] [] read = refl
as_read earlier [] (line ∷ lines) read = absurd read
as_read earlier (t ∷ texts) [] read = absurd read
as_read earlier (t ∷ texts) (line ∷ lines) read = ap suc (as_read (earlier ++ line ∷ []) texts lines read.3)

-- each says one thing at most
module _ {X : Type 0} (at_of : X → ℕ) (what : ℕ → Said → List X) (one : (at : ℕ) (said : Said) → IsOneAt at_of what at (what at said)) where
  few_items : (lines : List Line) → length (said_by what lines) ≤ length lines
  few_items [] = lit≤ tt
  few_items (line ∷ lines) = by_found (what line.at line.said) (one line.at line.said) (few_items lines)
    where
      by_found : (found : List X) → IsOneAt at_of what line.at found → length (said_by what lines) ≤ length lines → length (found ++ said_by what lines) ≤ suc (length lines)
      by_found [] is few = omega (arith, few)
      by_found (x ∷ []) is few = omega (arith, few)
      by_found (x ∷ y ∷ xs) is few = absurd is

pub few_events : (text : List ℕ) (s : Script) → IsScript text s → length s.events ≤ length text
few_events text s is =
    let same = ap (λ (es : List EventLine). length es) is.say.events in
    let items = few_items event_at events one_event is.lines in
    let read = as_read [] (text_lines text) is.lines is.read in
    let lines = as_placed 0 (lines_of text) in
    let few = few_lines text in
    omega (arith, same, items, read, lines, few)

-- ---- queues

within_low : (low high : ℕ) (text : List ℕ) (n : ℕ) → within low high text ≡ Some n → low ≤ n
unfolding within
within_low low high text n is = by_test (is_natural text && (nat_le low (digits_value 10 text) && nat_le (digits_value 10 text) high)) refl is
  where
    by_test : (b : Bool) → (is_natural text && (nat_le low (digits_value 10 text) && nat_le (digits_value 10 text) high)) ≡ b
        → cond b (Some (digits_value 10 text)) None ≡ Some n → low ≤ n
    by_test true test same =
        let parts = and_parts (is_natural text) _ test in
        let more = and_parts (nat_le low (digits_value 10 text)) _ parts.1 in
        let is : digits_value 10 text ≡ n = some_is same in
        let least = leb-true low (digits_value 10 text) more.0 in
        omega (arith, is, least)
    by_test false test same = absurd cc

abbrev HoldsOne : Queue → Type 0
HoldsOne q = 1 ≤ q.capacity

abbrev queue_made : ℕ → ℕ → Queue
queue_made capacity timeout = record { capacity = capacity; timeout = timeout }

meant_holds : (capacity timeout : List ℕ) (q : Queue) → queue_meant capacity timeout ≡ Some q → HoldsOne q
unfolding queue_meant
meant_holds capacity timeout q is = by_capacity (within 1 MAX_CAPACITY capacity) refl is
  where
    by_timeout : (c : ℕ) → 1 ≤ c → (t : Option ℕ) → (t >>= λ t. Some (queue_made c t)) ≡ Some q → HoldsOne q
    by_timeout c low None same = absurd cc
    by_timeout c low (Some t) same = let is = ap (λ (x : Queue). x.capacity) (some_is same) in omega (arith, is, low)

    by_capacity : (c : Option ℕ) → within 1 MAX_CAPACITY capacity ≡ c → (c >>= λ c. within 1 MAX_TIME timeout >>= λ t. Some (queue_made c t)) ≡ Some q → HoldsOne q
    by_capacity None means same = absurd cc
    by_capacity (Some c) means same = by_timeout c (within_low 1 MAX_CAPACITY capacity c means) (within 1 MAX_TIME timeout) same

may_hold : (o : Option Queue) → ((q : Queue) → o ≡ Some q → HoldsOne q) → All HoldsOne (one_of o)
may_hold None holds = All-nil HoldsOne
may_hold (Some q) holds = All-cons HoldsOne q [] (holds q refl) (All-nil HoldsOne)

queue_holds : (at : ℕ) (bytes : List ℕ) (said : Said) → length bytes ≤ MAX_LINE → Says bytes said → All HoldsOne (queues at said)
queue_holds at bytes (header (form.queue capacity timeout)) short h = may_hold (queue_meant capacity timeout) (meant_holds capacity timeout)
queue_holds at bytes (header (form.client file)) short h = All-nil HoldsOne
queue_holds at bytes (header (form.server file)) short h = All-nil HoldsOne
queue_holds at bytes (header (form.interface home name)) short h = All-nil HoldsOne
queue_holds at bytes (header (form.object text)) short h = All-nil HoldsOne
queue_holds at bytes (header (form.servant func rule)) short h = All-nil HoldsOne
queue_holds at bytes (event e) short h = All-nil HoldsOne
queue_holds at bytes skipped short h = All-nil HoldsOne

pub holds_one : (text : List ℕ) (s : Script) → IsScript text s → 1 ≤ capacity_of s.queue
holds_one text s is = by_queue s.queue (subst (All HoldsOne) is.say.queue (each_said queues HoldsOne queue_holds [] (text_lines text) is.lines is.read))
  where
    by_queue : (o : Option Queue) → All HoldsOne (one_of o) → 1 ≤ capacity_of o
    by_queue None all = lit≤ tt
    by_queue (Some q) all = all_at HoldsOne (q ∷ []) 0 q all refl
