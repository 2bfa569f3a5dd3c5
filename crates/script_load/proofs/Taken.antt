-- What was read of the lines so far.
use Rattle.std.proofs.Common.{◌≡◌, ◌<◌, ◌≤◌, ℕ, zero, suc, ◌+◌, Bool, true, false, cond, List, [], ◌∷◌, ◌++◌, length, map, take, count_by, slice_get, Option, Some, option_map, refl, sym, ap, subst, ◌∙◌, arith}
use Rattle.std.proofs.lemmas.List.{take_more}
use Rattle.std.proofs.lemmas.List.Sums.{sum_by-cons}
use Rattle.std.proofs.lemmas.Option.{get_or_from_slice_get, slice_get_within, slice_get-map}
use Rattle.script_lines.specs.Meanings.{Event as Said, is_call, call, serve, work, deliver, close}
use Rattle.script_lines.specs.Scripts.{RuleLine, EventLine}
use Rattle.script_lines.specs.Views.{event_line}
use Rattle.script_lines.specs.declared.event.EventLine.{EventLine as Written}
use Rattle.script_session.specs.declared.session.Event.{Event}
use Rattle.script_session.specs.declared.session.FuncRule.{FuncRule}
use Rattle.tars_model.specs.Declarations.{Declared}
use Rattle.tars_model.specs.declared.func_desc.FuncDesc.{FuncDesc}
use Rattle.script_load.specs.LineFaults.{HasEventFault}
use Rattle.script_load.specs.LineSteps.{OnFault, HaveEventFault}
use Rattle.script_load.specs.Sessions.{IsRuleOf, AreRules, IsEventOf, AreEvents, next_number}
use Rattle.script_load.specs.declared.faults.LineRefusal.{LineRefusal}
use Rattle.script_load.specs.declared.faults.LineRefusal.TheVariants as line

-- ---- the next line

pub at_mapped : {A B : Type 0} (f : A → B) (xs : List A) (i : ℕ) (x : A) → slice_get xs i ≡ Some x → slice_get (map f xs) i ≡ Some (f x)
at_mapped f xs i x found = slice_get-map f xs i ∙ ap (option_map f) found

pub take_next : {A : Type 0} (xs : List A) (i : ℕ) (x : A) → slice_get xs i ≡ Some x → take (i + 1) xs ≡ take i xs ++ x ∷ []
take_next xs i x found = take_more xs i x (slice_get_within xs i x found) ∙ ap (λ y. take i xs ++ y ∷ []) (get_or_from_slice_get xs i x x found)

pub length_mapped : {A B : Type 0} (f : A → B) (xs : List A) → length (map f xs) ≡ length xs
length_mapped f [] = refl
length_mapped f (x ∷ xs) = ap suc (length_mapped f xs)

-- ---- rules

module _ (d : Declared) (funcs : List FuncDesc) where
  more_rules : (lines : List RuleLine) (mades : List FuncRule) (line : RuleLine) (made : FuncRule) → AreRules d funcs lines mades → IsRuleOf d funcs line made
      → AreRules d funcs (lines ++ line ∷ []) (mades ++ made ∷ [])
  more_rules [] [] line made are is = (is, tt)
  more_rules [] (m ∷ mades) line made are is = absurd are
  more_rules (l ∷ lines) [] line made are is = absurd are
  more_rules (l ∷ lines) (m ∷ mades) line made are is = (are.0, more_rules lines mades line made are.1 is)

  pub next_rule : (lines : List RuleLine) (i : ℕ) (mades : List FuncRule) (line : RuleLine) (made : FuncRule) → slice_get lines i ≡ Some line
      → AreRules d funcs (take i lines) mades → IsRuleOf d funcs line made → AreRules d funcs (take (i + 1) lines) (mades ++ made ∷ [])
  next_rule lines i mades line made found are is =
      subst (λ (ls : List RuleLine). AreRules d funcs ls (mades ++ made ∷ [])) (sym (take_next lines i line found)) (more_rules (take i lines) mades line made are is)

-- ---- events

-- the number of the call that comes after these lines
abbrev pub number_after : ℕ → List EventLine → ℕ
number_after number [] = number
number_after number (line ∷ lines) = number_after (next_number number line.event) lines

number_more : (number : ℕ) (lines : List EventLine) (line : EventLine) → number_after number (lines ++ line ∷ []) ≡ next_number (number_after number lines) line.event
number_more number [] line = refl
number_more number (l ∷ lines) line = number_more (next_number number l.event) lines line

number_next : (number : ℕ) (lines : List EventLine) (i : ℕ) (line : EventLine) → slice_get lines i ≡ Some line
    → number_after number (take (i + 1) lines) ≡ next_number (number_after number (take i lines)) line.event
number_next number lines i line found = ap (number_after number) (take_next lines i line found) ∙ number_more number (take i lines) line

next_bound : (number : ℕ) (event : Said) (b : Bool) → is_call event ≡ b → (next_number number event ≤ number + 1) × (b ≡ false → next_number number event ≡ number)
next_bound number (call name text) b is = (omega arith, λ no. absurd (cc (is, no)))
next_bound number (serve bytes) b is = (omega arith, λ no. refl)
next_bound number work b is = (omega arith, λ no. refl)
next_bound number (deliver bytes) b is = (omega arith, λ no. refl)
next_bound number close b is = (omega arith, λ no. refl)

abbrev calls_in : List Written → ℕ
calls_in lines = count_by (λ (line : Written). is_call (event_line line).event) lines

abbrev one_if : Bool → ℕ
one_if b = cond b 1 0

one_bound : (number : ℕ) (line : Written) (lines : List Written) (i : ℕ)
    → number_after (next_number number (event_line line).event) (take i (map event_line lines)) ≤ next_number number (event_line line).event + calls_in lines
    → number_after number (take (suc i) (map event_line (line ∷ lines))) ≤ number + calls_in (line ∷ lines)
one_bound number line lines i later = by_call (is_call (event_line line).event) refl
  where
    count : calls_in (line ∷ lines) ≡ one_if (is_call (event_line line).event) + calls_in lines
    count = sum_by-cons (λ (l : Written). one_if (is_call (event_line l).event)) line lines

    by_call : (b : Bool) → is_call (event_line line).event ≡ b
        → number_after number (take (suc i) (map event_line (line ∷ lines))) ≤ number + calls_in (line ∷ lines)
    by_call true is =
        let bound = (next_bound number (event_line line).event true is).0 in
        let one : one_if (is_call (event_line line).event) ≡ 1 = ap one_if is in
        omega (arith, later, bound, count, one)
    by_call false is =
        let same = (next_bound number (event_line line).event false is).1 refl in
        let none : one_if (is_call (event_line line).event) ≡ 0 = ap one_if is in
        omega (arith, later, same, count, none)

-- calls have low numbers
pub number_bound : (number : ℕ) (lines : List Written) (i : ℕ)
    → number_after number (take i (map event_line lines)) ≤ number + count_by (λ (line : Written). is_call (event_line line).event) lines
number_bound number [] zero = omega arith
number_bound number [] (suc i) = omega arith
number_bound number (line ∷ lines) zero = omega arith
number_bound number (line ∷ lines) (suc i) = one_bound number line lines i (number_bound (next_number number (event_line line).event) lines i)

module _ (d : Declared) (funcs : List FuncDesc) where
  more_events : (number : ℕ) (lines : List EventLine) (events : List Event) (line : EventLine) (event : Event) → AreEvents d funcs number lines events
      → IsEventOf d funcs (number_after number lines) line.event event → AreEvents d funcs number (lines ++ line ∷ []) (events ++ event ∷ [])
  more_events number [] [] line event are is = (is, tt)
  more_events number [] (e ∷ events) line event are is = absurd are
  more_events number (l ∷ lines) [] line event are is = absurd are
  more_events number (l ∷ lines) (e ∷ events) line event are is = (are.0, more_events (next_number number l.event) lines events line event are.1 is)

  pub next_event : (lines : List EventLine) (i : ℕ) (events : List Event) (line : EventLine) (event : Event) (number : ℕ) → slice_get lines i ≡ Some line
      → AreEvents d funcs 1 (take i lines) events → number ≡ number_after 1 (take i lines) → IsEventOf d funcs number line.event event
      → AreEvents d funcs 1 (take (i + 1) lines) (events ++ event ∷ [])
  next_event lines i events line event number found are same is =
      subst (λ (ls : List EventLine). AreEvents d funcs 1 ls (events ++ event ∷ [])) (sym (take_next lines i line found))
      (more_events 1 (take i lines) events line event are (subst (λ (n : ℕ). IsEventOf d funcs n line.event event) same is))

  -- the first line with a fault comes after lines that have none
  pub event_fault : (lines : List EventLine) (i : ℕ) (events : List Event) (own : EventLine) (refusal : LineRefusal) → slice_get lines i ≡ Some own
      → AreEvents d funcs 1 (take i lines) events → OnFault refusal (λ f. (f.at ≡ own.at) × HasEventFault d funcs own.event f.why)
      → OnFault refusal (HaveEventFault d funcs lines)
  event_fault lines i events own (line.Fault fault) found are has =
      record { place = i; line = own; found = found; at = has.0; has = has.1; before = events; read = are }
  event_fault lines i events own line.Memory found are has = tt

pub number_step : (lines : List EventLine) (i : ℕ) (line : EventLine) (number next : ℕ) → slice_get lines i ≡ Some line → number ≡ number_after 1 (take i lines)
    → next ≡ next_number number line.event → next ≡ number_after 1 (take (i + 1) lines)
number_step lines i line number next found same is = is ∙ ap (λ (n : ℕ). next_number n line.event) same ∙ sym (number_next 1 lines i line found)
