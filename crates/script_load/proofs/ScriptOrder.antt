-- The lines of a script that may have faults stand at different offsets: those of rules and of the interface before those of events.
use Rattle.std.proofs.Common.{◌≡◌, ◌<◌, ◌≤◌, ◌⊎◌, inl, inr, ℕ, zero, true, List, [], ◌∷◌, Option, Some, None, option_map, slice_get, refl, sym, ap, subst, ◌∙◌, arith, lit≤}
use Rattle.script_lines.specs.Faults.{Line, is_event}
use Rattle.script_lines.specs.Forms.{Said, EventForm, header, event, skipped}
use Rattle.script_lines.specs.Forms as form
use Rattle.script_lines.specs.Lines.{text_lines, lines_of}
use Rattle.script_lines.specs.Meanings.{Rule, Event, rule_meant, event_meant}
use Rattle.script_lines.specs.Scripts.{Script, IsScript, RuleLine, EventLine, InterfaceLine, said_by, rules, events, interfaces, one_of}
use Rattle.script_rules.proofs.Names.{some_is}
use Rattle.script_load.proofs.Order.{Rise, line_at, lines_rise, is_header, header_first, IsOneAt, items_rise, IsFrom, is_from, rise_lt, less_or_more}

abbrev pub rule_at : RuleLine → ℕ
rule_at line = line.at

abbrev pub event_at : EventLine → ℕ
event_at line = line.at

abbrev interface_at : InterfaceLine → ℕ
interface_at line = line.at

-- ---- a line says one thing at most

one_rule : (at : ℕ) (said : Said) → IsOneAt rule_at rules at (rules at said)
one_rule at (header (form.servant func rule)) = by_meant (rule_meant rule)
  where
    by_meant : (meant : Option Rule) → IsOneAt rule_at rules at (one_of (option_map (λ r. record { at = at; func = func; rule = r }) meant))
    by_meant None = tt
    by_meant (Some r) = refl
one_rule at (header (form.client file)) = tt
one_rule at (header (form.server file)) = tt
one_rule at (header (form.interface home name)) = tt
one_rule at (header (form.object text)) = tt
one_rule at (header (form.queue capacity timeout)) = tt
one_rule at (event e) = tt
one_rule at skipped = tt

pub one_event : (at : ℕ) (said : Said) → IsOneAt event_at events at (events at said)
one_event at (event e) = by_meant (event_meant e)
  where
    by_meant : (meant : Option Event) → IsOneAt event_at events at (one_of (option_map (λ e. record { at = at; event = e }) meant))
    by_meant None = tt
    by_meant (Some e) = refl
one_event at (header h) = tt
one_event at skipped = tt

one_interface : (at : ℕ) (said : Said) → IsOneAt interface_at interfaces at (interfaces at said)
one_interface at (header (form.interface home name)) = refl
one_interface at (header (form.client file)) = tt
one_interface at (header (form.server file)) = tt
one_interface at (header (form.object text)) = tt
one_interface at (header (form.servant func rule)) = tt
one_interface at (header (form.queue capacity timeout)) = tt
one_interface at (event e) = tt
one_interface at skipped = tt

-- ---- which lines these are

rule_header : (at : ℕ) (said : Said) (x : RuleLine) → rules at said ≡ x ∷ [] → is_header said ≡ true
rule_header at (header h) x is = refl
rule_header at (event e) x is = absurd cc
rule_header at skipped x is = absurd cc

interface_header : (at : ℕ) (said : Said) (x : InterfaceLine) → interfaces at said ≡ x ∷ [] → is_header said ≡ true
interface_header at (header h) x is = refl
interface_header at (event e) x is = absurd cc
interface_header at skipped x is = absurd cc

event_event : (at : ℕ) (said : Said) (x : EventLine) → events at said ≡ x ∷ [] → is_event said ≡ true
event_event at (event e) x is = refl
event_event at (header h) x is = absurd cc
event_event at skipped x is = absurd cc

not_both : (at : ℕ) (said : Said) (x : RuleLine) (y : InterfaceLine) → rules at said ≡ x ∷ [] → interfaces at said ≡ y ∷ [] → ⊥
not_both at (header (form.servant func rule)) x y rule_is interface_is = cc
not_both at (header (form.client file)) x y rule_is interface_is = cc
not_both at (header (form.server file)) x y rule_is interface_is = cc
not_both at (header (form.interface home name)) x y rule_is interface_is = cc
not_both at (header (form.object text)) x y rule_is interface_is = cc
not_both at (header (form.queue capacity timeout)) x y rule_is interface_is = cc
not_both at (event e) x y rule_is interface_is = cc
not_both at skipped x y rule_is interface_is = cc

-- ---- scripts

pub record IsOrdered (s : Script) : Type 0 where
  pub rules : Rise rule_at 0 s.rules
  pub events : Rise event_at 0 s.events
  pub rule_first : (k j : ℕ) (rule : RuleLine) (later : EventLine) → slice_get s.rules k ≡ Some rule → slice_get s.events j ≡ Some later → rule.at < later.at
  pub interface_first : (j : ℕ) (later : EventLine) → slice_get s.events j ≡ Some later → s.interface.at < later.at
  pub apart : (k : ℕ) (rule : RuleLine) → slice_get s.rules k ≡ Some rule → ¬ (rule.at ≡ s.interface.at)

module _ (text : List ℕ) (s : Script) (is : IsScript text s) where
  rise : Rise line_at 0 is.lines
  rise = lines_rise 0 0 [] (lines_of text) is.lines (lit≤ tt) is.read

  rule_from : (k : ℕ) (rule : RuleLine) → slice_get s.rules k ≡ Some rule → IsFrom rule_at rules one_rule is.lines rule
  rule_from k rule found =
      is_from rule_at rules one_rule is.lines k rule (subst (λ (rs : List RuleLine). slice_get rs k ≡ Some rule) (sym is.say.rules) found)

  event_from : (j : ℕ) (later : EventLine) → slice_get s.events j ≡ Some later → IsFrom event_at events one_event is.lines later
  event_from j later found =
      is_from event_at events one_event is.lines j later (subst (λ (es : List EventLine). slice_get es j ≡ Some later) (sym is.say.events) found)

  interface_from : IsFrom interface_at interfaces one_interface is.lines s.interface
  interface_from =
      is_from interface_at interfaces one_interface is.lines 0 s.interface
      (subst (λ (xs : List InterfaceLine). slice_get xs 0 ≡ Some s.interface) (sym is.say.interface) refl)

  before_event : (h : Line) (i : ℕ) (later : EventLine) (j : ℕ) → slice_get is.lines i ≡ Some h → is_header h.said ≡ true → slice_get s.events j ≡ Some later → h.at < later.at
  before_event h i later j at_i head found =
      let from = event_from j later found in
      let lt = header_first 0 (text_lines text) is.lines is.read rise i from.place h from.line at_i from.found head (event_event from.line.at from.line.said later from.is) in
      omega (arith, lt, from.at)

  rule_apart : (k : ℕ) (rule : RuleLine) → slice_get s.rules k ≡ Some rule → ¬ (rule.at ≡ s.interface.at)
  rule_apart k rule found same = by_place (less_or_more from.place interface_from.place)
    where
      from : IsFrom rule_at rules one_rule is.lines rule
      from = rule_from k rule found

      by_place : (from.place < interface_from.place) ⊎ ((from.place ≡ interface_from.place) ⊎ (interface_from.place < from.place)) → ⊥
      by_place (inl lt) =
          let less = rise_lt line_at 0 is.lines from.place interface_from.place from.line interface_from.line rise lt from.found interface_from.found in
          omega (arith, less, same, from.at, interface_from.at)
      by_place (inr (inl one)) =
          let line : from.line ≡ interface_from.line = some_is (sym from.found ∙ ap (slice_get is.lines) one ∙ interface_from.found) in
          not_both from.line.at from.line.said rule s.interface from.is
          (subst (λ (l : Line). interfaces l.at l.said ≡ s.interface ∷ []) (sym line) interface_from.is)
      by_place (inr (inr gt)) =
          let less = rise_lt line_at 0 is.lines interface_from.place from.place interface_from.line from.line rise gt interface_from.found from.found in
          omega (arith, less, same, from.at, interface_from.at)

  pub are_ordered : IsOrdered s
  are_ordered = record {
    rules = subst (λ (rs : List RuleLine). Rise rule_at 0 rs) is.say.rules (items_rise rule_at rules one_rule 0 is.lines rise);
    events = subst (λ (es : List EventLine). Rise event_at 0 es) is.say.events (items_rise event_at events one_event 0 is.lines rise);
    rule_first = λ k j rule later at_k at_j.
        let from = rule_from k rule at_k in
        let lt = before_event from.line from.place later j from.found (rule_header from.line.at from.line.said rule from.is) at_j in
        omega (arith, lt, from.at);
    interface_first = λ j later at_j.
        let lt = before_event interface_from.line interface_from.place later j interface_from.found
        (interface_header interface_from.line.at interface_from.line.said s.interface interface_from.is) at_j in
        omega (arith, lt, interface_from.at);
    apart = rule_apart;
  }
