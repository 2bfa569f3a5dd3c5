-- The first line of a script that has a fault.
use Rattle.std.proofs.Common.{◌≡◌, ◌<◌, ◌≤◌, ◌⊎◌, inl, inr, ℕ, zero, suc, Option, Some, None, List, [], ◌∷◌, take, slice_get, refl, sym, ap, ap₂, subst, ◌∙◌, arith}
use Rattle.std.specs.Prelude.{Result, Ok, Err, IfOk, IfErr}
use Rattle.script_lines.specs.Scripts.{Script, RuleLine, EventLine}
use Rattle.script_rules.proofs.Names.{some_is}
use Rattle.script_rules.proofs.OneRule.{OneValue}
use Rattle.script_session.specs.declared.session.FuncRule.{FuncRule}
use Rattle.tars_model.specs.Declarations.{Declared}
use Rattle.tars_model.specs.declared.func_desc.FuncDesc.{FuncDesc}
use Rattle.script_load.specs.LineFaults.{HasRuleFault, HasEventFault, IsLineFault, no_client, no_server, bad_rule, bad_event, IsFirstFault}
use Rattle.script_load.specs.LineSteps.{OnFault, AreTheFuncs, HaveRuleFault, HaveEventFault, LacksInterface}
use Rattle.script_load.specs.Sessions.{AreRules}
use Rattle.script_load.specs.Sides.{interface_number, funcs_at, funcs_named}
use Rattle.script_load.specs.declared.faults.LineFault.{LineFault}
use Rattle.script_load.specs.declared.faults.LineRefusal.{LineRefusal}
use Rattle.script_load.specs.declared.faults.LineRefusal.TheVariants as line
use Rattle.script_load.specs.declared.faults.LineWhy.{LineWhy}
use Rattle.script_load.specs.declared.faults.LineWhy.TheVariants.{UnknownName}
use Rattle.script_load.proofs.LawsLines.{same_line_fault}
use Rattle.script_load.proofs.LawsSession.{no_rule_fault, no_events_fault, same_event_fault}
use Rattle.script_load.proofs.Order.{Rise, rise_lt, one_item, less_or_more}
use Rattle.script_load.proofs.SchemaSides.{HasFuncs, no_funcs_are}
use Rattle.script_load.proofs.ScriptOrder.{rule_at, event_at, IsOrdered}

-- ---- the functions of an interface that may not be there

named_are : (d : Declared) (number : Option ℕ) → HasFuncs d → AreTheFuncs (funcs_at d number)
named_are d None has = no_funcs_are
named_are d (Some number) has = has number

-- ---- the first item with a fault

taken_at : {X : Type 0} (xs : List X) (k place : ℕ) (x : X) → k < place → slice_get xs k ≡ Some x → slice_get (take place xs) k ≡ Some x
taken_at [] k place x lt found = absurd cc
taken_at (y ∷ xs) k zero x lt found = absurd (omega (arith, lt))
taken_at (y ∷ xs) zero (suc place) x lt found = found
taken_at (y ∷ xs) (suc k) (suc place) x lt found = taken_at xs k place x (omega (arith, lt)) found

-- it stands no later than one that is not before it
least_at : {X : Type 0} (at_of : X → ℕ) (xs : List X) (place k : ℕ) (x y : X) → Rise at_of 0 xs → slice_get xs place ≡ Some x → slice_get xs k ≡ Some y
    → ((k < place) → ⊥) → at_of x ≤ at_of y
least_at at_of xs place k x y rise at_place at_k later = by_place (less_or_more place k)
  where
    by_place : (place < k) ⊎ ((place ≡ k) ⊎ (k < place)) → at_of x ≤ at_of y
    by_place (inl lt) = let less = rise_lt at_of 0 xs place k x y rise lt at_place at_k in omega (arith, less)
    by_place (inr (inl same)) = let one = ap at_of (some_is (sym at_place ∙ ap (slice_get xs) same ∙ at_k)) in omega (arith, one)
    by_place (inr (inr gt)) = absurd (later gt)

module _ (one : OneValue) (d : Declared) (funcs : List FuncDesc) (are : AreTheFuncs funcs) where
  first_rule : (lines : List RuleLine) (fault : LineFault) → Rise rule_at 0 lines → HaveRuleFault d funcs lines fault
      → (k : ℕ) (line : RuleLine) (why : LineWhy) → slice_get lines k ≡ Some line → HasRuleFault d funcs line why → fault.at ≤ line.at
  first_rule lines fault rise have k line why found has =
      let least = least_at rule_at lines have.place k have.line line rise have.found found
      (λ lt. no_rule_fault one d funcs are (take have.place lines) have.before have.read k line why (taken_at lines k have.place line lt found) has) in
      omega (arith, least, have.at)

  first_event : (lines : List EventLine) (fault : LineFault) → Rise event_at 0 lines → HaveEventFault d funcs lines fault
      → (k : ℕ) (line : EventLine) (why : LineWhy) → slice_get lines k ≡ Some line → HasEventFault d funcs line.event why → fault.at ≤ line.at
  first_event lines fault rise have k line why found has =
      let least = least_at event_at lines have.place k have.line line rise have.found found
      (λ lt. no_events_fault one d funcs are 1 (take have.place lines) have.before have.read k line why (taken_at lines k have.place line lt found) has) in
      omega (arith, least, have.at)

-- ---- the first fault of a script

module _ (one : OneValue) (client server : Declared) (client_has : HasFuncs client) (server_has : HasFuncs server) (s : Script) (ordered : IsOrdered s) where
  abbrev at_client : List FuncDesc
  at_client = funcs_named client s.interface

  abbrev at_server : List FuncDesc
  at_server = funcs_named server s.interface

  client_are : AreTheFuncs at_client
  client_are = named_are client (interface_number client s.interface) client_has

  server_are : AreTheFuncs at_server
  server_are = named_are server (interface_number server s.interface) server_has

  abbrev pub IsThere : Declared → Type 0
  IsThere d = (number : ℕ) × (interface_number d s.interface ≡ Some number)

  there : (d : Declared) → IsThere d → ¬ (interface_number d s.interface ≡ None)
  there d is none = absurd (not_none (sym none ∙ is.1))
    where
      not_none : {n : ℕ} → None ≡ Some n → ⊥
      not_none e = cc

  -- that of a rule, where both sides have the interface
  pub rule_is_first : (fault : LineFault) → IsThere client → IsThere server → HaveRuleFault server at_server s.rules fault → IsFirstFault client server s fault
  rule_is_first fault in_client in_server have = record { has = bad_rule have.place have.line have.found have.at have.has; first = first }
    where
      first : (other : LineFault) → IsLineFault client server s other → fault.at ≤ other.at
      first other (no_client at why none) = absurd (there client in_client none)
      first other (no_server at why none) = absurd (there server in_server none)
      first other (bad_rule k line found at has) =
          let least = first_rule one server at_server server_are s.rules fault ordered.rules have k line other.why found has in omega (arith, least, at)
      first other (bad_event k line found at has) = let less = ordered.rule_first have.place k have.line line have.found found in omega (arith, less, at, have.at)

  -- that of an event, where no rule has one
  pub event_is_first : (fault : LineFault) (rules : List FuncRule) → IsThere client → IsThere server → AreRules server at_server s.rules rules
      → HaveEventFault client at_client s.events fault → IsFirstFault client server s fault
  event_is_first fault rules in_client in_server read have = record { has = bad_event have.place have.line have.found have.at have.has; first = first }
    where
      first : (other : LineFault) → IsLineFault client server s other → fault.at ≤ other.at
      first other (no_client at why none) = absurd (there client in_client none)
      first other (no_server at why none) = absurd (there server in_server none)
      first other (bad_rule k line found at has) = absurd (no_rule_fault one server at_server server_are s.rules rules read k line other.why found has)
      first other (bad_event k line found at has) =
          let least = first_event one client at_client client_are s.events fault ordered.events have k line other.why found has in omega (arith, least, at)

  -- ---- where a side lacks the interface

  abbrev pub IsLacking : Type 0
  IsLacking = (interface_number client s.interface ≡ None) ⊎ (interface_number server s.interface ≡ None)

  abbrev lacking : LineFault
  lacking = record { at = s.interface.at; why = UnknownName }

  has_lacking : IsLacking → IsLineFault client server s lacking
  has_lacking (inl none) = no_client refl refl none
  has_lacking (inr none) = no_server refl refl none

  -- the interface's line is first where no rule before it has a fault
  lacking_is_first : IsLacking → ((k : ℕ) (line : RuleLine) (why : LineWhy) → slice_get s.rules k ≡ Some line → HasRuleFault server at_server line why → s.interface.at ≤ line.at)
      → IsFirstFault client server s lacking
  lacking_is_first lacks rules = record { has = has_lacking lacks; first = first }
    where
      first : (other : LineFault) → IsLineFault client server s other → s.interface.at ≤ other.at
      first other (no_client at why none) = omega (arith, at)
      first other (no_server at why none) = omega (arith, at)
      first other (bad_rule k line found at has) = let less = rules k line other.why found has in omega (arith, less, at)
      first other (bad_event k line found at has) = let less = ordered.interface_first k line found in omega (arith, less, at)

  -- a rule's line is, where it stands before
  early_rule_is_first : (fault : LineFault) → fault.at < s.interface.at → HaveRuleFault server at_server s.rules fault → IsFirstFault client server s fault
  early_rule_is_first fault early have = record { has = bad_rule have.place have.line have.found have.at have.has; first = first }
    where
      first : (other : LineFault) → IsLineFault client server s other → fault.at ≤ other.at
      first other (no_client at why none) = omega (arith, at, early)
      first other (no_server at why none) = omega (arith, at, early)
      first other (bad_rule k line found at has) =
          let least = first_rule one server at_server server_are s.rules fault ordered.rules have k line other.why found has in omega (arith, least, at)
      first other (bad_event k line found at has) = let less = ordered.rule_first have.place k have.line line have.found found in omega (arith, less, at, have.at)

  abbrev pub OnRules : Result (List FuncRule) LineRefusal → Type 0
  OnRules result = IfOk result (λ made. AreRules server at_server s.rules made) × IfErr result (λ refusal. OnFault refusal (HaveRuleFault server at_server s.rules))

  abbrev IsFirst : LineRefusal → Type 0
  IsFirst refusal = OnFault refusal (IsFirstFault client server s)

  pub lacks_is_first : IsLacking → (result : Result (List FuncRule) LineRefusal) → OnRules result → (refusal : LineRefusal) → LacksInterface s.interface.at result refusal → IsFirst refusal
  lacks_is_first lacks (Ok made) on refusal is =
      subst IsFirst (sym is)
      (lacking_is_first lacks (λ k line why found has. absurd (no_rule_fault one server at_server server_are s.rules made on.0 k line why found has)))
  lacks_is_first lacks (Err line.Memory) on refusal is = subst IsFirst (sym is) tt
  lacks_is_first lacks (Err (line.Fault fault)) on refusal (inl (early, is)) = subst IsFirst (sym is) (early_rule_is_first fault early on.1)
  lacks_is_first lacks (Err (line.Fault fault)) on refusal (inr (late, is)) =
      subst IsFirst (sym is)
      (lacking_is_first lacks (λ k line why found has.
      let least = first_rule one server at_server server_are s.rules fault ordered.rules on.1 k line why found has in omega (arith, least, late)))

  -- ---- two first faults are one

  same_fault : (a b : LineFault) → a.at ≡ b.at → a.why ≡ b.why → a ≡ b
  same_fault a b at why = ap₂ (λ (n : ℕ) (w : LineWhy). record { at = n; why = w }) at why

  no_two : (a b : LineFault) (k : ℕ) (line : RuleLine) → a.at ≡ b.at → a.at ≡ s.interface.at → slice_get s.rules k ≡ Some line → b.at ≡ line.at → ⊥
  no_two a b k line same at found own = ordered.apart k line found (omega (arith, same, at, own))

  no_header_event : (a b n : ℕ) → a ≡ b → a < b → ⊥
  no_header_event a b n same lt = omega (arith, same, lt)

  -- at one offset stands one fault
  one_why : (a b : LineFault) → a.at ≡ b.at → IsLineFault client server s a → IsLineFault client server s b → a.why ≡ b.why
  one_why a b same (no_client at why none) (no_client at_too why_too none_too) = why ∙ sym why_too
  one_why a b same (no_client at why none) (no_server at_too why_too none_too) = why ∙ sym why_too
  one_why a b same (no_server at why none) (no_client at_too why_too none_too) = why ∙ sym why_too
  one_why a b same (no_server at why none) (no_server at_too why_too none_too) = why ∙ sym why_too
  one_why a b same (no_client at why none) (bad_rule k line found own has) = absurd (no_two a b k line same at found own)
  one_why a b same (no_server at why none) (bad_rule k line found own has) = absurd (no_two a b k line same at found own)
  one_why a b same (bad_rule k line found own has) (no_client at why none) = absurd (no_two b a k line (sym same) at found own)
  one_why a b same (bad_rule k line found own has) (no_server at why none) = absurd (no_two b a k line (sym same) at found own)
  one_why a b same (no_client at why none) (bad_event k line found own has) = absurd (let less = ordered.interface_first k line found in omega (arith, less, same, at, own))
  one_why a b same (no_server at why none) (bad_event k line found own has) = absurd (let less = ordered.interface_first k line found in omega (arith, less, same, at, own))
  one_why a b same (bad_event k line found own has) (no_client at why none) = absurd (let less = ordered.interface_first k line found in omega (arith, less, same, at, own))
  one_why a b same (bad_event k line found own has) (no_server at why none) = absurd (let less = ordered.interface_first k line found in omega (arith, less, same, at, own))
  one_why a b same (bad_rule k line found own has) (bad_event j event at at_event bad) =
      absurd (let less = ordered.rule_first k j line event found at in omega (arith, less, same, own, at_event))
  one_why a b same (bad_event j event at at_event bad) (bad_rule k line found own has) =
      absurd (let less = ordered.rule_first k j line event found at in omega (arith, less, same, own, at_event))
  one_why a b same (bad_rule k line found own has) (bad_rule j other at at_other bad) =
      let is : line ≡ other = one_item rule_at 0 s.rules k j line other ordered.rules found at (sym own ∙ same ∙ at_other) in
      same_line_fault one server at_server line server_are a.why b.why has (subst (λ (l : RuleLine). HasRuleFault server at_server l b.why) (sym is) bad)
  one_why a b same (bad_event k line found own has) (bad_event j other at at_other bad) =
      let is : line ≡ other = one_item event_at 0 s.events k j line other ordered.events found at (sym own ∙ same ∙ at_other) in
      same_event_fault one client at_client client_are line.event a.why b.why has (subst (λ (l : EventLine). HasEventFault client at_client l.event b.why) (sym is) bad)

  pub one_first_fault : (a b : LineFault) → IsFirstFault client server s a → IsFirstFault client server s b → a ≡ b
  one_first_fault a b first second =
      let same : a.at ≡ b.at = omega (arith, first.first b second.has, second.first a first.has) in
      same_fault a b same (one_why a b same first.has second.has)
