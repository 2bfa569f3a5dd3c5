-- A line over the functions of a schema means one thing or has one fault, and not both.
use Rattle.std.proofs.Common.{◌≡◌, ◌⊎◌, inl, inr, ℕ, zero, suc, true, Some, List, [], ◌∷◌, slice_get, bytes_eq, nat_eq, eq-eqb, eqb-true, refl, sym, ap, ap₂, ◌∙◌, subst}
use Rattle.std.proofs.lemmas.Slice.Eq.{bytes_eq-Decides}
use Rattle.script_lines.specs.Meanings as says
use Rattle.script_lines.specs.Scripts.{RuleLine}
use Rattle.script_rules.specs.Functions.{AreFuncs}
use Rattle.script_rules.specs.Rules.{MeansRule, RuleFaultOf}
use Rattle.script_rules.specs.declared.rule_fault.RuleFault.{RuleFault}
use Rattle.script_rules.proofs.Names.{some_is, one_place}
use Rattle.script_rules.proofs.OneRule.{OneValue, ValueOrNone, some_rule, same_rule, same_fault, not_both_of}
use Rattle.script_rules.proofs.SameTypes.{decided}
use Rattle.script_session.specs.declared.session.CallSpec.{CallSpec}
use Rattle.script_session.specs.declared.session.FuncRule.{FuncRule}
use Rattle.script_values.specs.Args.{SPACE, past_spaces, IsApart, SaysArgs}
use Rattle.servant_core.specs.declared.rules.Rule.{Rule}
use Rattle.tars_model.specs.Declarations.{Declared}
use Rattle.tars_model.specs.Members.{arguments_of}
use Rattle.tars_model.specs.declared.func_desc.FuncDesc.{FuncDesc}
use Rattle.tars_model.specs.declared.member.Member.{Member}
use Rattle.tars_model.specs.declared.value.Value.{Value}
use Rattle.value_text.specs.Spelling.{Spells}
use Rattle.script_load.specs.LineFaults.{IsUnknown, IsNamed, rule_fault, HasRuleFault, no_function, no_rule, HasCallFault, no_arguments}
use Rattle.script_load.specs.LineFaults as fault
use Rattle.script_load.specs.LineSteps.{AreTheFuncs}
use Rattle.script_load.specs.Sessions.{IsRuleOf, IsCallOf, two_way_call}
use Rattle.script_load.specs.declared.faults.LineWhy.{LineWhy}
use Rattle.script_load.specs.declared.faults.LineWhy.TheVariants.{UnknownName, BadValue}

-- ---- functions

nowhere : {X : Type 0} (number : ℕ) (x : X) → slice_get [] number ≡ Some x → ⊥
nowhere number x found = cc

-- a name is that of a function or of none
pub func_or_not : (name : List ℕ) (funcs : List FuncDesc) → ((number : ℕ) × (func : FuncDesc) × IsNamed funcs name number func) ⊎ IsUnknown funcs name
func_or_not name [] = inr (λ number found. nowhere number found.0 found.1)
func_or_not name (f ∷ funcs) = by_first (decided (bytes_eq f.name name)) (func_or_not name funcs)
  where
    by_first : (bytes_eq f.name name ≡ true) ⊎ ¬ (bytes_eq f.name name ≡ true) → ((number : ℕ) × (func : FuncDesc) × IsNamed funcs name number func) ⊎ IsUnknown funcs name
        → ((number : ℕ) × (func : FuncDesc) × IsNamed (f ∷ funcs) name number func) ⊎ IsUnknown (f ∷ funcs) name
    by_first (inl same) later = inl (zero, f, record { found = refl; named = (bytes_eq-Decides f.name name).0 same })
    by_first (inr other) (inl (number, func, named)) = inl (suc number, func, record { found = named.found; named = named.named })
    by_first (inr other) (inr none) = inr not_there
      where
        not_there : IsUnknown (f ∷ funcs) name
        not_there zero found = other ((bytes_eq-Decides f.name name).1 (ap (λ (g : FuncDesc). g.name) (some_is found.1) ∙ found.2))
        not_there (suc number) found = none number (found.0, found.1, found.2)

-- the functions of one name are one
pub one_func : (funcs : List FuncDesc) (name : List ℕ) (i j : ℕ) (f g : FuncDesc) → AreFuncs funcs → IsNamed funcs name i f → IsNamed funcs name j g → (i ≡ j) × (f ≡ g)
one_func funcs name i j f g are a b =
    let same = one_place (λ (x : FuncDesc). x.name) funcs i j f g are.names_differ a.found b.found (a.named ∙ sym b.named) in
    (same, some_is (sym a.found ∙ ap (slice_get funcs) same ∙ b.found))

pub known : (funcs : List FuncDesc) (name : List ℕ) (number : ℕ) (func : FuncDesc) → IsNamed funcs name number func → ¬ (IsUnknown funcs name)
known funcs name number func named unknown = unknown number (func, named.found, named.named)

-- ---- rules

why_of : (d : Declared) (func : FuncDesc) (words : says.Rule) (why : RuleFault) → RuleFaultOf d func words why → (own : LineWhy) × (why ≡ rule_fault own)
why_of d func (says.value bytes) why h = (BadValue, h.0)
why_of d func (says.echo name) why h = (UnknownName, h.0)
why_of d func (says.add left right) why h = (UnknownName, h.0)
why_of d func (says.code number) why h = absurd h
why_of d func says.silent why h = absurd h

rule_fault_is : (a b : LineWhy) → rule_fault a ≡ rule_fault b → a ≡ b
rule_fault_is UnknownName UnknownName same = refl
rule_fault_is UnknownName BadValue same = absurd (cc)
rule_fault_is BadValue UnknownName same = absurd (cc)
rule_fault_is BadValue BadValue same = refl

same_made : (a b : FuncRule) → a.func ≡ b.func → a.rule ≡ b.rule → a ≡ b
same_made a b func made = ap₂ (λ (n : ℕ) (r : Rule). record { func = n; rule = r }) func made

module _ (one : OneValue) (d : Declared) (funcs : List FuncDesc) (line : RuleLine) where
  -- a line means a rule or has a fault
  pub some_line : ValueOrNone d → ((made : FuncRule) × IsRuleOf d funcs line made) ⊎ ((why : LineWhy) × HasRuleFault d funcs line why)
  some_line value_or = by_name (func_or_not line.func funcs)
    where
      by_words : (number : ℕ) (func : FuncDesc) → IsNamed funcs line.func number func
          → ((made : Rule) × MeansRule d func line.rule made) ⊎ ((why : RuleFault) × RuleFaultOf d func line.rule why)
          → ((made : FuncRule) × IsRuleOf d funcs line made) ⊎ ((why : LineWhy) × HasRuleFault d funcs line why)
      by_words number func named (inl (made, means)) = inl (record { func = number; rule = made }, record { func = func; named = named; means = means })
      by_words number func named (inr (why, has)) =
          let own = why_of d func line.rule why has in
          inr (own.0, no_rule number func named (subst (λ (w : RuleFault). RuleFaultOf d func line.rule w) own.1 has))

      by_name : ((number : ℕ) × (func : FuncDesc) × IsNamed funcs line.func number func) ⊎ IsUnknown funcs line.func
          → ((made : FuncRule) × IsRuleOf d funcs line made) ⊎ ((why : LineWhy) × HasRuleFault d funcs line why)
      by_name (inl (number, func, named)) = by_words number func named (some_rule one d value_or func line.rule)
      by_name (inr unknown) = inr (UnknownName, fault.HasRuleFault.no_function refl unknown)

  module _ (are : AreTheFuncs funcs) where
    -- and no two rules
    pub same_line : (a b : FuncRule) → IsRuleOf d funcs line a → IsRuleOf d funcs line b → a ≡ b
    same_line a b first second =
        let same = one_func funcs line.func a.func b.func first.func second.func are.names first.named second.named in
        same_made a b same.0
        (same_rule one d first.func line.rule a.rule b.rule (are.params a.func first.func first.named.found) first.means
        (subst (λ (f : FuncDesc). MeansRule d f line.rule b.rule) (sym same.1) second.means))

    -- and no two faults
    pub same_line_fault : (a b : LineWhy) → HasRuleFault d funcs line a → HasRuleFault d funcs line b → a ≡ b
    same_line_fault a b (fault.HasRuleFault.no_function is unknown) (fault.HasRuleFault.no_function also nor) = is ∙ sym also
    same_line_fault a b (fault.HasRuleFault.no_function is unknown) (no_rule number func named has) = absurd (known funcs line.func number func named unknown)
    same_line_fault a b (no_rule number func named has) (fault.HasRuleFault.no_function is unknown) = absurd (known funcs line.func number func named unknown)
    same_line_fault a b (no_rule i f named has) (no_rule j g also have) =
        let same = one_func funcs line.func i j f g are.names named also in
        rule_fault_is a b (same_fault one d f line.rule (rule_fault a) (rule_fault b) has
        (subst (λ (x : FuncDesc). RuleFaultOf d x line.rule (rule_fault b)) (sym same.1) have))

    -- and not both
    pub no_line_fault : (made : FuncRule) (why : LineWhy) → IsRuleOf d funcs line made → ¬ (HasRuleFault d funcs line why)
    no_line_fault made why is (fault.HasRuleFault.no_function e unknown) = known funcs line.func made.func is.func is.named unknown
    no_line_fault made why is (no_rule number func named has) =
        let same = one_func funcs line.func made.func number is.func func are.names is.named named in
        not_both_of one d func line.rule made.rule (rule_fault why) (subst (λ (f : FuncDesc). MeansRule d f line.rule made.rule) same.1 is.means) has

-- ---- arguments

apart_or_not : (rest : List ℕ) → IsApart rest ⊎ ¬ (IsApart rest)
apart_or_not [] = inl tt
apart_or_not (b ∷ rest) = by_test (decided (nat_eq b SPACE))
  where
    by_test : (nat_eq b SPACE ≡ true) ⊎ ¬ (nat_eq b SPACE ≡ true) → (b ≡ SPACE) ⊎ ¬ (b ≡ SPACE)
    by_test (inl same) = inl (eqb-true b SPACE same)
    by_test (inr other) = inr (λ e. other (eq-eqb b SPACE e))

module _ (one : OneValue) (d : Declared) where
  -- a text says one list of values at most
  pub one_args : (ms : List Member) (a b : List Value) (text : List ℕ) → SaysArgs d ms a text → SaysArgs d ms b text → a ≡ b
  one_args [] [] [] text first second = refl
  one_args [] (v ∷ vs) b text first second = absurd first
  one_args [] [] (w ∷ ws) text first second = absurd second
  one_args (m ∷ ms) [] b text first second = absurd first
  one_args (m ∷ ms) (v ∷ vs) [] text first second = absurd second
  one_args (m ∷ ms) (v ∷ vs) (w ∷ ws) text first second =
      let same = one d m.ty (past_spaces text) first.0 second.0 v w first.1 second.1 in
      ap₂ (λ (x : Value) (xs : List Value). x ∷ xs) same.0
      (one_args ms vs ws first.0 first.3 (subst (λ (r : List ℕ). SaysArgs d ms ws r) (sym same.1) second.3))

  -- and whether it says one is decided
  module _ (value_or : ValueOrNone d) where
    pub args_or_not : (ms : List Member) (text : List ℕ) → ((values : List Value) × SaysArgs d ms values text) ⊎ ((values : List Value) → ¬ (SaysArgs d ms values text))
    args_or_not [] text = by_rest (past_spaces text) refl
      where
        by_rest : (rest : List ℕ) → past_spaces text ≡ rest → ((values : List Value) × SaysArgs d [] values text) ⊎ ((values : List Value) → ¬ (SaysArgs d [] values text))
        by_rest [] is = inl ([], is)
        by_rest (b ∷ rest) is = inr none
          where
            full : b ∷ rest ≡ [] → ⊥
            full e = cc

            none : (values : List Value) → ¬ (SaysArgs d [] values text)
            none [] h = full (sym is ∙ h)
            none (v ∷ vs) h = h
    args_or_not (m ∷ ms) text = by_outcome (λ rest. args_or_not ms rest) (value_or m.ty (past_spaces text))
      where
        by_parts : (v : Value) (rest : List ℕ) → Spells d m.ty v (past_spaces text) rest → IsApart rest ⊎ ¬ (IsApart rest)
            → ((values : List Value) × SaysArgs d ms values rest) ⊎ ((values : List Value) → ¬ (SaysArgs d ms values rest))
            → ((values : List Value) × SaysArgs d (m ∷ ms) values text) ⊎ ((values : List Value) → ¬ (SaysArgs d (m ∷ ms) values text))
        by_parts v rest spells (inl apart) (inl (vs, more)) = inl (v ∷ vs, (rest, spells, apart, more))
        by_parts v rest spells (inr close) later = inr none
          where
            none : (values : List Value) → ¬ (SaysArgs d (m ∷ ms) values text)
            none [] h = h
            none (w ∷ ws) h = close (subst IsApart (one d m.ty (past_spaces text) h.0 rest w v h.1 spells).1 h.2)
        by_parts v rest spells (inl apart) (inr nor) = inr none
          where
            none : (values : List Value) → ¬ (SaysArgs d (m ∷ ms) values text)
            none [] h = h
            none (w ∷ ws) h = nor ws (subst (λ (r : List ℕ). SaysArgs d ms ws r) (one d m.ty (past_spaces text) h.0 rest w v h.1 spells).1 h.3)

        by_outcome : ((rest : List ℕ) → ((values : List Value) × SaysArgs d ms values rest) ⊎ ((values : List Value) → ¬ (SaysArgs d ms values rest)))
            → ((v : Value) × (rest : List ℕ) × Spells d m.ty v (past_spaces text) rest) ⊎ ((v : Value) (rest : List ℕ) → ¬ (Spells d m.ty v (past_spaces text) rest))
            → ((values : List Value) × SaysArgs d (m ∷ ms) values text) ⊎ ((values : List Value) → ¬ (SaysArgs d (m ∷ ms) values text))
        by_outcome later (inl (v, rest, spells)) = by_parts v rest spells (apart_or_not rest) (later rest)
        by_outcome later (inr nor) = inr none
          where
            none : (values : List Value) → ¬ (SaysArgs d (m ∷ ms) values text)
            none [] h = h
            none (w ∷ ws) h = nor w h.0 h.1

-- ---- calls

module _ (one : OneValue) (d : Declared) (funcs : List FuncDesc) (name text : List ℕ) where
  -- a call has arguments or a fault
  pub some_call : ValueOrNone d → (number : ℕ) → ((spec : CallSpec) × IsCallOf d funcs number name text spec) ⊎ ((why : LineWhy) × HasCallFault d funcs name text why)
  some_call value_or number = by_name (func_or_not name funcs)
    where
      by_args : (k : ℕ) (func : FuncDesc) → IsNamed funcs name k func
          → ((values : List Value) × SaysArgs d (arguments_of func) values text) ⊎ ((values : List Value) → ¬ (SaysArgs d (arguments_of func) values text))
          → ((spec : CallSpec) × IsCallOf d funcs number name text spec) ⊎ ((why : LineWhy) × HasCallFault d funcs name text why)
      by_args k func named (inl (values, says)) = inl (two_way_call number k values, record { func = func; named = named; says = says; is = refl })
      by_args k func named (inr none) = inr (BadValue, no_arguments k func refl named none)

      by_name : ((k : ℕ) × (func : FuncDesc) × IsNamed funcs name k func) ⊎ IsUnknown funcs name
          → ((spec : CallSpec) × IsCallOf d funcs number name text spec) ⊎ ((why : LineWhy) × HasCallFault d funcs name text why)
      by_name (inl (k, func, named)) = by_args k func named (args_or_not one d value_or (arguments_of func) text)
      by_name (inr unknown) = inr (UnknownName, fault.HasCallFault.no_function refl unknown)

  module _ (are : AreTheFuncs funcs) where
    pub same_call : (number : ℕ) (a b : CallSpec) → IsCallOf d funcs number name text a → IsCallOf d funcs number name text b → a ≡ b
    same_call number a b first second =
        let same = one_func funcs name a.func b.func first.func second.func are.names first.named second.named in
        let args = one_args one d (arguments_of first.func) a.args b.args text first.says
        (subst (λ (f : FuncDesc). SaysArgs d (arguments_of f) b.args text) (sym same.1) second.says) in
        first.is ∙ ap₂ (λ (k : ℕ) (values : List Value). two_way_call number k values) same.0 args ∙ sym second.is

    pub same_call_fault : (a b : LineWhy) → HasCallFault d funcs name text a → HasCallFault d funcs name text b → a ≡ b
    same_call_fault a b (fault.HasCallFault.no_function is unknown) (fault.HasCallFault.no_function also nor) = is ∙ sym also
    same_call_fault a b (fault.HasCallFault.no_function is unknown) (no_arguments k func also named none) = absurd (known funcs name k func named unknown)
    same_call_fault a b (no_arguments k func is named none) (fault.HasCallFault.no_function also unknown) = absurd (known funcs name k func named unknown)
    same_call_fault a b (no_arguments k func is named none) (no_arguments j other also named_too nor) = is ∙ sym also

    pub no_call_fault : (number : ℕ) (spec : CallSpec) (why : LineWhy) → IsCallOf d funcs number name text spec → ¬ (HasCallFault d funcs name text why)
    no_call_fault number spec why is (fault.HasCallFault.no_function e unknown) = known funcs name spec.func is.func is.named unknown
    no_call_fault number spec why is (no_arguments k func e named none) =
        let same = one_func funcs name spec.func k is.func func are.names is.named named in
        none spec.args (subst (λ (f : FuncDesc). SaysArgs d (arguments_of f) spec.args text) same.1 is.says)
