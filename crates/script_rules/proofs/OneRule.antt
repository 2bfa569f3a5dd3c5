-- Words mean one rule of a function or have one fault.
use Rattle.std.proofs.Common.{◌≡◌, ◌⊎◌, inl, inr, ℕ, zero, suc, true, Option, Some, None, List, [], ◌∷◌, slice_get, bytes_eq, refl, sym, ap, ap₂, ◌∙◌, subst}
use Rattle.std.proofs.lemmas.Slice.Eq.{bytes_eq-Decides}
use Rattle.script_lines.specs.Meanings as says
use Rattle.servant_core.specs.Rules.{IsWhole, is_whole, Returns}
use Rattle.servant_core.specs.declared.rules.Rule.{Rule}
use Rattle.servant_core.specs.declared.rules.Rule.TheVariants as rule
use Rattle.tars_model.specs.Declarations.{Declared}
use Rattle.tars_model.specs.Members.{arguments_of}
use Rattle.tars_model.specs.Schemas.{IsSchema}
use Rattle.tars_model.specs.declared.func_desc.FuncDesc.{FuncDesc}
use Rattle.tars_model.specs.declared.member.Member.{Member}
use Rattle.tars_model.specs.declared.ty.Ty.{Ty, out-Ty}
use Rattle.tars_model.specs.declared.value.Value.{Value}
use Rattle.value_text.specs.Faults.{FaultOf}
use Rattle.value_text.specs.Spelling.{Spells, past_gap}
use Rattle.value_text.specs.Spelling as text
use Rattle.value_text.specs.declared.value_fault.ValueWhy.{ValueWhy}
use Rattle.script_rules.specs.Functions.{AreParams}
use Rattle.script_rules.specs.Rules.{NamedAt, SaysReturned, IsEchoed, AreAdded, MeansRule, RuleFaultOf}
use Rattle.script_rules.specs.declared.rule_fault.RuleFault.{RuleFault}
use Rattle.script_rules.specs.declared.rule_fault.RuleFault.TheVariants.{UnknownName, BadValue}
use Rattle.script_rules.proofs.Names.{some_is}
use Rattle.script_rules.proofs.ParamLaws.{one_named}
use Rattle.script_rules.proofs.SameTypes.{decided, same_or_not}

-- what `value_text` says of every text
abbrev pub OneValue : Type 0
OneValue = (d : Declared) (t : Ty) (text r s : List ℕ) (v w : Value) → Spells d t v text r → Spells d t w text s → (v ≡ w) × (r ≡ s)

abbrev pub SomeOutcome : Type 0
SomeOutcome = (d : Declared) (t : Ty) (text : List ℕ) → IsSchema d → ((v : Value) × (rest : List ℕ) × Spells d t v text rest) ⊎ ((at : ℕ) × (why : ValueWhy) × FaultOf d t text at why)

abbrev pub NotBoth : Type 0
NotBoth = (d : Declared) (t : Ty) (text rest : List ℕ) (v : Value) (at : ℕ) (why : ValueWhy) → Spells d t v text rest → FaultOf d t text at why → ⊥

-- a text begins with a value or with none
abbrev pub ValueOrNone : Declared → Type 0
ValueOrNone d = (t : Ty) (text : List ℕ) → ((v : Value) × (rest : List ℕ) × Spells d t v text rest) ⊎ ((v : Value) (rest : List ℕ) → ¬ (Spells d t v text rest))

-- so it is over a schema
pub value_or_none : (d : Declared) → SomeOutcome → NotBoth → IsSchema d → ValueOrNone d
value_or_none d some not_both schema t text = by_outcome (some d t text schema)
  where
    by_outcome : ((v : Value) × (rest : List ℕ) × Spells d t v text rest) ⊎ ((at : ℕ) × (why : ValueWhy) × FaultOf d t text at why)
        → ((v : Value) × (rest : List ℕ) × Spells d t v text rest) ⊎ ((v : Value) (rest : List ℕ) → ¬ (Spells d t v text rest))
    by_outcome (inl found) = inl found
    by_outcome (inr (at, why, fault)) = inr (λ v rest spells. not_both d t text rest v at why spells fault)

-- ---- one of two

same_bytes : (a b : List ℕ) → (a ≡ b) ⊎ ¬ (a ≡ b)
same_bytes a b = by_test (decided (bytes_eq a b))
  where
    by_test : (bytes_eq a b ≡ true) ⊎ ¬ (bytes_eq a b ≡ true) → (a ≡ b) ⊎ ¬ (a ≡ b)
    by_test (inl same) = inl ((bytes_eq-Decides a b).0 same)
    by_test (inr other) = inr (λ e. other ((bytes_eq-Decides a b).1 e))

-- some member has what each has or has not
some_member : (P : Member → Type 0) → ((m : Member) → P m ⊎ ¬ P m) → (ms : List Member)
    → ((place : ℕ) × (m : Member) × (slice_get ms place ≡ Some m) × P m) ⊎ ((place : ℕ) (m : Member) → slice_get ms place ≡ Some m → ¬ P m)
some_member P each [] = inr (λ place m found holds. cc)
some_member P each (m ∷ ms) = by_first (each m) (some_member P each ms)
  where
    by_first : P m ⊎ ¬ P m → ((place : ℕ) × (n : Member) × (slice_get ms place ≡ Some n) × P n) ⊎ ((place : ℕ) (n : Member) → slice_get ms place ≡ Some n → ¬ P n)
        → ((place : ℕ) × (n : Member) × (slice_get (m ∷ ms) place ≡ Some n) × P n) ⊎ ((place : ℕ) (n : Member) → slice_get (m ∷ ms) place ≡ Some n → ¬ P n)
    by_first (inl holds) later = inl (0, m, refl, holds)
    by_first (inr other) (inl (place, n, found, holds)) = inl (suc place, n, found, holds)
    by_first (inr other) (inr none) = inr nowhere
      where
        nowhere : (place : ℕ) (n : Member) → slice_get (m ∷ ms) place ≡ Some n → ¬ P n
        nowhere zero n found holds = other (subst P (sym (some_is found)) holds)
        nowhere (suc place) n found holds = none place n found holds

module _ (func : FuncDesc) where
  named_or_not : (name : List ℕ) (P : Ty → Type 0) → ((t : Ty) → P t ⊎ ¬ P t) → ((place : ℕ) × NamedAt func name place P) ⊎ ((place : ℕ) → ¬ NamedAt func name place P)
  named_or_not name P each = by_search (some_member (λ m. (m.name ≡ name) × P m.ty) (λ m. pair (same_bytes m.name name) (each m.ty)) (arguments_of func))
    where
      pair : {A B : Type 0} → A ⊎ ¬ A → B ⊎ ¬ B → (A × B) ⊎ ¬ (A × B)
      pair (inl a) (inl b) = inl (a, b)
      pair (inr other) b = inr (λ h. other h.0)
      pair (inl a) (inr other) = inr (λ h. other h.1)

      by_search : ((place : ℕ) × (m : Member) × (slice_get (arguments_of func) place ≡ Some m) × ((m.name ≡ name) × P m.ty))
          ⊎ ((place : ℕ) (m : Member) → slice_get (arguments_of func) place ≡ Some m → ¬ ((m.name ≡ name) × P m.ty))
          → ((place : ℕ) × NamedAt func name place P) ⊎ ((place : ℕ) → ¬ NamedAt func name place P)
      by_search (inl (place, m, found, (named, holds))) = inl (place, (m, found, named, holds))
      by_search (inr none) = inr (λ place h. none place h.0 h.1 (h.2, h.3))

  -- what is returned has what each type has or has not
  returns_or_not : (P : Ty → Type 0) → ((t : Ty) → P t ⊎ ¬ P t) → (o : Option Ty) → Returns o P ⊎ ¬ (Returns o P)
  returns_or_not P each None = inr (λ h. h)
  returns_or_not P each (Some t) = each t

  whole_or_not : (t : Ty) → IsWhole t ⊎ ¬ (IsWhole t)
  whole_or_not t = decided (is_whole (out-Ty t))

  echoed_or_not : (name : List ℕ) → (o : Option Ty) → ((place : ℕ) × Returns o (λ t. NamedAt func name place (λ taken. taken ≡ t))) ⊎ ((place : ℕ) → ¬ (Returns o (λ t. NamedAt func name place (λ taken. taken ≡ t))))
  echoed_or_not name None = inr (λ place h. h)
  echoed_or_not name (Some t) = named_or_not name (λ taken. taken ≡ t) (λ taken. same_or_not taken t)

  added_or_not : (left right : List ℕ) → ((first : ℕ) × (second : ℕ) × AreAdded func left right first second) ⊎ ((first second : ℕ) → ¬ (AreAdded func left right first second))
  added_or_not left right = all (returns_or_not IsWhole whole_or_not func.ret) (named_or_not left IsWhole whole_or_not) (named_or_not right IsWhole whole_or_not)
    where
      all : Returns func.ret IsWhole ⊎ ¬ (Returns func.ret IsWhole)
          → ((place : ℕ) × NamedAt func left place IsWhole) ⊎ ((place : ℕ) → ¬ NamedAt func left place IsWhole)
          → ((place : ℕ) × NamedAt func right place IsWhole) ⊎ ((place : ℕ) → ¬ NamedAt func right place IsWhole)
          → ((first : ℕ) × (second : ℕ) × AreAdded func left right first second) ⊎ ((first second : ℕ) → ¬ (AreAdded func left right first second))
      all (inr other) one two = inr (λ first second h. other h.0)
      all (inl ret) (inr other) two = inr (λ first second h. other first h.1)
      all (inl ret) (inl one) (inr other) = inr (λ first second h. other second h.2)
      all (inl ret) (inl one) (inl two) = inl (one.0, two.0, (ret, one.1, two.1))

module _ (one : OneValue) (d : Declared) where
  module _ (value_or : ValueOrNone d) where
    text_or_not : (t : Ty) (bytes : List ℕ) → ((v : Value) × text.IsWhole d t v bytes) ⊎ ((v : Value) → ¬ (text.IsWhole d t v bytes))
    text_or_not t bytes = by_outcome (value_or t bytes)
      where
        by_gap : (v : Value) (rest gap : List ℕ) → Spells d t v bytes rest → past_gap rest ≡ gap → ((v : Value) × text.IsWhole d t v bytes) ⊎ ((v : Value) → ¬ (text.IsWhole d t v bytes))
        by_gap v rest [] spells is = inl (v, (rest, spells, is))
        by_gap v rest (b ∷ gap) spells is = inr (λ w h. nothing (sym (ap (λ (r : List ℕ). past_gap r) (one d t bytes h.0 rest w v h.1 spells).1 ∙ is) ∙ h.2))
          where
            nothing : b ∷ gap ≡ [] → ⊥
            nothing e = cc

        by_outcome : ((v : Value) × (rest : List ℕ) × Spells d t v bytes rest) ⊎ ((v : Value) (rest : List ℕ) → ¬ (Spells d t v bytes rest))
            → ((v : Value) × text.IsWhole d t v bytes) ⊎ ((v : Value) → ¬ (text.IsWhole d t v bytes))
        by_outcome (inl (v, rest, spells)) = by_gap v rest (past_gap rest) spells refl
        by_outcome (inr none) = inr (λ v h. none v h.0 h.1)

    returned_or_not : (bytes : List ℕ) (o : Option Ty) → ((v : Value) × Returns o (λ t. text.IsWhole d t v bytes)) ⊎ ((v : Value) → ¬ (Returns o (λ t. text.IsWhole d t v bytes)))
    returned_or_not bytes None = inr (λ v h. h)
    returned_or_not bytes (Some t) = text_or_not t bytes

    -- words mean a rule or have a fault
    pub some_rule : (func : FuncDesc) (words : says.Rule) → ((made : Rule) × MeansRule d func words made) ⊎ ((why : RuleFault) × RuleFaultOf d func words why)
    some_rule func (says.value bytes) = told (returned_or_not bytes func.ret)
      where
        told : ((v : Value) × SaysReturned d func bytes v) ⊎ ((v : Value) → ¬ (SaysReturned d func bytes v))
            → ((made : Rule) × MeansRule d func (says.value bytes) made) ⊎ ((why : RuleFault) × RuleFaultOf d func (says.value bytes) why)
        told (inl (v, h)) = inl (rule.Value v, (v, refl, h))
        told (inr none) = inr (BadValue, (refl, none))
    some_rule func (says.echo name) = told (echoed_or_not func name func.ret)
      where
        told : ((place : ℕ) × IsEchoed func name place) ⊎ ((place : ℕ) → ¬ (IsEchoed func name place))
            → ((made : Rule) × MeansRule d func (says.echo name) made) ⊎ ((why : RuleFault) × RuleFaultOf d func (says.echo name) why)
        told (inl (place, h)) = inl (rule.Echo place, (place, refl, h))
        told (inr none) = inr (UnknownName, (refl, none))
    some_rule func (says.add left right) = told (added_or_not func left right)
      where
        told : ((first : ℕ) × (second : ℕ) × AreAdded func left right first second) ⊎ ((first second : ℕ) → ¬ (AreAdded func left right first second))
            → ((made : Rule) × MeansRule d func (says.add left right) made) ⊎ ((why : RuleFault) × RuleFaultOf d func (says.add left right) why)
        told (inl (first, second, h)) = inl (rule.Add first second, (first, second, refl, h))
        told (inr none) = inr (UnknownName, (refl, none))
    some_rule func (says.code number) = inl (rule.Code number, refl)
    some_rule func says.silent = inl (rule.Silent, refl)

  module _ (func : FuncDesc) where
    -- and no two rules
    pub same_rule : (words : says.Rule) (a b : Rule) → AreParams func.params → MeansRule d func words a → MeansRule d func words b → a ≡ b
    same_rule (says.value bytes) a b params (v, is, h) (w, also, k) = is ∙ ap (λ (x : Value). rule.Value x) (by_return func.ret h k) ∙ sym also
      where
        by_return : (o : Option Ty) → Returns o (λ t. text.IsWhole d t v bytes) → Returns o (λ t. text.IsWhole d t w bytes) → v ≡ w
        by_return None h k = absurd h
        by_return (Some t) h k = (one d t bytes h.0 k.0 v w h.1 k.1).0
    same_rule (says.echo name) a b params (m, is, h) (n, also, k) = is ∙ ap (λ (x : ℕ). rule.Echo x) (by_return func.ret h k) ∙ sym also
      where
        by_return : (o : Option Ty) → Returns o (λ t. NamedAt func name m (λ taken. taken ≡ t)) → Returns o (λ t. NamedAt func name n (λ taken. taken ≡ t)) → m ≡ n
        by_return None h k = absurd h
        by_return (Some t) h k = one_named func name m n (λ taken. taken ≡ t) (λ taken. taken ≡ t) params h k
    same_rule (says.add left right) a b params (m, n, is, h) (i, j, also, k) =
        is ∙ ap₂ (λ (x y : ℕ). rule.Add x y) (one_named func left m i IsWhole IsWhole params h.1 k.1) (one_named func right n j IsWhole IsWhole params h.2 k.2) ∙ sym also
    same_rule (says.code number) a b params is also = is ∙ sym also
    same_rule says.silent a b params is also = is ∙ sym also

    pub same_fault : (words : says.Rule) (a b : RuleFault) → RuleFaultOf d func words a → RuleFaultOf d func words b → a ≡ b
    same_fault (says.value bytes) a b h k = h.0 ∙ sym k.0
    same_fault (says.echo name) a b h k = h.0 ∙ sym k.0
    same_fault (says.add left right) a b h k = h.0 ∙ sym k.0
    same_fault (says.code number) a b h k = absurd h
    same_fault says.silent a b h k = absurd h

    pub not_both_of : (words : says.Rule) (made : Rule) (why : RuleFault) → MeansRule d func words made → ¬ (RuleFaultOf d func words why)
    not_both_of (says.value bytes) made why (v, is, h) fault = fault.1 v h
    not_both_of (says.echo name) made why (place, is, h) fault = fault.1 place h
    not_both_of (says.add left right) made why (first, second, is, h) fault = fault.1 first second h
    not_both_of (says.code number) made why h fault = fault
    not_both_of says.silent made why h fault = fault
