-- What the words of a rule mean, and what is found of it.
use Rattle.std.proofs.Common.{◌≡◌, ℕ, Option, Some, None, Result, Ok, Err, List, refl, sym, ap₂, ◌∙◌, subst, IsErr, IsErrAnd}
use Rattle.script_lines.specs.Meanings as says
use Rattle.servant_core.specs.Rules.{IsWhole, Returns, TakesAt}
use Rattle.servant_core.specs.declared.rules.Rule.{Rule}
use Rattle.servant_core.specs.declared.rules.Rule.TheVariants as rule
use Rattle.tars_model.specs.Declarations.{Declared}
use Rattle.tars_model.specs.declared.func_desc.FuncDesc.{FuncDesc}
use Rattle.tars_model.specs.declared.ty.Ty.{Ty}
use Rattle.tars_model.specs.declared.value.Value.{Value}
use Rattle.value_text.specs.Answers.{GivesWhole}
use Rattle.value_text.specs.declared.value_fault.ValueFault.{ValueFault}
use Rattle.value_text.specs.declared.value_fault.ValueFault.TheVariants as value
use Rattle.script_rules.specs.Outcomes.{Gives, OnMemory}
use Rattle.script_rules.specs.Rules.{NamedAt, IsEchoed, AreAdded, MeansRule, RuleFaultOf}
use Rattle.script_rules.specs.declared.rule_fault.RuleFault.{RuleFault}
use Rattle.script_rules.specs.declared.rule_fault.RuleFault.TheVariants.{UnknownName}
use Rattle.script_rules.proofs.Names.{some_is}

-- ---- what is returned

pub returns_at : (P : Ty → Type 0) (o : Option Ty) (t : Ty) → o ≡ Some t → Returns o P → P t
returns_at P None t is holds = absurd cc
returns_at P (Some u) t is holds = subst P (some_is is) holds

pub returns_from : (P : Ty → Type 0) (o : Option Ty) (t : Ty) → o ≡ Some t → P t → Returns o P
returns_from P None t is holds = absurd cc
returns_from P (Some u) t is holds = subst P (sym (some_is is)) holds

-- ---- parameters

-- a parameter of such a type has some type
pub exact : (func : FuncDesc) (name : List ℕ) (place : ℕ) (P : Ty → Type 0) → NamedAt func name place P → (t : Ty) × NamedAt func name place (λ taken. taken ≡ t) × P t
exact func name place P (m, found, named, holds) = (m.ty, (m, found, named, refl), holds)

pub with_type : (func : FuncDesc) (name : List ℕ) (place : ℕ) (P : Ty → Type 0) (t : Ty) → NamedAt func name place (λ taken. taken ≡ t) → P t → NamedAt func name place P
with_type func name place P t (m, found, named, is) holds = (m, found, named, subst P (sym is) holds)

pub some_apart : {A : Type 0} {x : A} → None ≡ Some x → ⊥
some_apart e = cc

-- ---- values

-- the fault of a value is a fault of the rule
pub gives_err : (r : Result Value RuleFault) (fault : ValueFault) (v : Value) → IsErr r × IsErrAnd r (λ e. OnMemory fault e) → GivesWhole (Err fault) v → Gives r v
gives_err (Ok w) fault v err whole = absurd cc
gives_err (Err e) (value.Bad at why) v err whole = absurd whole
gives_err (Err e) value.Memory v err whole = subst (λ (x : RuleFault). Gives (Err x) v) (sym err.1) tt

-- ---- rules fit

takes : (func : FuncDesc) (name : List ℕ) (place : ℕ) (P : Ty → Type 0) → NamedAt func name place P → TakesAt func place P
takes func name place P (m, found, named, holds) = (m, found, holds)

pub echo_fits : (func : FuncDesc) (name : List ℕ) (place : ℕ) → IsEchoed func name place → Returns func.ret (λ t. TakesAt func place (λ taken. taken ≡ t))
echo_fits func name place at = by_return func.ret at
  where
    by_return : (o : Option Ty) → Returns o (λ t. NamedAt func name place (λ taken. taken ≡ t)) → Returns o (λ t. TakesAt func place (λ taken. taken ≡ t))
    by_return None h = h
    by_return (Some t) h = takes func name place (λ taken. taken ≡ t) h

pub add_fits : (func : FuncDesc) (left right : List ℕ) (first second : ℕ) → AreAdded func left right first second
    → Returns func.ret IsWhole × TakesAt func first IsWhole × TakesAt func second IsWhole
add_fits func left right first second at = (at.0, takes func left first IsWhole at.1, takes func right second IsWhole at.2)

-- ---- sums

module _ (d : Declared) (func : FuncDesc) (words : says.Rule) (left right : List ℕ) (is : words ≡ says.add left right) where
  pub add_means : (first second : ℕ) → AreAdded func left right first second → MeansRule d func words (rule.Add first second)
  add_means first second at = subst (λ (w : says.Rule). MeansRule d func w (rule.Add first second)) (sym is) (first, second, refl, at)

  pub add_only : (first second : ℕ) → ((a b : ℕ) → AreAdded func left right a b → (first ≡ a) × (second ≡ b))
      → (made : Rule) → MeansRule d func words made → rule.Add first second ≡ made
  add_only first second only made means =
      let m = subst (λ (w : says.Rule). MeansRule d func w made) is means in
      let same = only m.0 m.1 m.3 in
      ap₂ (λ (a b : ℕ). rule.Add a b) same.0 same.1 ∙ sym m.2

  pub add_refused : (first second : ℕ) → AreAdded func left right first second → (why : RuleFault) → ¬ (RuleFaultOf d func words why)
  add_refused first second at why fault = (subst (λ (w : says.Rule). RuleFaultOf d func w why) is fault).1 first second at

  module _ (none : (first second : ℕ) → ¬ (AreAdded func left right first second)) where
    pub add_none : (made : Rule) → ¬ (MeansRule d func words made)
    add_none made means = let m = subst (λ (w : says.Rule). MeansRule d func w made) is means in none m.0 m.1 m.3

    pub add_fault : RuleFaultOf d func words UnknownName
    add_fault = subst (λ (w : says.Rule). RuleFaultOf d func w UnknownName) (sym is) (refl, none)
