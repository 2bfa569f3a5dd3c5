-- What the words of a rule mean over a function, or their fault (docs/SCRIPTS.md, "Scripts").
use Rattle.std.specs.Prelude.{◌≡◌, ◌≢◌, ◌≤◌, ℕ, pos, Some, List, length, slice_get}
use Rattle.script_lines.specs.Meanings as says
use Rattle.script_lines.specs.TextLimits.{MAX_LINE}
use Rattle.servant_core.specs.Rules.{IsWhole, Returns}
use Rattle.servant_core.specs.declared.rules.Rule.{Rule}
use Rattle.servant_core.specs.declared.rules.Rule.TheVariants as rule
use Rattle.tars_model.specs.Declarations.{Declared}
use Rattle.tars_model.specs.Members.{arguments_of}
use Rattle.tars_model.specs.declared.func_desc.FuncDesc.{FuncDesc}
use Rattle.tars_model.specs.declared.member.Member.{Member}
use Rattle.tars_model.specs.declared.ty.Ty.{Ty}
use Rattle.tars_model.specs.declared.value.Value.{Value}
use Rattle.value_text.specs.Spelling as text
use Rattle.script_rules.specs.declared.rule_fault.RuleFault.{RuleFault}
use Rattle.script_rules.specs.declared.rule_fault.RuleFault.TheVariants.{UnknownName, BadValue}

-- the parameter at this place, among those that are not `out`, has this name, and such a type
abbrev pub NamedAt : FuncDesc → List ℕ → ℕ → (Ty → Type 0) → Type 0
NamedAt func name place P = (m : Member) × (slice_get (arguments_of func) place ≡ Some m) × (m.name ≡ name) × P m.ty

-- the text says this value, of the type that is returned
abbrev pub SaysReturned : Declared → FuncDesc → List ℕ → Value → Type 0
SaysReturned d func bytes value = Returns func.ret (λ t. text.IsWhole d t value bytes)

-- the parameter of this name is at the place, and of just the type that is returned
abbrev pub IsEchoed : FuncDesc → List ℕ → ℕ → Type 0
IsEchoed func name place = Returns func.ret (λ t. NamedAt func name place (λ taken. taken ≡ t))

-- the parameters of these names are at the places, and they and what is returned are whole numbers
abbrev pub AreAdded : FuncDesc → List ℕ → List ℕ → ℕ → ℕ → Type 0
AreAdded func left right first second = Returns func.ret IsWhole × NamedAt func left first IsWhole × NamedAt func right second IsWhole

-- the words mean this rule of the function
abbrev pub MeansRule : Declared → FuncDesc → says.Rule → Rule → Type 0
MeansRule d func (says.value bytes) made = (value : Value) × (made ≡ rule.Value value) × SaysReturned d func bytes value
MeansRule d func (says.echo name) made = (place : ℕ) × (made ≡ rule.Echo place) × IsEchoed func name place
MeansRule d func (says.add left right) made = (first second : ℕ) × (made ≡ rule.Add first second) × AreAdded func left right first second
MeansRule d func (says.code number) made = made ≡ rule.Code number
MeansRule d func says.silent made = made ≡ rule.Silent

-- Where words mean no rule, a value is bad, also that of a function which returns nothing; and a name is unknown, also one of a parameter
-- that is `out` or of another type.
abbrev pub RuleFaultOf : Declared → FuncDesc → says.Rule → RuleFault → Type 0
RuleFaultOf d func (says.value bytes) why = (why ≡ BadValue) × ((value : Value) → ¬ (SaysReturned d func bytes value))
RuleFaultOf d func (says.echo name) why = (why ≡ UnknownName) × ((place : ℕ) → ¬ (IsEchoed func name place))
RuleFaultOf d func (says.add left right) why = (why ≡ UnknownName) × ((first second : ℕ) → ¬ (AreAdded func left right first second))
RuleFaultOf d func (says.code number) why = ⊥
RuleFaultOf d func says.silent why = ⊥

-- what is judged before: a value's text is no longer than a line, and a code is not 0
abbrev pub IsJudged : says.Rule → Type 0
IsJudged (says.value bytes) = length bytes ≤ MAX_LINE
IsJudged (says.code number) = number ≢ pos 0
IsJudged _ = Unit {0}

-- the same of an event: the name in a call and what it says of its arguments are no longer than a line
abbrev pub IsJudgedEvent : says.Event → Type 0
IsJudgedEvent (says.call func args) = (length func ≤ MAX_LINE) × (length args ≤ MAX_LINE)
IsJudgedEvent _ = Unit {0}
