-- What a table of rules replies (docs/PROTOCOL.md, "Servants").
use Rattle.std.specs.Prelude.{◌≡◌, ◌≢◌, ℕ, ℤ, pos, neg_ℤ, ◌+ℤ◌, Bool, true, false, if◌then◌else◌, Option, Some, None, List, [], ◌∷◌, slice_get, slice_index_or}
use Rattle.tars_model.specs.Declarations.{Declared}
use Rattle.tars_model.specs.Members.{arguments_of}
use Rattle.tars_model.specs.Types.{TyLayer}
use Rattle.tars_model.specs.Values.{fits, default_of}
use Rattle.tars_model.specs.declared.func_desc.FuncDesc.{FuncDesc}
use Rattle.tars_model.specs.declared.func_desc.Param.{Param}
use Rattle.tars_model.specs.declared.member.Member.{Member}
use Rattle.tars_model.specs.declared.ty.Ty.{Ty, out-Ty}
use Rattle.tars_model.specs.declared.ty.Ty.TheOpen as ty
use Rattle.tars_model.specs.declared.value.Value.{Value, Num, out-Value}
use Rattle.tars_model.specs.declared.value.Value.TheOpen as layer
use Rattle.tars_model.specs.declared.value.Pair.{Pair}
use Rattle.servant_core.specs.Servants.{Handled}
use Rattle.servant_core.specs.declared.replies.Reply.{Reply}
use Rattle.servant_core.specs.declared.replies.Reply.TheVariants.{Values, Code, Silent}
use Rattle.servant_core.specs.declared.rules.Rule.{Rule}
use Rattle.servant_core.specs.declared.rules.Rule.TheVariants as rule

-- the return code of an unknown error
abbrev pub UNKNOWN : ℤ
UNKNOWN = neg_ℤ (pos 99)

-- ---- which rules fit a function

-- the types of whole numbers; an enum and a bool are none of them
abbrev pub is_whole : TyLayer → Bool
is_whole ty.Byte = true
is_whole ty.Short = true
is_whole ty.Int = true
is_whole ty.Long = true
is_whole ty.UByte = true
is_whole ty.UShort = true
is_whole ty.UInt = true
is_whole _ = false

-- a type of whole numbers
abbrev pub IsWhole : Ty → Type 0
IsWhole t = is_whole (out-Ty t) ≡ true

-- what the function returns has such a type
abbrev pub Returns : Option Ty → (Ty → Type 0) → Type 0
Returns None P = ⊥
Returns (Some t) P = P t

-- the argument at this place has such a type
abbrev pub TakesAt : FuncDesc → ℕ → (Ty → Type 0) → Type 0
TakesAt func place P = (m : Member) × (slice_get (arguments_of func) place ≡ Some m) × P m.ty

-- a value that may be returned, an argument of just that type, a sum of whole numbers, a code other than 0, or none of these
abbrev pub IsRuleOf : Declared → FuncDesc → Rule → Type 0
IsRuleOf d func (rule.Value value) = Returns func.ret (λ t. fits d t value ≡ true)
IsRuleOf d func (rule.Echo place) = Returns func.ret (λ t. TakesAt func place (λ taken. taken ≡ t))
IsRuleOf d func (rule.Add first second) = Returns func.ret IsWhole × TakesAt func first IsWhole × TakesAt func second IsWhole
IsRuleOf d func (rule.Code n) = n ≢ pos 0
IsRuleOf d func rule.Silent = Unit {0}

-- a function's rule fits it, where it has one
abbrev pub IsOptionalRuleOf : Declared → FuncDesc → Option Rule → Type 0
IsOptionalRuleOf d func None = Unit {0}
IsOptionalRuleOf d func (Some rule) = IsRuleOf d func rule

-- the rules, by the functions' numbers
abbrev pub AreRulesOf : Declared → List FuncDesc → List (Option Rule) → Type 0
AreRulesOf d funcs rules = (k : ℕ) (func : FuncDesc) → slice_get funcs k ≡ Some func → IsOptionalRuleOf d func (slice_index_or rules k None)

-- ---- what is replied

-- what comes back in parameters has the defaults of its types
abbrev pub out_defaults : Declared → List Param → List Value
out_defaults d [] = []
out_defaults d (p ∷ params) = if p.out then default_of d p.ty ∷ out_defaults d params else out_defaults d params

-- this is returned
abbrev pub returning : Declared → FuncDesc → Value → Reply
returning d func value = Values (value ∷ out_defaults d func.params)

-- the default is returned, and nothing where the function is void
abbrev pub returning_default : Declared → FuncDesc → Option Ty → Reply
returning_default d func None = Values (out_defaults d func.params)
returning_default d func (Some t) = returning d func (default_of d t)

-- a sum is returned where it is one of the type's numbers
abbrev pub returning_sum : Declared → FuncDesc → Option Ty → ℤ → Reply
returning_sum d func None sum = Code UNKNOWN
returning_sum d func (Some t) sum = if fits d t (Num sum) then returning d func (Num sum) else Code UNKNOWN

-- the argument at a place
abbrev pub argument : List Value → ℕ → Value
argument args place = slice_index_or args place (Num (pos 0))

-- the number that a value is
abbrev pub number_of : layer.Value-F Value Pair → ℤ
number_of (layer.Num n) = n
number_of _ = pos 0

-- the number at a place
abbrev pub summand : List Value → ℕ → ℤ
summand args place = number_of (out-Value (argument args place))

-- the reply by a rule, or without one
abbrev pub reply_by : Declared → FuncDesc → Option Rule → List Value → Reply
reply_by d func None args = returning_default d func func.ret
reply_by d func (Some (rule.Value value)) args = returning d func value
reply_by d func (Some (rule.Echo place)) args = returning d func (argument args place)
reply_by d func (Some (rule.Add first second)) args = returning_sum d func func.ret (summand args first +ℤ summand args second)
reply_by d func (Some (rule.Code n)) args = Code n
reply_by d func (Some rule.Silent) args = Silent

-- a function that is not there has an unknown error
abbrev pub reply_of : Declared → Option FuncDesc → Option Rule → List Value → Reply
reply_of d None rule args = Code UNKNOWN
reply_of d (Some func) rule args = reply_by d func rule args

-- the reply to a call, by the rule of its function
abbrev pub table_reply : Declared → List FuncDesc → List (Option Rule) → Handled → Reply
table_reply d funcs rules call = reply_of d (slice_get funcs call.func) (slice_index_or rules call.func None) call.args
