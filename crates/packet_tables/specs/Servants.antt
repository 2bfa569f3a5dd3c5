-- The servants that rows ask (docs/PROTOCOL.md, "Servants").
use Rattle.std.specs.Prelude.{◌≡◌, ◌<◌, ◌+◌, ◌-◌, ◌^◌, ℕ, min, pos, if◌then◌else◌, Option, Some, None, List, [], ◌∷◌, length, slice_get}
use Rattle.servant_core.specs.Functions.{functions_of}
use Rattle.servant_core.specs.Rules.{UNKNOWN, IsRuleOf}
use Rattle.servant_core.specs.Servants.{Always, IsSuited, Meaning}
use Rattle.servant_core.specs.Tables.{Table}
use Rattle.servant_core.specs.declared.replies.Reply.{Reply}
use Rattle.servant_core.specs.declared.replies.Reply.TheVariants.{Values, Code}
use Rattle.servant_core.specs.declared.rules.Rule.{Rule}
use Rattle.tars_model.specs.Declarations.{Declared}
use Rattle.tars_model.specs.Members.{reply_members_of}
use Rattle.tars_model.specs.Values.{fits}
use Rattle.tars_model.specs.declared.func_desc.FuncDesc.{FuncDesc}
use Rattle.tars_model.specs.declared.member.Member.{Member}
use Rattle.tars_model.specs.declared.value.Value.{Num}

-- whatever the servant handled before, its replies fit the calls of an interface
abbrev pub SuitsAt : Declared → ℕ → Meaning → Type 0
SuitsAt d interface meaning = Always (IsSuited d (functions_of d interface)) meaning

-- a number of the interface's functions, and a rule that fits it
pub record IsRuleFor (d : Declared) (interface k : ℕ) (rule : Rule) : Type 0 where
  pub there : k < length (functions_of d interface)
  pub fits : (func : FuncDesc) → slice_get (functions_of d interface) k ≡ Some func → IsRuleOf d func rule

-- a table for the interface of a schema
abbrev pub IsTableOver : Declared → ℕ → Table → Type 0
IsTableOver d interface table = (table.schema ≡ d) × (table.interface ≡ interface)

-- the interface of a number in a schema, and how many calls of it were handled
pub record Counting : Type 0 where
  pub schema : Declared
  pub interface : ℕ
  pub handled : ℕ

-- a number as the one value of a reply
abbrev pub counted : Declared → List Member → ℕ → Reply
counted d (m ∷ []) n = if fits d m.ty (Num (pos n)) then Values (Num (pos n) ∷ []) else Code UNKNOWN
counted d _ n = Code UNKNOWN

-- as the reply of a function
abbrev pub counted_by : Declared → Option FuncDesc → ℕ → Reply
counted_by d None n = Code UNKNOWN
counted_by d (Some func) n = counted d (reply_members_of func) n

-- so many calls and one more, as far as the count goes
abbrev pub one_more : ℕ → ℕ
one_more n = min (n + 1) (2 ^ 32 - 1)
