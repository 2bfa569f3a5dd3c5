-- What a servant is: what it replies to a call, after the calls that came before it (docs/PROTOCOL.md, "Servants").
use Rattle.std.specs.Prelude.{◌≡◌, ◌≢◌, ℕ, pos, true, List, ◌∷◌, ◌++◌, Some, slice_get}
use Rattle.tars_model.specs.Declarations.{Declared}
use Rattle.tars_model.specs.Members.{arguments_of, reply_members_of}
use Rattle.tars_model.specs.Values.{fit_members}
use Rattle.tars_model.specs.declared.func_desc.FuncDesc.{FuncDesc}
use Rattle.tars_model.specs.declared.member.Member.{Member}
use Rattle.tars_model.specs.declared.value.Value.{Value}
use Rattle.servant_core.specs.declared.replies.Reply.{Reply}
use Rattle.servant_core.specs.declared.replies.Reply.TheVariants.{Values, Code, Silent}

-- a call that a servant handled: the function's number in its interface, and the moment in milliseconds
pub record Handled : Type 0 where
  pub func : ℕ
  pub args : List Value
  pub moment : ℕ

-- the reply to a call after earlier ones, the first of them first
abbrev pub Meaning : Type 0
Meaning = List Handled → Handled → Reply

-- what a servant is after one more call
abbrev pub IsNext : Meaning → Handled → Meaning → Type 0
IsNext old call new = (earlier : List Handled) (last : Handled) → new earlier last ≡ old (call ∷ earlier) last

-- what it is after these calls
abbrev pub IsAfter : Meaning → List Handled → Meaning → Type 0
IsAfter start calls now = (earlier : List Handled) (last : Handled) → now earlier last ≡ start (calls ++ earlier) last

-- whatever it handled before, its replies fit
abbrev pub Always : (Handled → Reply → Type 0) → Meaning → Type 0
Always IsFit meaning = (earlier : List Handled) (last : Handled) → IsFit last (meaning earlier last)

-- values that fit the members of a reply, or a code other than 0
abbrev pub IsReplyUnder : Declared → List Member → Reply → Type 0
IsReplyUnder d members (Values values) = fit_members d members values ≡ true
IsReplyUnder d members (Code n) = n ≢ pos 0
IsReplyUnder d members Silent = Unit {0}

-- a reply that fits its call, if the call is one of these functions with arguments that fit it
abbrev pub IsSuited : Declared → List FuncDesc → Handled → Reply → Type 0
IsSuited d funcs call reply =
    (func : FuncDesc) → slice_get funcs call.func ≡ Some func → fit_members d (arguments_of func) call.args ≡ true → IsReplyUnder d (reply_members_of func) reply
