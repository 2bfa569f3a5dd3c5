-- What is answered to a request, by its fields and by what the servant replies (docs/PROTOCOL.md, "Return codes").
use Rattle.std.specs.Prelude.{ℕ, ◌==◌, ℤ, pos, negsuc, neg_ℤ, Bool, false, not, is_none, if◌then◌else◌, nat_lt, Option, Some, None, List, [], ◌∷◌, length, position, slice_get, codes}
use Rattle.std.specs.Str.{bytes_eq}
use Rattle.tars_model.specs.Declarations.{Declared}
use Rattle.tars_model.specs.Members.{arguments_of, reply_members_of}
use Rattle.tars_model.specs.declared.func_desc.FuncDesc.{FuncDesc}
use Rattle.tars_model.specs.declared.member.Member.{Member}
use Rattle.tars_model.specs.declared.value.Value.{Value}
use Rattle.tars_codec.specs.Written.{written}
use Rattle.tars_frames.specs.Streams.{LONGEST}
use Rattle.rpc_packet.specs.Bodies.{values_of}
use Rattle.rpc_packet.specs.Packets.{response_frame}
use Rattle.rpc_packet.specs.declared.request.Request.{Request}
use Rattle.rpc_packet.specs.declared.response.Response.{Response}
use Rattle.servant_core.specs.Functions.{functions_of}
use Rattle.servant_core.specs.Servants.{Handled}
use Rattle.servant_core.specs.declared.replies.Reply.{Reply}
use Rattle.servant_core.specs.declared.replies.Reply.TheVariants.{Values, Code, Silent}

-- ---- return codes

abbrev pub SUCCESS : ℤ
SUCCESS = pos 0

-- the request or its arguments do not read
abbrev pub NOT_READ : ℤ
NOT_READ = neg_ℤ (pos 1)

-- what comes back is too long
abbrev pub TOO_LONG : ℤ
TOO_LONG = neg_ℤ (pos 2)

-- the interface has no such function
abbrev pub NO_FUNCTION : ℤ
NO_FUNCTION = neg_ℤ (pos 3)

-- there is no such servant
abbrev pub NO_SERVANT : ℤ
NO_SERVANT = neg_ℤ (pos 4)

-- a request waited in the node's queue for longer than it may
abbrev pub QUEUE_TIMEOUT : ℤ
QUEUE_TIMEOUT = neg_ℤ (pos 6)

-- the node's queue is full
abbrev pub OVERLOAD : ℤ
OVERLOAD = neg_ℤ (pos 9)

-- ---- what a request asks for

-- a function that every servant has, by which a caller asks whether it is there
unfoldable pub PING : List ℕ
PING = codes "tars_ping"

-- version 1, or a one-way packet type
abbrev pub is_one : ℤ → Bool
is_one (pos n) = n == 1
is_one (negsuc n) = false

-- the number of the function of its name
abbrev pub asked_function : List FuncDesc → Request → Option ℕ
asked_function funcs r = position (λ (func : FuncDesc). bytes_eq r.func func.name) funcs

-- the arguments that its body says for this function
abbrev pub arguments_for : Declared → Option FuncDesc → List ℕ → Option (List Value)
arguments_for d None body = None
arguments_for d (Some func) body = values_of d (arguments_of func) body

-- and for the function of a number
abbrev pub arguments_at : Declared → List FuncDesc → Option ℕ → List ℕ → Option (List Value)
arguments_at d funcs None body = None
arguments_at d funcs (Some number) body = arguments_for d (slice_get funcs number) body

-- the arguments for the function of its name
abbrev pub asked_arguments : Declared → List FuncDesc → Request → Option (List Value)
asked_arguments d funcs r = arguments_at d funcs (asked_function funcs r) r.body

-- the call of a function with arguments
abbrev pub call_at : ℕ → Option ℕ → Option (List Value) → Option Handled
call_at moment (Some func) (Some args) = Some (record { func = func; args = args; moment = moment })
call_at moment _ _ = None

-- the call that it asks for, at a moment
abbrev pub asked_call : Declared → List FuncDesc → Request → ℕ → Option Handled
asked_call d funcs r moment = call_at moment (asked_function funcs r) (asked_arguments d funcs r)

-- ---- the cases in which no servant is asked

-- in their order, each with its code: another version, another servant, a ping, no such function, arguments that do not read
abbrev pub cases : Declared → List FuncDesc → List ℕ → Request → List (Bool × ℤ)
cases d funcs name r =
    (not (is_one r.version), NOT_READ)
    ∷ (not (bytes_eq r.servant name), NO_SERVANT)
    ∷ (bytes_eq r.func PING, SUCCESS)
    ∷ (is_none (asked_function funcs r), NO_FUNCTION)
    ∷ (is_none (asked_arguments d funcs r), NOT_READ)
    ∷ []

-- the code of the first case that holds
abbrev pub first_code : List (Bool × ℤ) → Option ℤ
first_code [] = None
first_code (case ∷ cases) = if case.0 then Some case.1 else first_code cases

-- for the functions of an interface
unfoldable pub refusal : Declared → ℕ → List ℕ → Request → Option ℤ
refusal d interface name r = first_code (cases d (functions_of d interface) name r)

-- ---- responses

-- a response to a request: version 1, packet type 0, its id and message type, no status and no description
abbrev pub response_to : Request → ℤ → List ℕ → Response
response_to r code body =
    record { version = pos 1; kind = pos 0; id = r.id; message = r.message; ret = code; body = body; status = []; note = [] }

-- a return code with an empty body
abbrev pub code_alone : Request → ℤ → Response
code_alone r code = response_to r code []

-- the members of what comes back of a function
abbrev pub members_returned : Option FuncDesc → List Member
members_returned None = []
members_returned (Some func) = reply_members_of func

-- it would be longer than a packet may be
abbrev pub is_long : Request → List ℕ → Bool
is_long r body = nat_lt LONGEST (length (response_frame (response_to r SUCCESS body)))

-- success with this body, or the code alone where that would be too long
abbrev pub within_limit : Request → List ℕ → Response
within_limit r body = if is_long r body then code_alone r TOO_LONG else response_to r SUCCESS body

-- what a servant replies, for a function
abbrev pub replied : Declared → Option FuncDesc → Request → Reply → Option Response
replied d func r (Code n) = Some (code_alone r n)
replied d func r (Values values) = Some (within_limit r (written d (members_returned func) values))
replied d func r Silent = None

-- ---- what is answered

-- to a call of one of these functions, by what the servant replies
abbrev pub answered_call : Declared → List FuncDesc → (Handled → Reply) → Request → Option Handled → Option Response
answered_call d funcs reply r None = None
answered_call d funcs reply r (Some call) = replied d (slice_get funcs call.func) r (reply call)

-- by the first case that holds, or else by the call
abbrev pub answered_by : Declared → List FuncDesc → (Handled → Reply) → Request → Option Handled → Option ℤ → Option Response
answered_by d funcs reply r call (Some code) = Some (code_alone r code)
answered_by d funcs reply r call None = answered_call d funcs reply r call

-- the response that a two-way request gets, if it gets one
abbrev pub answered_two_way : Declared → ℕ → List ℕ → (Handled → Reply) → Request → ℕ → Option Response
answered_two_way d interface name reply r now =
    answered_by d (functions_of d interface) reply r (asked_call d (functions_of d interface) r now) (refusal d interface name r)

-- what the servant handles: the call, where none of the cases holds, also of a one-way request
abbrev pub handled_where : Option ℤ → Option Handled → List Handled
handled_where None (Some call) = call ∷ []
handled_where _ _ = []

-- by the functions of an interface
unfoldable pub handled_by : Declared → ℕ → List ℕ → Request → ℕ → List Handled
handled_by d interface name r now = handled_where (refusal d interface name r) (asked_call d (functions_of d interface) r now)

-- a one-way request gets no response
unfoldable pub answered : Declared → ℕ → List ℕ → (Handled → Reply) → Request → ℕ → Option Response
answered d interface name reply r now = if is_one r.kind then None else answered_two_way d interface name reply r now

-- a return code to a request that no servant sees; a one-way request gets no response
unfoldable pub unseen : Request → ℤ → Option Response
unseen r code = if is_one r.kind then None else Some (code_alone r code)
