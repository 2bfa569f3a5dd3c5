-- Which bodies are too long.
use Rattle.std.proofs.Common.{◌≡◌, ◌≤◌, ◌<◌, ◌+◌, ℕ, ℤ, Bool, true, false, cond, Option, None, Some, List, length, refl, sym, arith, lt-ltb, ltb-false}
use Rattle.std.specs.Prelude.{IfSome, slice_get}
use Rattle.std.proofs.lemmas.Bool.{le-ltb}
use Rattle.tars_model.specs.Declarations.{Declared}
use Rattle.tars_model.specs.declared.func_desc.FuncDesc.{FuncDesc}
use Rattle.tars_codec.specs.Written.{written}
use Rattle.tars_frames.specs.Streams.{LONGEST}
use Rattle.rpc_packet.proofs.CallerLemmas.{response_length, response_body_within}
use Rattle.rpc_packet.specs.Packets.{response_frame}
use Rattle.rpc_packet.specs.declared.request.Request.{Request}
use Rattle.rpc_packet.specs.declared.response.Response.{Response}
use Rattle.servant_core.specs.Answers.{SUCCESS, TOO_LONG, is_one, response_to, code_alone, is_long, members_returned, within_limit, replied, answered_call, answered_by, answered_two_way, answered, unseen, asked_call, refusal}
use Rattle.servant_core.specs.Functions.{functions_of}
use Rattle.servant_core.specs.Servants.{Handled}
use Rattle.servant_core.specs.declared.replies.Reply.{Reply}
use Rattle.servant_core.specs.declared.replies.Reply.TheVariants.{Values, Code, Silent}

pub long_body : (r : Request) (body : List ℕ) → LONGEST < length body → true ≡ is_long r body
long_body r body long =
    let least = response_body_within (response_to r SUCCESS body) in
    sym (lt-ltb LONGEST (length (response_frame (response_to r SUCCESS body))) (omega (arith, least, long)))

pub short_body : (r : Request) (body : List ℕ) → length body + 128 ≤ LONGEST → false ≡ is_long r body
short_body r body short =
    let most = response_length (response_to r SUCCESS body) refl in
    sym (le-ltb LONGEST (length (response_frame (response_to r SUCCESS body))) (omega (arith, most, short)))

pub long_values : (r : Request) (body : List ℕ) → LONGEST < length body → code_alone r TOO_LONG ≡ within_limit r body
long_values r body long = rw (sym (long_body r body long)) refl

-- ---- what is answered is a packet

abbrev IsShort : Response → Type 0
IsShort response = length (response_frame response) ≤ LONGEST

code_short : (r : Request) (code : ℤ) → IsShort (code_alone r code)
code_short r code = let most = response_length (code_alone r code) refl in omega (arith, most)

limited_short : (r : Request) (body : List ℕ) → IsShort (within_limit r body)
limited_short r body = by_test (is_long r body) refl
  where
    by_test : (b : Bool) → is_long r body ≡ b → IsShort (cond b (code_alone r TOO_LONG) (response_to r SUCCESS body))
    by_test true long = code_short r TOO_LONG
    by_test false short = ltb-false LONGEST (length (response_frame (response_to r SUCCESS body))) short

replied_short : (d : Declared) (func : Option FuncDesc) (r : Request) (reply : Reply) → IfSome (replied d func r reply) IsShort
replied_short d func r (Values values) = limited_short r (written d (members_returned func) values)
replied_short d func r (Code n) = code_short r n
replied_short d func r Silent = tt

call_short : (d : Declared) (funcs : List FuncDesc) (reply : Handled → Reply) (r : Request) (call : Option Handled) → IfSome (answered_call d funcs reply r call) IsShort
call_short d funcs reply r None = tt
call_short d funcs reply r (Some call) = replied_short d (slice_get funcs call.func) r (reply call)

by_short : (d : Declared) (funcs : List FuncDesc) (reply : Handled → Reply) (r : Request) (call : Option Handled) (code : Option ℤ)
    → IfSome (answered_by d funcs reply r call code) IsShort
by_short d funcs reply r call (Some code) = code_short r code
by_short d funcs reply r call None = call_short d funcs reply r call

pub answered_short : (d : Declared) (interface : ℕ) (name : List ℕ) (reply : Handled → Reply) (r : Request) (now : ℕ)
    → IfSome (answered d interface name reply r now) IsShort
unfolding answered
answered_short d interface name reply r now = by_test (is_one r.kind)
  where
    by_test : (b : Bool) → IfSome (cond b None (answered_two_way d interface name reply r now)) IsShort
    by_test true = tt
    by_test false = by_short d (functions_of d interface) reply r (asked_call d (functions_of d interface) r now) (refusal d interface name r)

pub unseen_short : (r : Request) (code : ℤ) → IfSome (unseen r code) IsShort
unfolding unseen
unseen_short r code = by_test (is_one r.kind)
  where
    by_test : (b : Bool) → IfSome (cond b None (Some (code_alone r code))) IsShort
    by_test true = tt
    by_test false = code_short r code
