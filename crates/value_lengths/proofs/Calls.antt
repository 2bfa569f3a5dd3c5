-- The arguments of a call that a text says are short, and its request is a packet.
use Rattle.std.proofs.Common.{◌≤◌, ◌*◌, ℕ, Bool, true, false, ◌==◌, cond, List, [], ◌∷◌, length, ap, arith, length-append}
use Rattle.tars_model.specs.Declarations.{Declared}
use Rattle.tars_model.specs.declared.member.Member.{Member}
use Rattle.tars_model.specs.declared.value.Value.{Value}
use Rattle.tars_codec.specs.Spellings.{spelled_members}
use Rattle.tars_codec.specs.Written.{written}
use Rattle.tars_frames.specs.Streams.{LONGEST}
use Rattle.rpc_packet.specs.Packets.{request_frame}
use Rattle.rpc_packet.specs.declared.request.Request.{Request}
use Rattle.rpc_packet.proofs.CallerLemmas.{request_length}
use Rattle.script_values.specs.Args.{SPACE, past_spaces, SaysArgs}
use Rattle.value_lengths.specs.SaidCalls.{GROWTH, IsSaidCall}
use Rattle.value_lengths.proofs.Values.{value_short}

past_spaces_shorter : (text : List ℕ) → length (past_spaces text) ≤ length text
past_spaces_shorter [] = omega arith
past_spaces_shorter (b ∷ text) = by_test (b == SPACE) (past_spaces_shorter text)
  where
    by_test : (space : Bool) → length (past_spaces text) ≤ length text → length (cond space (past_spaces text) (b ∷ text)) ≤ length (b ∷ text)
    by_test true less = omega (arith, less)
    by_test false less = omega arith

members_short : (d : Declared) (members : List Member) (values : List Value) (text : List ℕ) → SaysArgs d members values text
    → length (spelled_members d members values) ≤ GROWTH * length text
members_short d [] [] text says = omega arith
members_short d [] (v ∷ vs) text says = absurd says
members_short d (m ∷ ms) [] text says = absurd says
members_short d (m ∷ ms) (v ∷ vs) text says =
    let gap = past_spaces_shorter text in
    let one = value_short m.tag says.1 in
    let left = members_short d ms vs says.0 says.3 in
    simp length-append (omega (arith, gap, one, left))

pub arguments_short : (d : Declared) (members : List Member) (values : List Value) (text : List ℕ) → SaysArgs d members values text
    → length (written d members values) ≤ GROWTH * length text
unfolding written
arguments_short d members values text says = members_short d members values text says

pub said_packet : (d : Declared) (members : List Member) (text : List ℕ) (r : Request) → IsSaidCall d members text r → length (request_frame r) ≤ LONGEST
said_packet d members text r said =
    let most = request_length r said.context said.status in
    let body = ap length said.body in
    let short = arguments_short d members said.values text said.says in
    omega (arith, most, body, short, said.line, said.servant, said.func)
