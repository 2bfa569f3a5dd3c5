use Rattle.std.proofs.Common.{◌∙◌, arith, suc, ◌+◌, ◌≡◌, ℕ}
use Rattle.run_engine.proofs.Desks.{one_comes}
use Rattle.run_engine.proofs.caller.take_in.Goals as goal

next : (n m : ℕ) → n ≡ m → n + 1 ≡ suc m
next n m e = omega (arith, e)

pub returns : goal.returns
returns g c = λ s d t.
    one_comes g.T.Claims.IsOf s c.args.node _ d c.args.packet _ c.in_ok-reply.reply c.args.table.now c.settle-fate.new.table c.args.got.now.items c.push.new.self.items
    c.settle-fate.result t c.in_ok-reply.ensures.read (next _ _ (c.len.ensures ∙ c.args.got.now.ok.0)) (c.from_vec-packet.ensures ∙ c.into_vec.ensures.value)
    c.settle-fate.ensures.fate c.settle-fate.ensures.settled c.in_ok-push.ensures.items
