use Rattle.std.proofs.Common.{refl, ap, ◌≡◌, ℕ, List, [], ◌∷◌, length, fold, arith}
use Rattle.run_course.specs.Courses.{came}
use Rattle.run_engine.proofs.Desks.{leads_on, all_led}
use Rattle.run_engine.proofs.caller.take_all_in.Goals as goal

pub loop-packet-init : goal.loop-packet-init
loop-packet-init g c = λ s d t. record { desk = d; tracks = t; ends = ap (λ packets. fold (came s c.args.node) d packets) c.into_iter-packet-iterator.ensures.into_iter_gives.0 }

pub loop-packet-preserved : goal.loop-packet-preserved
loop-packet-preserved g c = λ s d t.
    let l = c.loop-packet.invariant s d t in
    leads_on g.T.Claims.IsOf s c.args.node c.loop-packet.table c.take_in.new.table c.loop-packet.got.items c.take_in.new.got.items c.in-Some.packet
    c.loop-packet.packet-iterator.rest.items c.next.new.self.rest.items _ l c.in-Some.ensures.steps.0 (c.in_ok-take_in.ensures s l.desk l.tracks)

empty : (xs : List (List ℕ)) (n : ℕ) → n ≡ length xs → n ≡ 0 → xs ≡ []
empty [] n e f = refl
empty (x ∷ xs) n e f = absurd (omega (arith, e, f))

pub returns : goal.returns
returns g c = λ s d t.
    all_led g.T.Claims.IsOf s c.args.node c.loop-packet.table c.loop-packet.got.items c.loop-packet.packet-iterator.rest.items _ (c.loop-packet.invariant s d t)
    (empty c.loop-packet.packet-iterator.rest.items c.loop-packet.packet-iterator.rest.len c.loop-packet.packet-iterator.rest.ok.0 c.in-None.ensures.steps.0)
