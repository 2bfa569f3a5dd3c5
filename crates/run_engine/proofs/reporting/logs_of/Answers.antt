use Rattle.std.proofs.Common.{◌≡◌, ℕ, List, [], ◌∷◌, length, ap, refl, arith}
use Rattle.run_engine.specs.declared.link_ends.LinkEnds.{LinkEnds}
use Rattle.run_engine.proofs.Reports.{link_first, one_log, no_logs_left}
use Rattle.run_engine.proofs.reporting.logs_of.Goals as goal

pub overflow_add-node : goal.overflow_add-node
overflow_add-node c = let more = ap length c.in-Some.ensures.steps.0 in record { fits = omega (arith, c.loop-ends.invariant.2, more) }

pub loop-ends-preserved : goal.loop-ends-preserved
loop-ends-preserved c = (
  tt,
  tt,
  (let more = ap length c.in-Some.ensures.steps.0 in omega (arith, c.loop-ends.invariant.2, more)),
  λ s cs t.
      let left = c.loop-ends.invariant.3 s cs t in
      let f = link_first s c.in-Some.ends c.next.new.self.rest.items c.loop-ends.ends-iterator.rest.items c.loop-ends.node c.loop-ends.logs _ left.0 c.in-Some.ensures.steps.0 left.1 left.2 in
      (f.others, f.others_track, one_log c.loop-ends.node c.loop-ends.logs c.push.new.self _ c.in_ok-into_log.field-0 f.link f.others f.logs_are (c.in_ok-into_log.ensures s f.link f.tracks) c.in_ok-push.ensures.ok),
)

empty : (xs : List LinkEnds) (n : ℕ) → n ≡ length xs → n ≡ 0 → xs ≡ []
empty [] n e f = refl
empty (x ∷ xs) n e f = absurd (omega (arith, e, f))

pub returns : goal.returns
returns c = λ s cs t.
    let left = c.loop-ends.invariant.3 s cs t in
    no_logs_left s c.loop-ends.ends-iterator.rest.items c.loop-ends.node c.loop-ends.logs _ left.0
    (empty c.loop-ends.ends-iterator.rest.items c.loop-ends.ends-iterator.rest.len c.loop-ends.ends-iterator.rest.ok.0 c.in-None.ensures.steps.0) left.1 left.2
