use Rattle.std.proofs.Common.{sym, ◌∙◌, arith}
use Rattle.tars_model.specs.Values.{key_of}
use Rattle.tars_model.specs.declared.value.Value.{out-Value}
use Rattle.tars_decode.proofs.Places.{place_here, place_none, place_on, place_at_first}
use Rattle.tars_decode.proofs.keys.place.Goals as goal

pub returns-then-is_below-clause-place : goal.returns-then-is_below-clause-place
returns-then-is_below-clause-place c =
    place_here (key_of (out-Value c.args.key.now)) c.args.pairs.now c.loop-at.at c.index-pairs-at.result c.loop-at-test.true c.loop-at.invariant.0 c.requires (sym c.is_below.ensures ∙ c.if-is_below.true) c.loop-at.invariant.1

pub returns-then-not-is_below-clause-place : goal.returns-then-not-is_below-clause-place
returns-then-not-is_below-clause-place c =
    place_none (key_of (out-Value c.args.key.now)) c.args.pairs.now c.loop-at.at c.index-pairs-at.result c.loop-at-test.true c.loop-at.invariant.0 (sym c.is_below.ensures ∙ c.if-is_below.false) (sym c.is_below-in-loop-at.ensures ∙ cc) c.loop-at.invariant.1

pub loop-at-preserved : goal.loop-at-preserved
loop-at-preserved c =
    (omega arith, place_on (key_of (out-Value c.args.key.now)) c.args.pairs.now c.loop-at.at c.index-pairs-at.result c.loop-at-test.true c.loop-at.invariant.0 (sym c.is_below-in-loop-at.ensures ∙ cc) c.loop-at.invariant.1)

pub returns-clause-place : goal.returns-clause-place
returns-clause-place c =
    place_at_first (key_of (out-Value c.args.key.now)) c.args.pairs.now c.loop-at.at c.loop-at-test.false c.loop-at.invariant.1
