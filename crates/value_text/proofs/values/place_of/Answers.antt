use Rattle.std.proofs.Common.{sym, ◌∙◌, arith}
use Rattle.tars_model.specs.Values.{key_of}
use Rattle.tars_model.specs.declared.value.Value.{out-Value}
use Rattle.value_text.proofs.Places.{found_behind, none_there}
use Rattle.value_text.proofs.values.place_of.Goals as goal

pub returns-then-is_below-2-clause-place : goal.returns-then-is_below-2-clause-place
returns-then-is_below-2-clause-place c =
    found_behind (key_of (out-Value c.args.key.now)) c.args.pairs.now c.places.at c.index-pairs-at.result (omega (arith, c.places-test.true)) c.places.invariant.within c.index-pairs-at.is c.places.invariant.above (sym c.is_below.ensures ∙ c.if-is_below.false) (sym c.is_below-else-is_below.ensures ∙ c.if-is_below-2.true)

pub returns-else-is_below-2-clause-place : goal.returns-else-is_below-2-clause-place
returns-else-is_below-2-clause-place c =
    none_there (key_of (out-Value c.args.key.now)) c.args.pairs.now c.places.at c.index-pairs-at.result (omega (arith, c.places-test.true)) c.places.invariant.within c.index-pairs-at.is c.places.invariant.above (sym c.is_below.ensures ∙ c.if-is_below.false) (sym c.is_below-else-is_below.ensures ∙ c.if-is_below-2.false)
