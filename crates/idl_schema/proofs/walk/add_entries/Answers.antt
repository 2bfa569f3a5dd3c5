use Rattle.std.proofs.Common.{drop, subst, sym, ap, ◌∙◌, ◌+◌}
use Rattle.idl_schema.specs.Faultless.{CanAddEntries, with_entry}
use Rattle.idl_schema.proofs.KeyCounts.{entry_few, next_entry_few}
use Rattle.idl_schema.proofs.Walking.{left_is, walked_more, rest_entries}
use Rattle.idl_schema.proofs.walk.add_entries.Goals as goal

pub add_entry-requires-clause-can : goal.add_entry-requires-clause-can
add_entry-requires-clause-can c = (
  drop (c.loop-entry.entry-index + 1) c.args.entries.now,
  subst (CanAddEntries c.loop-entry.building.schema c.args.text.now) (left_is c.args.entries.now c.loop-entry.entry-index c.entry-item.result c.loop-entry-test.true c.entry-item.is) c.loop-entry.invariant.can,
)

pub add_entry-requires-clause-few : goal.add_entry-requires-clause-few
add_entry-requires-clause-few c = entry_few c.args.text.now c.loop-entry.building.schema c.args.entries.now c.loop-entry.entry-index c.entry-item.result c.loop-entry-test.true c.entry-item.is c.loop-entry.invariant.few

pub loop-entry-preserved : goal.loop-entry-preserved
loop-entry-preserved c = record {
  made = c.in_ok-add_entry.ensures.made ∙ ap (λ d. with_entry c.args.text.now d c.entry-item.result) c.loop-entry.invariant.made
      ∙ sym (walked_more (with_entry c.args.text.now) c.args.building.now.schema c.args.entries.now c.loop-entry.entry-index c.entry-item.result c.loop-entry-test.true c.entry-item.is);
  can = subst (λ d. CanAddEntries d c.args.text.now (drop (c.loop-entry.entry-index + 1) c.args.entries.now)) (sym c.in_ok-add_entry.ensures.made)
      (rest_entries c.loop-entry.building.schema c.args.text.now c.entry-item.result (drop (c.loop-entry.entry-index + 1) c.args.entries.now)
      (subst (CanAddEntries c.loop-entry.building.schema c.args.text.now) (left_is c.args.entries.now c.loop-entry.entry-index c.entry-item.result c.loop-entry-test.true c.entry-item.is) c.loop-entry.invariant.can));
  few = next_entry_few c.args.text.now c.loop-entry.building.schema c.args.entries.now c.loop-entry.entry-index c.entry-item.result c.loop-entry-test.true c.entry-item.is c.loop-entry.invariant.few _ c.in_ok-add_entry.ensures.made;
  named = c.in_ok-add_entry.ensures.named;
}
