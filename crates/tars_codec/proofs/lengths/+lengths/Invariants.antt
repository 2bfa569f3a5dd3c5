use Rattle.std.proofs.Common.{◌≡◌, ◌≤◌, ◌+◌, ◌-◌, ◌^◌, min, true, drop, length}
use Rattle.std.specs.Iterator.Adapters.{zip_first, zip_second}
use Rattle.std.specs.Slice.Iter.{iter_rest}
use Rattle.tars_model.specs.Values.{fit_members}
use Rattle.tars_codec.specs.Spellings.{spelled_elements, spelled_entries, spelled_members}
use Rattle.tars_codec.proofs.lengths.+lengths.Given as goal

abbrev pub invariant-elements_len-loop-value : goal.invariant-elements_len-loop-value
invariant-elements_len-loop-value l = record {
  small : l.len ≤ 2 ^ 64 - 1;
  so_far : min (l.len + length (spelled_elements l.schema l.of (drop l.value-index l.values))) (2 ^ 64 - 1) ≡ min (length (spelled_elements l.schema l.of l.values)) (2 ^ 64 - 1);
}

abbrev pub invariant-entries_len-loop-pair : goal.invariant-entries_len-loop-pair
invariant-entries_len-loop-pair l = record {
  small : l.len ≤ 2 ^ 64 - 1;
  so_far : min (l.len + length (spelled_entries l.schema l.key l.to (drop l.pair-index l.pairs))) (2 ^ 64 - 1) ≡ min (length (spelled_entries l.schema l.key l.to l.pairs)) (2 ^ 64 - 1);
}

abbrev pub invariant-members_len-loop-member : goal.invariant-members_len-loop-member
invariant-members_len-loop-member l =
    let members = iter_rest (zip_first l.member-iterator) in
    let values = iter_rest (zip_second l.member-iterator) in
    record {
      ready : (goal.iterator-members_len-loop-member).can_next l.member-iterator;
      finite : (goal.iterator-members_len-loop-member).is_finite l.member-iterator;
      fit : fit_members l.schema members values ≡ true;
      small : l.len ≤ 2 ^ 64 - 1;
      so_far : min (l.len + length (spelled_members l.schema members values)) (2 ^ 64 - 1) ≡ min (length (spelled_members l.schema l.members l.values)) (2 ^ 64 - 1);
    }
