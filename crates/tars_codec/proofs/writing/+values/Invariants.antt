use Rattle.std.proofs.Common.{◌≡◌, ◌+◌, ◌++◌, true, drop, length}
use Rattle.std.specs.Iterator.Adapters.{zip_first, zip_second}
use Rattle.std.specs.Slice.Iter.{iter_rest}
use Rattle.tars_model.specs.Values.{fit_members}
use Rattle.tars_codec.specs.Spellings.{spelled_elements, spelled_entries, spelled_members}
use Rattle.tars_codec.proofs.writing.+values.Given as goal

abbrev pub invariant-put_elements-loop-value : goal.invariant-put_elements-loop-value
invariant-put_elements-loop-value l =
    let left = spelled_elements l.schema l.of (drop l.value-index l.values) in
    let all = spelled_elements l.schema l.of l.values in
    record {
      so_far : l.out.items ++ left ≡ l.fn.out.items ++ all;
      room : l.out.spare + length all ≡ l.fn.out.spare + length left;
    }

abbrev pub invariant-put_entries-loop-pair : goal.invariant-put_entries-loop-pair
invariant-put_entries-loop-pair l =
    let left = spelled_entries l.schema l.key l.to (drop l.pair-index l.pairs) in
    let all = spelled_entries l.schema l.key l.to l.pairs in
    record {
      so_far : l.out.items ++ left ≡ l.fn.out.items ++ all;
      room : l.out.spare + length all ≡ l.fn.out.spare + length left;
    }

abbrev pub invariant-put_members-loop-member : goal.invariant-put_members-loop-member
invariant-put_members-loop-member l =
    let members = iter_rest (zip_first l.member-iterator) in
    let values = iter_rest (zip_second l.member-iterator) in
    let left = spelled_members l.schema members values in
    let all = spelled_members l.schema l.members l.values in
    record {
      ready : (goal.iterator-put_members-loop-member).can_next l.member-iterator;
      finite : (goal.iterator-put_members-loop-member).is_finite l.member-iterator;
      fit : fit_members l.schema members values ≡ true;
      so_far : l.out.items ++ left ≡ l.fn.out.items ++ all;
      room : l.out.spare + length all ≡ l.fn.out.spare + length left;
    }
